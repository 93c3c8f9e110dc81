-- Results of a SARIF log (SARIF 2.1.0).
use Rattle.std.specs.List.{starts_with}
use Rattle.std.specs.Prelude.{ℕ, Bool, true, false, eqb, List, [], ◌++◌, codes, drop, if◌then◌else◌}
use Rattle.json.specs.Json.{Json, Members, array, item, member, no_items, no_members, object, string}
use Rattle.percent_encoding.specs.Percent.{percent_encode}
use Rattle.marked_lines.specs.Places.{column_number, line_number}
use Rattle.gqlcheck_run.specs.Numbers.{json_number}
use Rattle.gqlcheck_run.specs.declared.sarif_results.TheConstants.{ESCAPED}

-- ---- the files (section 3.4.3, `uri`): a URI, or a reference relative to the working folder (RFC 3986, section 4)

-- what comes before the path: one from the root on is a URI of a file (RFC 8089)
abbrev pub scheme_of : List ℕ → List ℕ
scheme_of path = if starts_with eqb path (codes "/") then codes "file://" else []

-- a path without `./` before it
abbrev pub plain : List ℕ → List ℕ
plain path = if starts_with eqb path (codes "./") then drop 2 path else path

abbrev pub artifact_uri : List ℕ → List ℕ
artifact_uri path = scheme_of path ++ percent_encode ESCAPED (plain path)

-- ---- places

-- a file (section 3.4)
abbrev pub artifact_location : List ℕ → Json
artifact_location uri = object (member (codes "uri") (string uri) no_members)

-- a region of it (section 3.30), which begins at a byte offset
abbrev pub region_members : List ℕ → ℕ → Members → Members
region_members source offset others =
    member (codes "startLine") (json_number (line_number source offset))
    (member (codes "startColumn") (json_number (column_number source offset)) others)

abbrev pub region : List ℕ → ℕ → Members → Json
region source offset others = object (region_members source offset others)

-- both (section 3.29)
abbrev pub physical_location : List ℕ → List ℕ → ℕ → Members → Json
physical_location uri source offset others =
    object (member (codes "artifactLocation") (artifact_location uri)
    (member (codes "region") (region source offset others) no_members))

-- the locations of a result, of which there is one
abbrev pub locations : List ℕ → List ℕ → ℕ → Members → Json
locations uri source offset others =
    array (item (object (member (codes "physicalLocation") (physical_location uri source offset others) no_members))
    no_items)

-- a result (section 3.27) there, with other members of its region and of its own
abbrev pub result_at : List ℕ → List ℕ → ℕ → Members → Members → Json
result_at uri source offset within others =
    object (member (codes "locations") (locations uri source offset within) others)

-- what comes before a result, by whether one comes before it
abbrev pub separator : Bool → List ℕ
separator true = codes ","
separator false = []
