-- The notification of the diagnostics on a document to a client.
use Rattle.std.specs.Fmt.{signed_decimal}
use Rattle.std.specs.Prelude.{ℕ, ◌+◌, ◌-◌, ◌^◌, ℤ, List, map, min, Option, Some, None, codes, decimal}
use Rattle.json.specs.Json.{Json, Members, array, item, member, no_items, no_members, number, object, string}
use Rattle.json.specs.Value.{items_of}
use Rattle.line_index.specs.declared.PositionEncoding.{PositionEncoding}
use Rattle.rpc_messages.specs.Messages.{IsNotificationOf}
use Rattle.editor_diagnostics.specs.Diagnostics.{Diagnosis, severity_number}
use Rattle.editor_diagnostics.specs.Positions.{IsReadAt, position_of, range_value}

-- ---- diagnostics

-- a brace, which is one byte; no offset is greater than 2 ^ 64 - 1
abbrev pub brace_range : PositionEncoding → List ℕ → ℕ → Json
brace_range encoding text brace =
    range_value (position_of encoding text brace) (position_of encoding text (min (brace + 1) (2 ^ 64 - 1)))

-- `Location` (Language Server Protocol 3.17)
abbrev pub brace_location : List ℕ → PositionEncoding → List ℕ → ℕ → Json
brace_location uri encoding text brace =
    object (member (codes "uri") (string uri) (member (codes "range") (brace_range encoding text brace) no_members))

-- `DiagnosticRelatedInformation`
abbrev pub brace_information : List ℕ → PositionEncoding → List ℕ → ℕ → Json
brace_information uri encoding text brace =
    object (member (codes "location") (brace_location uri encoding text brace)
    (member (codes "message") (string (codes "this { is never closed")) no_members))

-- a brace that is named
abbrev pub related_members : List ℕ → PositionEncoding → List ℕ → Option ℕ → Members
related_members uri encoding text None = no_members
related_members uri encoding text (Some brace) =
    member (codes "relatedInformation") (array (item (brace_information uri encoding text brace) no_items)) no_members

-- what follows the range, and then other members
abbrev pub members_of_diagnostic : Diagnosis → Members → Members
members_of_diagnostic r others =
    member (codes "code") (string r.code) (member (codes "severity") (number (decimal (severity_number r.severity)))
    (member (codes "source") (string (codes "gqlls")) (member (codes "message") (string r.message) others)))

-- `Diagnostic` (Language Server Protocol 3.17), in the document with this name
abbrev pub diagnostic_value : List ℕ → PositionEncoding → List ℕ → Diagnosis → Json
diagnostic_value uri encoding text r =
    object (member (codes "range") (range_value (position_of encoding text r.start) (position_of encoding text r.end))
    (members_of_diagnostic r (related_members uri encoding text r.open_brace)))

-- ---- notifications

abbrev pub method : List ℕ
method = codes "textDocument/publishDiagnostics"

-- `PublishDiagnosticsParams`
abbrev pub publish_params : List ℕ → Option ℤ → List Json → Members
publish_params uri (Some version) diagnostics =
    member (codes "uri") (string uri) (member (codes "version") (number (signed_decimal version))
    (member (codes "diagnostics") (array (items_of diagnostics)) no_members))
publish_params uri None diagnostics =
    member (codes "uri") (string uri) (member (codes "diagnostics") (array (items_of diagnostics)) no_members)

-- the body is the notification of these diagnostics of a document
abbrev pub IsNotificationAbout : List ℕ → Option ℤ → List Json → List ℕ → Type 0
IsNotificationAbout uri version diagnostics body = IsNotificationOf method (publish_params uri version diagnostics) body

-- the body has these diagnostics on this text, at the positions where a client reads them
pub record IsPublication
    (uri : List ℕ) (version : Option ℤ) (encoding : PositionEncoding) (text : List ℕ) (diagnostics : List Diagnosis)
    (body : List ℕ) : Type 0 where
  pub notification : IsNotificationAbout uri version (map (diagnostic_value uri encoding text) diagnostics) body
  pub read : (offset : ℕ) → IsReadAt encoding text offset (position_of encoding text offset)
