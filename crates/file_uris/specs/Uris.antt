-- Files as URIs (RFC 8089, section 2, "Syntax").
use Rattle.std.specs.Char.{to_ascii_lowercase}
use Rattle.std.specs.Prelude.{◌==◌, ℕ, List, [], ◌∷◌, ◌++◌, Option, Some, None, codes, if◌then◌else◌, option_and_then}
use Rattle.std.specs.Prelude.{option_map, unwrap_or}
use Rattle.percent_encoding.specs.Percent.{percent_decode, percent_encode}
use Rattle.file_uris.specs.declared.TheConstants.{ESCAPED}

-- what follows a word, which may be spelled in any case (RFC 5234, section 2.3)
abbrev pub after_word : List ℕ → List ℕ → Option (List ℕ)
after_word [] text = Some text
after_word (w ∷ word) [] = None
after_word (w ∷ word) (c ∷ text) = if to_ascii_lowercase c == w then after_word word text else None

-- `path-absolute`: it begins with a slash
abbrev pub absolute : List ℕ → Option (List ℕ)
absolute [] = None
absolute (c ∷ rest) = if c == 47 then Some (c ∷ rest) else None

-- `auth-path = [ "localhost" ] path-absolute`
abbrev pub authority_path : List ℕ → Option (List ℕ)
authority_path text = absolute (unwrap_or (after_word (codes "localhost") text) text)

-- `file-hier-part = ( "//" auth-path ) / path-absolute`
abbrev pub hierarchical_path : List ℕ → Option (List ℕ)
hierarchical_path text = unwrap_or (option_map authority_path (after_word (codes "//") text)) (absolute text)

-- `file-URI = "file" ":" file-hier-part`: the path as it is spelled in a URI of a file of this machine
abbrev pub spelled_path : List ℕ → Option (List ℕ)
spelled_path uri = option_and_then hierarchical_path (after_word (codes "file:") uri)

-- The path of the file that a URI names. What the URI has as escapes (RFC 3986, section 2.1) are bytes of it.
abbrev pub path_of : List ℕ → Option (List ℕ)
path_of uri = option_map percent_decode (spelled_path uri)

-- a URI of a path
abbrev pub uri_of : List ℕ → List ℕ
uri_of path = codes "file://" ++ percent_encode ESCAPED path

-- the URI that `uri_of` gives for the path that a URI names
abbrev pub normalized : List ℕ → Option (List ℕ)
normalized uri = option_map uri_of (path_of uri)
