-- What a server keeps of a file: the text of it that is parsed, and its parse.
use Rattle.std.specs.Prelude.{◌≡◌, ◌≢◌, ◌⊎◌, ℕ, List, [], length}
use Rattle.apollo_parser.specs.Parsed.{Parsed}
use Rattle.apollo_parser.specs.Promise.{Promise}
use Rattle.apollo_parser.specs.declared.Limits.{Limits}
use Rattle.editor_validation.specs.Fragments.{Fragments, fragments_in}
use Rattle.gqlls_server.specs.Files.{IsSource, OpenFile}

-- the names of fragments in a parse
abbrev pub fragments_of : Parsed → Fragments
fragments_of parsed = fragments_in (record { whole = parsed.tree; index = 0 })

-- a parse of a text within limits
abbrev pub IsParse : Limits → List ℕ → Parsed → Type 0
IsParse limits text parsed = Promise text limits.recursion limits.tokens parsed

-- A text with errors may leave a quoted string open. Answers are then about a parse of a text as long as this one, in
-- which the string is closed.
pub record IsMended (limits : Limits) (source : List ℕ) (parsed shown : Parsed) : Type 0 where
  pub faulty : parsed.errors ≢ []
  pub closed : List ℕ
  pub as_long : length closed ≡ length source
  pub promise : IsParse limits closed shown

-- a file, the text of it that is parsed, the parse, the one that answers are about, and the names of fragments
pub record ParsedFile : Type 0 where
  pub file : OpenFile
  pub source : List ℕ
  pub parsed : Parsed
  pub shown : Parsed
  pub fragments : Fragments

-- The text is the file's, and the parse is its parse within the file's limits. Answers are about this parse, unless it
-- is mended.
pub record IsParsed (document : ParsedFile) : Type 0 where
  pub source : IsSource document.file document.source
  pub promise : IsParse document.file.limits document.source document.parsed
  pub shown : (document.shown ≡ document.parsed)
      ⊎ IsMended document.file.limits document.source document.parsed document.shown
  pub named : document.fragments ≡ fragments_of document.parsed
