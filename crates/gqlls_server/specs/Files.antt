-- The files that a client has open, and what of them is GraphQL.
use Rattle.std.specs.Prelude.{◌≡◌, ℕ, ◌||◌, if◌then◌else◌, List, Option, Some, None, MatchOption}
use Rattle.std.specs.Prelude.{codes, bytes_eq}
use Rattle.apollo_parser.specs.declared.Limits.{Limits}
use Rattle.editor_text.specs.Client.{Opened}
use Rattle.embedded_documents.specs.Masked.{IsMasked}
use Rattle.embedded_documents.specs.declared.scanner.HostLanguage.{HostLanguage}
use Rattle.embedded_documents.specs.declared.scanner.HostLanguage.TheVariants.{JavaScript, Python}

-- a file: its text, its language where that isn't GraphQL, and the limits of its parse
pub record OpenFile : Type 0 where
  pub content : Opened
  pub host : Option HostLanguage
  pub limits : Limits

-- the language that a `languageId` names; any other is taken for GraphQL
abbrev pub host_named : List ℕ → Option HostLanguage
host_named name =
    if bytes_eq name (codes "javascript") || (bytes_eq name (codes "javascriptreact")
    || (bytes_eq name (codes "typescript") || bytes_eq name (codes "typescriptreact"))) then Some JavaScript
    else (if bytes_eq name (codes "python") then Some Python else None)

-- the text that is parsed: the file's own, or in another language the masked one
abbrev pub IsSource : OpenFile → List ℕ → Type 0
IsSource file source = MatchOption file.host (source ≡ file.content.text) (λ host. IsMasked file.content.text source)
