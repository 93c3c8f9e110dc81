-- What steps through a file may say.
use Rattle.std.specs.Prelude.{◌≡◌, ℕ, Bool, true, List}
use Rattle.embedded_documents.specs.Masked.{HasTag}
use Rattle.embedded_documents.specs.declared.scanner.Context.{Context}
use Rattle.embedded_documents.specs.declared.scanner.Context.TheVariants.{Braces, Quoted, Escaped}
use Rattle.embedded_documents.specs.declared.scanner.Move.{Move}
use Rattle.embedded_documents.specs.declared.scanner.Move.TheVariants.{Stay, Enter, Leave}

-- a text with a document has a tag
abbrev pub IsTagged : List ℕ → Bool → Type 0
IsTagged text is_document = is_document ≡ true → HasTag text

-- so it is in this context
abbrev pub IsContextIn : List ℕ → Context → Type 0
IsContextIn text (Braces is_in_template) = Unit {0}
IsContextIn text (Quoted quote is_document) = IsTagged text is_document
IsContextIn text (Escaped quote is_document) = IsTagged text is_document

-- so it is in the context that is entered
abbrev pub IsMoveIn : List ℕ → Move → Type 0
IsMoveIn text Stay = Unit {0}
IsMoveIn text (Enter context) = IsContextIn text context
IsMoveIn text Leave = Unit {0}
