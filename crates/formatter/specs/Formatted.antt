-- The outcome of formatting: another layout of the same document, or the errors of a text that is no document.
use Rattle.std.specs.Prelude.{◌≡◌, ◌≢◌, ◌<◌, ℕ, List, [], length}
use Rattle.document_grammar.specs.Derivation.{document, nest}
use Rattle.document_grammar.specs.Sentence.{Sentence, Within}
use Rattle.document_grammar.specs.Tree.{Tree}
use Rattle.apollo_lexer.specs.Diagnostics.{Diagnostic}
use Rattle.apollo_parser.specs.Parsed.{Parsed}
use Rattle.apollo_parser.specs.Promise.{Promise}
use Rattle.format_layout.specs.Formatted.{Formatted}
use Rattle.format_layout.specs.Lengths.{longest_layout}

-- The text is a document that nests at most r deep and has at most k items.
pub record IsDocument (source : List ℕ) (r k : ℕ) : Type 0 where
  pub tree : Tree
  pub sentence : Sentence source tree document
  pub within : Within source tree r k

-- The source is a document within both limits, and the text is that document with another layout.
pub record IsFormatted (source : List ℕ) (r k : ℕ) (text : List ℕ) : Type 0 where
  pub document : IsDocument source r k
  pub formatted : Formatted source text

-- The source is such a document. As deep as its own tree nests, which is its only derivation, a formatted text can have
-- more than `most` bytes.
pub record MayExceed (source : List ℕ) (r k most : ℕ) : Type 0 where
  pub document : IsDocument source r k
  pub longer : most < longest_layout (nest document.tree) (length source)

-- The source is no document within both limits. These are the errors of its parse, with all that `Parser::parse`
-- promises of them, and there is at least one.
pub record IsRefused (source : List ℕ) (r k : ℕ) (errors : List Diagnostic) : Type 0 where
  pub no_document : ¬ IsDocument source r k
  pub parsed : Parsed
  pub promise : Promise source r k parsed
  pub errors_of : errors ≡ parsed.errors
  pub some : errors ≢ []

-- It is so with some errors.
abbrev pub IsNoDocument : List ℕ → ℕ → ℕ → Type 0
IsNoDocument source r k = (errors : List Diagnostic) × IsRefused source r k errors
