-- What parsing finds in a text.
use Rattle.std.specs.Prelude.{◌≡◌, ℕ, zero, suc, List, [], length, All, IsAscii}
use Rattle.apollo_parser.specs.Answers.{limited}
use Rattle.apollo_parser.specs.Cut.{Cut}
use Rattle.apollo_parser.specs.Derivation.{document}
use Rattle.apollo_parser.specs.Diagnostics.{Diagnostic}
use Rattle.apollo_parser.specs.Parsed.{ErrorsOf}
use Rattle.apollo_parser.specs.Reads.{items_of}
use Rattle.apollo_parser.specs.Sentence.{Sentence, Within}
use Rattle.apollo_parser.specs.Tree.{Tree}
use Rattle.apollo_parser.specs.declared.Limits.{Limits}
use Rattle.gqlcst_run.specs.declared.finding.Finding.{Finding}
use Rattle.gqlcst_run.specs.declared.finding.Finding.TheVariants.{Clean, Errors}

-- the finding for a number of errors
abbrev pub finding_of : ℕ → Finding
finding_of zero = Clean
finding_of (suc n) = Errors (suc n)

-- the text is a sentence within both limits
pub record IsAccepted (limits : Limits) (text : List ℕ) : Type 0 where
  pub tree : Tree
  pub sentence : Sentence text tree document
  pub within : Within text tree limits.recursion limits.tokens

-- These errors are found in the text, and so the finding. They go along its items, and there are none exactly where the
-- text is a sentence within both limits. For an ASCII text their printed forms are stated.
pub record IsFound (limits : Limits) (text : List ℕ) (errors : List Diagnostic) (finding : Finding) : Type 0 where
  pub cut : Cut text (items_of text)
  pub reported : ErrorsOf (limited limits.tokens (items_of text)) errors
  pub ascii : IsAscii text → All (λ error. IsAscii error.message) errors
  pub accepted : errors ≡ [] → IsAccepted limits text
  pub accepts : IsAccepted limits text → errors ≡ []
  pub counted : finding ≡ finding_of (length errors)
