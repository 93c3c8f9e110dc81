-- Texts that a validation finds to be valid.
use Rattle.std.specs.Prelude.{ℕ, List, [], ◌∷◌, Option}
use Rattle.apollo_parser.specs.Parsed.{Parsed}
use Rattle.document_validation.specs.Breaches.{AreValid}
use Rattle.document_validation.specs.Validation.{AreDecided}
use Rattle.c_validation.specs.Outcomes.{IsDocumentParse, root}

-- The text is a document within both limits that keeps all rules, and the steps suffice to decide that.
pub record IsValidText (source : List ℕ) (max_depth max_items : ℕ) (limit : Option ℕ) : Type 0 where
  pub parsed : Parsed
  pub parse : IsDocumentParse source max_depth max_items parsed
  pub valid : AreValid (root parsed ∷ [])
  pub decided : AreDecided limit (root parsed ∷ [])
