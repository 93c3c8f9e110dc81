-- The errors of a document by its definitions.
use Rattle.std.specs.Prelude.{ℕ, Bool, not, nat_lt, List, [], ◌∷◌, length, drop, map}
use Rattle.std.specs.Prelude.{flat_map, take_while}
use Rattle.apollo_parser.specs.Children.{child_nodes}
use Rattle.apollo_parser.specs.Diagnostics.{Diagnostic}
use Rattle.apollo_parser.specs.Order.{Place, range_at}

-- where the definitions of a document begin
abbrev pub definition_starts : Place → List ℕ
definition_starts document = map (λ node. (range_at node).0) (child_nodes document)

-- the error is not after the beginning of a definition, so it is not this definition's
abbrev pub is_earlier : ℕ → Diagnostic → Bool
is_earlier start error = not (nat_lt start error.index)

-- An error belongs to the last definition that begins before it, and where none does, to the front of the text. Errors
-- are in the order of the text, so those of the front come first, and then those of each definition.
abbrev pub by_definition : List ℕ → List Diagnostic → List (List Diagnostic)
by_definition [] errors = errors ∷ []
by_definition (start ∷ starts) errors =
    let these = take_while (is_earlier start) errors in these ∷ by_definition starts (drop (length these) errors)

-- the first of some errors, and how many others there are
pub record Group : Type 0 where
  pub first : Diagnostic
  pub others : ℕ

abbrev pub group_of : List Diagnostic → List Group
group_of [] = []
group_of (error ∷ errors) = record { first = error; others = length errors } ∷ []

-- a group for each definition that has errors
abbrev pub groups : List ℕ → List Diagnostic → List Group
groups starts errors = flat_map group_of (by_definition starts errors)
