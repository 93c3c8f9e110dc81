-- What a validation finds, of the rules and in the documents that are selected, and within a number of steps.
use Rattle.std.specs.Prelude.{◌≡◌, ℕ, ◌<◌, ◌≤◌, List, [], length, map, slice_index, Option, None, option_map, IfSome}
use Rattle.apollo_tree.specs.Order.{Place}
use Rattle.validation_names.specs.Sites.{Located, as_located}
use Rattle.validation_rules.specs.Parts.{operations, parts_in, site_at}
use Rattle.validation_rules.specs.Violations.{as_breach, selected}
use Rattle.validation_rules.specs.declared.selection.Selection.{Selection}
use Rattle.variable_rules.specs.Steps.{EndsAt}
use Rattle.document_validation.specs.Breaches.{AreFound, breaches, breaches_before}
use Rattle.document_validation.specs.declared.validation.Validation.{Validation}
use Rattle.document_validation.specs.declared.validation.ValidationOptions.{ValidationOptions}

-- Nothing that is selected breaks a rule.
abbrev pub AreValidIn : Selection → List Place → Type 0
AreValidIn selection documents = selected selection (breaches documents) ≡ []

-- Of the operations of some documents, validation ends before the one with this number, or before none.
abbrev pub ValidationEndsAt : Option ℕ → List Place → Option ℕ → Type 0
ValidationEndsAt steps documents ended_at =
    EndsAt steps (parts_in documents) (operations (parts_in documents)) ended_at

-- The steps suffice for all operations.
abbrev pub AreDecided : Option ℕ → List Place → Type 0
AreDecided steps documents = ValidationEndsAt steps documents None

-- the operation with a number
abbrev pub operation_site : List Place → ℕ → Located
operation_site documents number = site_at (parts_in documents) (slice_index (operations (parts_in documents)) number)

-- What a validation finds.
pub record IsValidation (options : ValidationOptions) (documents : List Place) (validation : Validation) : Type 0 where
  -- the first breaches that are selected, up to a bound, in the order of the text: on variables, those of the
  -- operations before the one at which the steps are used up
  pub found : (end : Option ℕ) → ValidationEndsAt options.steps documents end
      → AreFound options.most (selected options.selection (breaches_before end documents))
      (map as_breach validation.violations.items)
  -- the operation before which it ended
  pub ended_at : Option ℕ
  pub undecided : option_map as_located validation.undecided ≡ option_map (operation_site documents) ended_at
  pub inside : IfSome ended_at (λ number. number < length (operations (parts_in documents)))
  -- Where there is room for more violations, that is where the steps are used up.
  pub ended : length validation.violations.items < options.most
      → ValidationEndsAt options.steps documents ended_at
  -- Where the list is full, no operation is named.
  pub full : options.most ≤ length validation.violations.items → validation.undecided ≡ None
