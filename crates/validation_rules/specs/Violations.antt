-- Breaches of rules, and lists of violations that are filled up to a bound.
use Rattle.std.specs.List.{filter}
use Rattle.std.specs.Prelude.{◌≡◌, ◌-◌, List, ◌++◌, length, map, take, Bool, Option, option_map}
use Rattle.validation_names.specs.Sites.{Located, as_located}
use Rattle.validation_rules.specs.Selection.{is_selected_at}
use Rattle.validation_rules.specs.declared.selection.Selection.{Selection}
use Rattle.validation_rules.specs.declared.violations.Rule.{Rule}
use Rattle.validation_rules.specs.declared.violations.Violation.{Violation}
use Rattle.validation_rules.specs.declared.violations.Violations.{Violations}

-- what breaks which rule, and the other party, if there is one
pub record Breach : Type 0 where
  pub rule : Rule
  pub site : Located
  pub other : Option Located

abbrev pub breach : Rule → Located → Option Located → Breach
breach rule site other = record { rule = rule; site = site; other = other }

abbrev pub as_breach : Violation → Breach
as_breach v = breach v.rule (as_located v.site) (option_map as_located v.other)

-- the breaches in a list of violations, in order
abbrev pub found : Violations → List Breach
found violations = map as_breach violations.list.items

-- the breach is selected
abbrev pub is_selected : Selection → Breach → Bool
is_selected selection b = is_selected_at selection b.rule b.site

-- those of some breaches that are selected
abbrev pub selected : Selection → List Breach → List Breach
selected selection breaches = filter (is_selected selection) breaches

-- Those of these breaches that are selected were added in this order, as many of them as there was room for, and
-- nothing else.
pub record Adds (breaches : List Breach) (old new : Violations) : Type 0 where
  pub most : new.most ≡ old.most
  pub selection : new.selection ≡ old.selection
  pub are : found new ≡ found old ++ take (old.most - length (found old)) (selected old.selection breaches)
