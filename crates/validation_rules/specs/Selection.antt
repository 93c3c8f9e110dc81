-- Which breaches are selected.
use Rattle.std.specs.Prelude.{ℕ, Bool, true, false, ◌&&◌, nat_lt, Option, Some, None, slice_index_or}
use Rattle.validation_names.specs.Sites.{Located}
use Rattle.validation_rules.specs.RuleNumbers.{rule_number}
use Rattle.validation_rules.specs.declared.selection.RuleSet.{RuleSet}
use Rattle.validation_rules.specs.declared.selection.Selection.{Selection}
use Rattle.validation_rules.specs.declared.violations.Rule.{Rule}

-- the rule is in the set
abbrev pub has_rule : RuleSet → Rule → Bool
has_rule rules rule = slice_index_or rules.has (rule_number rule) false

-- The document is judged: it is among the first of this number of documents. Without a number, all are.
abbrev pub is_judged : Option ℕ → Located → Bool
is_judged None site = true
is_judged (Some judged) site = nat_lt site.document judged

-- breaches of this rule at this place are selected
abbrev pub is_selected_at : Selection → Rule → Located → Bool
is_selected_at selection rule site = has_rule selection.rules rule && is_judged selection.judged site
