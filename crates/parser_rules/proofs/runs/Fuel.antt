-- How deep the checks of rules look.
use Rattle.std.proofs.Common.{ℕ}

-- How many rules deep a check of a rule looks before it gives up: each call of a rule takes one, and so does each
-- child, whose own rule is walked where its place matters. A rule that goes deeper is refused as `TooManyRulesDeep` in
-- `NodeChecks`. Then this number may be raised, unless the rule calls itself with no node between: no number is enough
-- for that.
abbrev pub rules_deep : ℕ
rules_deep = 5

-- The same for the check that a rule takes the token that is there (`Progress`). A rule that goes deeper counts as one
-- that may leave it.
abbrev pub rules_deep_for_progress : ℕ
rules_deep_for_progress = 6

-- The same for the check of sizes (`SizeCheck`), which walks most children at their places: of a node's rule, and of a
-- root's.
abbrev pub rules_deep_for_sizes : ℕ
rules_deep_for_sizes = 12

abbrev pub root_rules_deep_for_sizes : ℕ
root_rules_deep_for_sizes = 14
