use Rattle.std.proofs.Common.{map}
use Rattle.validation_rules.specs.Parts.{as_parts}
use Rattle.variable_rules.proofs.RowLemmas.{AreRows}
use Rattle.variable_rules.proofs.used_names.used_names.Given as goal

abbrev pub invariant-loop-definition : goal.invariant-loop-definition
invariant-loop-definition l = AreRows (map as_parts l.parts) l.definition-index l.rows.items
