use Rattle.std.proofs.Common.{◌+◌, ◌*◌}
use Rattle.lexical_grammar.specs.declared.TokenKind.TheVariants as token
use Rattle.parser_rules.proofs.runs.Frame.{left}
use Rattle.parser_rules.specs.Nodes.{ObjectField, NestedValue}
use Rattle.parser_rules.specs.RuleLanguage.{At, Child, Call}
use Rattle.parser_rules.specs.Rules.{has_item}
use Rattle.parser_rules.specs.Runs.{Turns}
use Rattle.apollo_grammar.proofs.grammar.value.+value.Given as goal

abbrev pub decreases-value : goal.decreases-value
decreases-value g l = 4 * left l.p.now + 1

abbrev pub decreases-nested_value : goal.decreases-nested_value
decreases-nested_value g l = 4 * left l.p.now + 2

abbrev pub decreases-list_value : goal.decreases-list_value
decreases-list_value g l = 4 * left l.p.now

abbrev pub decreases-list_items : goal.decreases-list_items
decreases-list_items g l = 4 * left l.p.now + 3

abbrev pub decreases-object_value : goal.decreases-object_value
decreases-object_value g l = 4 * left l.p.now

abbrev pub decreases-object_field : goal.decreases-object_field
decreases-object_field g l = 4 * left l.p.now

abbrev pub invariant-list_items-loop-constness : goal.invariant-list_items-loop-constness
invariant-list_items-loop-constness g l = Turns has_item (Call (NestedValue l.constness)) l.initial.p l.p

abbrev pub decreases-list_items-loop-constness : goal.decreases-list_items-loop-constness
decreases-list_items-loop-constness g l = left l.p

abbrev pub invariant-object_value-loop-constness : goal.invariant-object_value-loop-constness
invariant-object_value-loop-constness g l = Turns (At token.Name) (Child (ObjectField l.constness)) l.initial.p l.p

abbrev pub decreases-object_value-loop-constness : goal.decreases-object_value-loop-constness
decreases-object_value-loop-constness g l = left l.p
