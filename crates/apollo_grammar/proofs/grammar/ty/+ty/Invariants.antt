use Rattle.std.proofs.Common.{◌+◌, ◌*◌}
use Rattle.parser_rules.proofs.runs.Frame.{left}
use Rattle.apollo_grammar.proofs.grammar.ty.+ty.Given as goal

abbrev pub decreases-ty : goal.decreases-ty
decreases-ty g l = 5 * left l.p.now + 3

abbrev pub decreases-nullable_type : goal.decreases-nullable_type
decreases-nullable_type g l = 5 * left l.p.now + 2

abbrev pub decreases-list_type : goal.decreases-list_type
decreases-list_type g l = 5 * left l.p.now + 1

abbrev pub decreases-inside_list_type : goal.decreases-inside_list_type
decreases-inside_list_type g l = 5 * left l.p.now

abbrev pub decreases-item_type : goal.decreases-item_type
decreases-item_type g l = 5 * left l.p.now + 4
