use Rattle.std.proofs.Common.{arith, length, ◌≡◌}
use Rattle.std.proofs.Math.Seq.{take-length}
use Rattle.validation_rules.proofs.SpreadLemmas.{is_closed, is_spread_graph}
use Rattle.validation_rules.proofs.definition_parts.spread_graph.Goals as goal

pub returns-clause-graph : goal.returns-clause-graph
returns-clause-graph c =
    let end : c.loop-definition.definition-index ≡ length c.args.parts.now = omega arith in
    is_spread_graph _ c.args.fragments.now _ c.requires (rw (end, take-length) at c.loop-definition.invariant)

pub returns-clause-closed : goal.returns-clause-closed
returns-clause-closed c =
    let end : c.loop-definition.definition-index ≡ length c.args.parts.now = omega arith in
    is_closed _ _ (is_spread_graph _ c.args.fragments.now _ c.requires
    (rw (end, take-length) at c.loop-definition.invariant))
