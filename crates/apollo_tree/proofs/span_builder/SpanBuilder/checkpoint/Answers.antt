use Rattle.std.proofs.Common.{◌∙◌}
use Rattle.apollo_tree.proofs.Steps.{holds, count-is, can-open-end}
use Rattle.apollo_tree.proofs.span_builder.SpanBuilder.checkpoint.Goals as goal

pub returns-clause-index : goal.returns-clause-index
returns-clause-index g c = c.len.ensures ∙ count-is (holds c.self.view_is c.self.invariant.0).parts

pub returns-clause-can_open : goal.returns-clause-can_open
returns-clause-can_open g c =
    can-open-end _ _ (c.len.ensures ∙ count-is (holds c.self.view_is c.self.invariant.0).parts)
