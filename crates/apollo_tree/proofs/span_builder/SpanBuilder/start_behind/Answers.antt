use Rattle.std.proofs.Common.{◌∙◌, ap, arith}
use Rattle.apollo_tree.proofs.Steps.{holds, start-at, end_at}
use Rattle.apollo_tree.proofs.span_builder.SpanBuilder.start_behind.Goals as goal
use Rattle.apollo_tree.specs.declared.record.Record.{Record}

pub returns-then-index-len : goal.returns-then-index-len
returns-then-index-len g c =
    ap (λ (r : Record). r.start) c.get.ensures
    ∙ start-at c.args.index _ (holds c.self.view_is c.self.invariant.0).parts c.requires (omega arith)

pub returns-else-index-len : goal.returns-else-index-len
returns-else-index-len g c =
    omega (
      arith,
      c.self.invariant.1,
      end_at c.args.index (holds c.self.view_is c.self.invariant.0).parts c.requires (omega arith),
    )
