use Rattle.std.proofs.Common.{ap, ◌∙◌, sym}
use Rattle.apollo_tree.proofs.OneReading.{brackets-one}
use Rattle.apollo_tree.proofs.Steps.{holds, finished-over, forest-is, tree-kept}
use Rattle.apollo_tree.proofs.Written.{written-whole}
use Rattle.apollo_tree.proofs.span_builder.SpanBuilder.finish_over.Goals as goal
use Rattle.apollo_tree.specs.Brackets.{brackets}

pub invariant_of-result : goal.invariant_of-result
invariant_of-result g c =
    tree-kept (finished-over (holds c.self.view_is c.self.invariant.0) c.requires.complete c.requires.text)

pub returns-clause-value : goal.returns-clause-value
returns-clause-value g c =
    forest-is (finished-over (holds c.self.view_is c.self.invariant.0) c.requires.complete c.requires.text)

pub returns-clause-calls : goal.returns-clause-calls
returns-clause-calls g c = ap brackets (returns-clause-value g c) ∙ written-whole c.args.self c.requires.complete.closed

pub returns-clause-only : goal.returns-clause-only
returns-clause-only g c = λ f e. brackets-one f _ (e ∙ sym (returns-clause-calls g c))
