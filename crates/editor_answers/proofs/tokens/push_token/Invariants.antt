use Rattle.std.proofs.Common.{◌-◌, max}
use Rattle.editor_answers.proofs.tokens.push_token.Given as goal
use Rattle.editor_answers.specs.Parts.{AreInOrder, EndBefore}

abbrev pub invariant-loop-start : goal.invariant-loop-start
invariant-loop-start l = record {
  order : AreInOrder l.source l.tokens.items;
  before : EndBefore l.start l.tokens.items;
  within : EndBefore (max l.span.start l.span.end) l.tokens.items;
}

abbrev pub decreases-loop-start : goal.decreases-loop-start
decreases-loop-start l = l.span.end - l.start
