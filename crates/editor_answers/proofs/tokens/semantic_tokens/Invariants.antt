use Rattle.editor_answers.proofs.tokens.semantic_tokens.Given as goal
use Rattle.editor_answers.specs.Parts.{AreInOrder, EndBefore}

abbrev pub invariant-loop-element : goal.invariant-loop-element
invariant-loop-element l = record {
  order : AreInOrder l.source l.tokens.items;
  before : EndBefore l.end l.tokens.items;
}
