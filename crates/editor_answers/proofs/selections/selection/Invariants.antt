use Rattle.std.specs.List.{All, AllPairs}
use Rattle.editor_answers.proofs.selections.selection.Given as goal
use Rattle.editor_answers.specs.Parts.{Encloses, Holds}

abbrev pub invariant-loop-node : goal.invariant-loop-node
invariant-loop-node l = record {
  holds : All (Holds l.offset) l.parts.items;
  nests : AllPairs (λ part outer. Encloses outer part) l.parts.items;
  within : All (λ part. Encloses l.largest part) l.parts.items;
  here : Holds l.offset l.largest;
}
