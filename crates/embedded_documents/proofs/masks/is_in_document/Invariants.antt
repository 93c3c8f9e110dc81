use Rattle.std.proofs.Common.{◌≤◌, ◌-◌, length}
use Rattle.std.specs.Prelude.{All}
use Rattle.embedded_documents.proofs.masks.is_in_document.Given as goal
use Rattle.embedded_documents.specs.Steps.{IsContextIn}

abbrev pub invariant-loop-start : goal.invariant-loop-start
invariant-loop-start l = record {
  within : l.start ≤ length l.text;
  contexts : All (IsContextIn l.text) l.contexts.items;
}

abbrev pub decreases-loop-start : goal.decreases-loop-start
decreases-loop-start l = length l.text - l.start
