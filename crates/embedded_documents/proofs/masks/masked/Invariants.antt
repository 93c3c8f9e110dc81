use Rattle.std.proofs.Common.{◌≡◌, ◌≤◌, ◌-◌, length, map, take}
use Rattle.std.specs.Prelude.{All, string_bytes}
use Rattle.embedded_documents.proofs.masks.masked.Given as goal
use Rattle.embedded_documents.specs.Masked.{AreMasked, HasTag, blank}
use Rattle.embedded_documents.specs.Steps.{IsContextIn}

abbrev pub invariant-loop-start : goal.invariant-loop-start
invariant-loop-start l = record {
  within : l.start ≤ length l.text;
  contexts : All (IsContextIn l.text) l.contexts.items;
  bytes : AreMasked (take l.start l.text) (string_bytes l.masked);
  untagged : (¬ HasTag l.text) → string_bytes l.masked ≡ map blank (take l.start l.text);
}

abbrev pub decreases-loop-start : goal.decreases-loop-start
decreases-loop-start l = length l.text - l.start
