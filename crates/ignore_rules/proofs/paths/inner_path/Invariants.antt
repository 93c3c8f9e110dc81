use Rattle.std.proofs.Common.{◌≡◌, []}
use Rattle.ignore_rules.proofs.PartLemmas.{parts_left, size_left}
use Rattle.ignore_rules.proofs.paths.inner_path.Given as goal
use Rattle.ignore_rules.specs.Parts.{parts}
use Rattle.ignore_rules.specs.Paths.{path_of}

abbrev pub invariant-loop-rest : goal.invariant-loop-rest
invariant-loop-rest g l = path_of [] (parts 47 l.path) ≡ path_of l.inner.items (parts_left 47 l.rest)

abbrev pub decreases-loop-rest : goal.decreases-loop-rest
decreases-loop-rest g l = size_left l.rest
