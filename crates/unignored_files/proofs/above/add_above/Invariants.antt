use Rattle.std.proofs.Common.{◌≡◌, length}
use Rattle.ignore_rules.specs.Ignored.{as_rules}
use Rattle.unignored_files.proofs.ReadingLemmas.{HasAdded}
use Rattle.unignored_files.proofs.above.add_above.Given as goal
use Rattle.unignored_files.specs.Above.{folders_of}
use Rattle.unignored_files.specs.Reading.{files_of_all}

abbrev pub invariant-loop-folder : goal.invariant-loop-folder
invariant-loop-folder g l = record {
  added : HasAdded g.F.Files.reads (files_of_all l.fn.above.is_repository (folders_of l.fn.above))
      (files_of_all l.above.is_repository (folders_of l.above)) (as_rules l.fn.rules) (as_rules l.rules)
      l.fn.files l.files;
  same : l.above.is_repository ≡ l.fn.above.is_repository;
}

abbrev pub decreases-loop-folder : goal.decreases-loop-folder
decreases-loop-folder g l = length l.above.folders.items
