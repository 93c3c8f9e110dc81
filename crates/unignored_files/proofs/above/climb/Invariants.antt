use Rattle.std.proofs.Common.{map, reverse, length, string_bytes}
use Rattle.std.specs.Path.{path_bytes, path_components}
use Rattle.unignored_files.proofs.AboveLemmas.{Comes}
use Rattle.unignored_files.proofs.above.climb.Given as goal

abbrev pub invariant-loop-folders : goal.invariant-loop-folders
invariant-loop-folders g l =
    Comes g.F.Files.reads l.fn.path (path_bytes l.folder) (reverse (map string_bytes l.folders.items))
    l.fn.files l.files

abbrev pub decreases-loop-folders : goal.decreases-loop-folders
decreases-loop-folders g l = length (path_components (path_bytes l.folder))
