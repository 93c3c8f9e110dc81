use Rattle.std.proofs.Common.{[], ◌∷◌}
use Rattle.named_files.proofs.search.find.Given as goal
use Rattle.named_files.specs.Finding.{Lists, folder}
use Rattle.named_files.specs.Search.{Advances, found_by, waiting_of}

abbrev pub invariant-loop : goal.invariant-loop
invariant-loop g l = record {
  advances : Advances g.F.Files.lists (folder l.fn.path ∷ []) [] l.fn.files (waiting_of l.search)
      (found_by l.search) l.files;
  lists : Lists g.F.Files.lists l.fn.files l.files;
}
