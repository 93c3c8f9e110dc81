use Rattle.std.proofs.Common.{◌≡◌, ◌++◌, map, length}
use Rattle.std.specs.List.{filter_map}
use Rattle.file_access.specs.Listing.{as_entry}
use Rattle.named_files.proofs.search.Search.put_all.Given as goal
use Rattle.named_files.specs.Finding.{found_path_in}
use Rattle.named_files.specs.Search.{found_by, waiting_of}

abbrev pub invariant-loop-entry : goal.invariant-loop-entry
invariant-loop-entry g l = record {
  waiting : filter_map (found_path_in l.folder) (map as_entry l.entries.items) ++ waiting_of l.self
      ≡ filter_map (found_path_in l.folder) (map as_entry l.initial.entries.items) ++ waiting_of l.initial.self;
  found : found_by l.self ≡ found_by l.initial.self;
}

abbrev pub decreases-loop-entry : goal.decreases-loop-entry
decreases-loop-entry g l = length l.entries.items
