use Rattle.std.proofs.Common.{◌≡◌}
use Rattle.std.specs.List.{filter}
use Rattle.file_access.specs.Listing.{as_entry}
use Rattle.ignore_rules.specs.Ignored.{as_rules}
use Rattle.unignored_files.proofs.kept_entries.sift.Given as goal
use Rattle.unignored_files.specs.Unignored.{is_kept}

abbrev pub invariant-loop-entry : goal.invariant-loop-entry
invariant-loop-entry g l =
    l.kept.items ≡ filter (λ entry. is_kept (as_rules l.rules) l.folder (as_entry entry)) l.yielded
