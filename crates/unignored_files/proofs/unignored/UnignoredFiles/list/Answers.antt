use Rattle.std.proofs.Common.{List, ap, map, sym, ◌∙◌, subst, inl, inr, string_bytes}
use Rattle.std.proofs.lemmas.Cmp.{nat_list_cmp_total}
use Rattle.std.proofs.lemmas.List.Kept.{IsSortedBy-filter}
use Rattle.std.proofs.lemmas.List.MinMax.{ranks_by}
use Rattle.std.proofs.lemmas.Result.{err_from_is_err_and}
use Rattle.file_access.specs.Listing.{AreInOrder, Entry, as_entry, entries}
use Rattle.file_access.specs.declared.entries.Entry as declared
use Rattle.ignore_rules.specs.Ignored.{as_rules}
use Rattle.unignored_files.proofs.UnignoredLemmas.{map-filter}
use Rattle.unignored_files.proofs.unignored.UnignoredFiles.list.Goals as goal
use Rattle.unignored_files.specs.Unignored.{Sifts, is_kept, no_folder_listed, refused, sifted, stopped, unlisted_folder}
use Rattle.unignored_files.specs.Unignored.{unlocated}

pub returns-in_err-entries-clause-lists : goal.returns-in_err-entries-clause-lists
returns-in_err-entries-clause-lists g c =
    let p = err_from_is_err_and c.from_residual.result c.from_residual.ensures.1 in
    rw (p.1, p.2) (unlisted_folder c.in_err-entries.ensures.lists)

pub returns-in_default-clause-lists : goal.returns-in_default-clause-lists
returns-in_default-clause-lists g c = no_folder_listed (rw c.in_default.is at c.in_ok-entries.ensures.lists)

pub returns-in_err-folder-clause-lists : goal.returns-in_err-folder-clause-lists
returns-in_err-folder-clause-lists g c =
    let p = err_from_is_err_and c.from_residual-in_err-folder.result c.from_residual-in_err-folder.ensures.1 in
    rw (p.1, p.2) (unlocated (rw c.in-Some.is at c.in_ok-entries.ensures.lists) c.in_err-folder.ensures)

pub returns-in_err-add_folder-clause-lists : goal.returns-in_err-add_folder-clause-lists
returns-in_err-add_folder-clause-lists g c =
    let p = err_from_is_err_and c.from_residual-in_err-add_folder.result c.from_residual-in_err-add_folder.ensures.1 in
    rw (p.1, p.2)
    (elim (rw c.as_str.ensures.value at c.in_err-add_folder.ensures.err) [
      | inl is_stopped ↦ stopped (rw c.in-Some.is at c.in_ok-entries.ensures.lists) c.in_ok-folder.ensures is_stopped
      | inr is_refused ↦ refused is_refused
    ])

pub returns-in_err-kept-clause-lists : goal.returns-in_err-kept-clause-lists
returns-in_err-kept-clause-lists g c =
    let p = err_from_is_err_and c.from_residual-in_err-kept.result c.from_residual-in_err-kept.ensures.1 in
    rw p.1 (refused p.2)

pub returns-clause-lists : goal.returns-clause-lists
returns-clause-lists g c =
    let kept = rw c.as_str-2.ensures.value at c.in_ok-kept.ensures in
    subst (λ (has : List Entry). Sifts g.F.Files.lists g.F.Files.locates g.F.Files.reads c.args.path.now
    (as_rules c.args.self.now.rules) c.args.self.now.files
    (entries has) (as_rules c.add_folder.new.rules) c.add_folder.new.files)
    (sym (ap (map as_entry) kept
    ∙ map-filter as_entry (is_kept (as_rules c.add_folder.new.rules) (string_bytes c.in_ok-folder.folder))
    c.in-Some.entries.items))
    (sifted (rw c.in-Some.is at c.in_ok-entries.ensures.lists) c.in_ok-folder.ensures
    (rw c.as_str.ensures.value at c.in_ok-add_folder.ensures.ok))

pub returns-clause-ordered : goal.returns-clause-ordered
returns-clause-ordered g c =
    subst (λ (has : List (declared.Entry g.row.B.Denot)). AreInOrder has) (sym c.in_ok-kept.ensures)
    (IsSortedBy-filter _ (ranks_by nat_list_cmp_total (λ entry. string_bytes entry.name)) _ c.in-Some.entries.items
    (rw c.in-Some.is at c.in_ok-entries.ensures.ordered))
