use Rattle.std.proofs.Common.{ℕ, List, Some, map, subst, string_bytes}
use Rattle.file_access.specs.Listing.{no_folder, unlisted, entries, as_entry}
use Rattle.named_files.proofs.SearchLemmas.{advances_by, advances_into}
use Rattle.named_files.proofs.search.Search.look.Goals as goal
use Rattle.named_files.specs.Finding.{at_file, at_unreadable, at_no_folder, at_unlisted, none, more, file, unreadable}

pub returns-in-File-clause-ok : goal.returns-in-File-clause-ok
returns-in-File-clause-ok g c =
    rw c.in-File.is (advances_by g.F.Files.lists c.add.result _ (Some (file (string_bytes c.in-File.path))) _ _ _ _ _ _
    (λ rest final h. at_file h) c.add.ensures.waiting c.add.ensures.found)

pub returns-in-File-clause-lists : goal.returns-in-File-clause-lists
returns-in-File-clause-lists g c = none

pub returns-in-Failed-clause-ok : goal.returns-in-Failed-clause-ok
returns-in-Failed-clause-ok g c =
    rw c.in-Failed.is (advances_by g.F.Files.lists c.add-in-Failed.result _
    (Some (unreadable (string_bytes c.in-Failed.path))) _ _ _ _ _ _ (λ rest final h. at_unreadable h)
    c.add-in-Failed.ensures.waiting c.add-in-Failed.ensures.found)

pub returns-in-Failed-clause-lists : goal.returns-in-Failed-clause-lists
returns-in-Failed-clause-lists g c = none

pub returns-in-Ok-Some-clause-ok : goal.returns-in-Ok-Some-clause-ok
returns-in-Ok-Some-clause-ok g c =
    rw c.in-Folder.is (advances_into g.F.Files.lists c.put_all.result (string_bytes c.in-Folder.path) _ _ _ _ _ _ _
    (subst (λ (path : List ℕ). g.F.Files.lists c.args.files.now path (entries (map as_entry c.in-Ok-Some.entries.items))
    c.list.new.self) c.as_str.ensures.value
    (rw c.in-Ok-Some.field-0-is at c.in-Ok-Some.ensures.lists))
    (rw c.as_str-in-Ok-Some.ensures.value at c.put_all.ensures.waiting) c.put_all.ensures.found)

pub returns-in-Ok-Some-clause-lists : goal.returns-in-Ok-Some-clause-lists
returns-in-Ok-Some-clause-lists g c = more none c.list.ensures.lists

pub returns-in-Ok-None-clause-ok : goal.returns-in-Ok-None-clause-ok
returns-in-Ok-None-clause-ok g c =
    rw c.in-Folder.is (advances_by g.F.Files.lists c.add-in-Ok-None.result _
    (Some (file (string_bytes c.in-Folder.path))) _ _ _ _ _ _
    (λ rest final h. at_no_folder
    (subst (λ (path : List ℕ). g.F.Files.lists c.args.files.now path no_folder c.list.new.self) c.as_str.ensures.value
    (rw c.in-Ok-None.field-0-is at c.in-Ok-None.ensures.lists)) h) c.add-in-Ok-None.ensures.waiting
    c.add-in-Ok-None.ensures.found)

pub returns-in-Ok-None-clause-lists : goal.returns-in-Ok-None-clause-lists
returns-in-Ok-None-clause-lists g c = more none c.list.ensures.lists

pub returns-in-Err-clause-ok : goal.returns-in-Err-clause-ok
returns-in-Err-clause-ok g c =
    rw c.in-Folder.is (advances_by g.F.Files.lists c.add-in-Err.result _
    (Some (unreadable (string_bytes c.in-Folder.path))) _ _ _ _ _ _
    (λ rest final h. at_unlisted
    (subst (λ (path : List ℕ). g.F.Files.lists c.args.files.now path (unlisted c.in-Err.error) c.list.new.self)
    c.as_str.ensures.value c.in-Err.ensures.lists) h) c.add-in-Err.ensures.waiting c.add-in-Err.ensures.found)

pub returns-in-Err-clause-lists : goal.returns-in-Err-clause-lists
returns-in-Err-clause-lists g c = more none c.list.ensures.lists
