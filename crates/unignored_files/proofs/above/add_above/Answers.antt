use Rattle.std.proofs.Common.{ℕ, List, map, reverse, refl, subst, string_bytes}
use Rattle.std.proofs.lemmas.Result.{err_from_is_err_and}
use Rattle.file_access.proofs.Stacks.{popped}
use Rattle.ignore_rules.specs.Ignored.{as_rules}
use Rattle.unignored_files.proofs.ReadingLemmas.{HasAdded, begins, fails, goes_on}
use Rattle.unignored_files.proofs.above.add_above.Goals as goal
use Rattle.unignored_files.specs.Above.{folders_of}
use Rattle.unignored_files.specs.Reading.{files_of, files_of_all}

pub loop-folder-init : goal.loop-folder-init
loop-folder-init g c = record { added = begins g.F.Files.reads _ _ _; same = refl }

pub returns-in_err-add_folder-clause-err : goal.returns-in_err-add_folder-clause-err
returns-in_err-add_folder-clause-err g c =
    let p = err_from_is_err_and c.from_residual.result c.from_residual.ensures.1 in
    let next = popped string_bytes c.loop-folder.above.folders.items c.pop.new.self.items c.in-Some.folder
    c.in-Some.ensures.items in
    rw (p.1, p.2)
    (fails g.F.Files.reads _ (files_of c.loop-folder.above.is_repository (string_bytes c.in-Some.folder))
    (files_of_all c.loop-folder.above.is_repository (reverse (map string_bytes c.pop.new.self.items))) _ _ _ _ _ _
    (subst (λ (folders : List (List ℕ)). HasAdded g.F.Files.reads
    (files_of_all c.args.above.is_repository (folders_of c.args.above))
    (files_of_all c.loop-folder.above.is_repository folders) (as_rules c.args.rules.now) (as_rules c.loop-folder.rules)
    c.args.files.now c.loop-folder.files)
    next c.loop-folder.invariant.added)
    (rw c.as_str.ensures.value at c.in_err-add_folder.ensures.err))

pub loop-folder-preserved : goal.loop-folder-preserved
loop-folder-preserved g c = record {
  added =
      let next = popped string_bytes c.loop-folder.above.folders.items c.pop.new.self.items c.in-Some.folder
      c.in-Some.ensures.items in
      goes_on g.F.Files.reads _ (files_of c.loop-folder.above.is_repository (string_bytes c.in-Some.folder)) _ _ _ _ _
      _ _
      (subst (λ (folders : List (List ℕ)). HasAdded g.F.Files.reads
      (files_of_all c.args.above.is_repository (folders_of c.args.above))
      (files_of_all c.loop-folder.above.is_repository folders) (as_rules c.args.rules.now)
      (as_rules c.loop-folder.rules) c.args.files.now c.loop-folder.files)
      next c.loop-folder.invariant.added)
      (rw c.as_str.ensures.value at c.in_ok-add_folder.ensures.ok);
  same = c.loop-folder.invariant.same;
}
