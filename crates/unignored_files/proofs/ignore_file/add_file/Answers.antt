use Rattle.std.proofs.Common.{ℕ, List, ap, sym, ◌∙◌}
use Rattle.std.specs.Path.{path_join}
use Rattle.unignored_files.proofs.ReadingLemmas.{adds_none, adds_one, fails_one}
use Rattle.unignored_files.proofs.ignore_file.add_file.Goals as goal
use Rattle.unignored_files.specs.Reading.{file_at}

pub returns-in-Ok-clause-ok : goal.returns-in-Ok-clause-ok
returns-in-Ok-clause-ok g c =
    adds_one g.F.Files.reads (file_at c.args.folder.now c.args.name.now) _ c.in-Ok.text.items _ _ _ _
    (c.as_str.ensures ∙ c.in_ok-path.ensures ∙ ap (λ (folder : List ℕ). path_join folder c.args.name.now) c.new.ensures)
    c.in-Ok.ensures
    (rw (c.as_slice.ensures.value) at c.in_ok-add-in-Ok.ensures)

pub returns-in-NotFound-clause-ok : goal.returns-in-NotFound-clause-ok
returns-in-NotFound-clause-ok g c =
    adds_none g.F.Files.reads (file_at c.args.folder.now c.args.name.now) _ c.in-Err.error _ _ _
    (c.as_str.ensures ∙ c.in_ok-path.ensures ∙ ap (λ (folder : List ℕ). path_join folder c.args.name.now) c.new.ensures)
    c.in-Err.ensures
    (sym c.kind.ensures ∙ c.in-NotFound.is)

pub returns : goal.returns
returns g c = record {
  ok = tt;
  err =
      fails_one g.F.Files.reads (file_at c.args.folder.now c.args.name.now) _ c.in-Err.error c.unreadable.result _ _ _
      (c.as_str.ensures ∙ c.in_ok-path.ensures
      ∙ ap (λ (folder : List ℕ). path_join folder c.args.name.now) c.new.ensures) c.in-Err.ensures
      (λ absent. c.in_default.not-NotFound (c.kind.ensures ∙ absent)) c.unreadable.ensures;
}
