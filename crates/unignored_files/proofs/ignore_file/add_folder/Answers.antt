use Rattle.std.proofs.Common.{[], ◌∷◌, codes, false}
use Rattle.std.proofs.lemmas.Result.{IfErr-weaker, err_from_is_err_and, on_ok_weaker}
use Rattle.unignored_files.proofs.ReadingLemmas.{adds_on, fails_after, fails_before}
use Rattle.unignored_files.proofs.ignore_file.add_folder.Goals as goal
use Rattle.unignored_files.specs.Reading.{file_at, files_of}

pub returns-in_err-add_file-clause-err : goal.returns-in_err-add_file-clause-err
returns-in_err-add_file-clause-err g c =
    let p = err_from_is_err_and c.from_residual.result c.from_residual.ensures.1 in
    rw (c.if-not-with_git.false, p.1, p.2)
    (fails_before g.F.Files.reads (file_at c.args.folder.now (codes ".gitignore") ∷ [])
    (files_of false c.args.folder.now)
    _ _ _ _ c.in_err-add_file.ensures.err)

pub returns-clause-ok : goal.returns-clause-ok
returns-clause-ok g c =
    rw c.if-not-with_git.false
    (on_ok_weaker c.add_others-2.result (λ adds. adds_on g.F.Files.reads c.in_ok-add_file.ensures.ok adds)
    c.add_others-2.ensures.ok)

pub returns-clause-err : goal.returns-clause-err
returns-clause-err g c =
    rw c.if-not-with_git.false (IfErr-weaker c.add_others-2.result _ _ (λ error fails.
    fails_after g.F.Files.reads (file_at c.args.folder.now (codes ".gitignore") ∷ []) (files_of false c.args.folder.now)
    _ _ _ _ _ error c.in_ok-add_file.ensures.ok fails) c.add_others-2.ensures.err)
