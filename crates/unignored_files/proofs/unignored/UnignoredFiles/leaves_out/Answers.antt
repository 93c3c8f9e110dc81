use Rattle.std.proofs.Common.{sym, ◌∙◌, inl, inr}
use Rattle.std.proofs.lemmas.Result.{err_from_is_err_and}
use Rattle.unignored_files.proofs.UnignoredLemmas.{decides}
use Rattle.unignored_files.proofs.unignored.UnignoredFiles.leaves_out.Goals as goal
use Rattle.unignored_files.specs.Unignored.{nowhere, refused_above, stopped_above, unlisted_path, unlocated_path}

pub returns-in-NotFound : goal.returns-in-NotFound
returns-in-NotFound g c =
    rw c.new.ensures
    (nowhere c.in-Err.ensures
    (elim c.in-NotFound.is [ inl is ↦ inl (sym c.kind.ensures ∙ is) | inr is ↦ inr (sym c.kind.ensures ∙ is) ]))

pub returns-in_default : goal.returns-in_default
returns-in_default g c = unlocated_path c.in-Err.ensures

pub returns-in_err-above : goal.returns-in_err-above
returns-in_err-above g c =
    let p = err_from_is_err_and c.from_residual.result c.from_residual.ensures.1 in
    rw (p.1, p.2) (refused_above c.in_err-above.ensures.err)

pub returns-in_err-add_above : goal.returns-in_err-add_above
returns-in_err-add_above g c =
    let p = err_from_is_err_and c.from_residual-in_err-add_above.result c.from_residual-in_err-add_above.ensures.1 in
    rw (p.1, p.2)
    (elim (rw c.new.ensures at c.in_err-add_above.ensures.err) [
      | inl is_stopped ↦ stopped_above c.in-Ok.ensures
          (rw c.as_str.ensures.value at c.in_ok-above.ensures.ok) is_stopped
      | inr refused ↦ refused_above refused
    ])

pub returns-in_err-list : goal.returns-in_err-list
returns-in_err-list g c =
    let p = err_from_is_err_and c.from_residual-in_err-list.result c.from_residual-in_err-list.ensures.1 in
    rw (p.1, p.2)
    (unlisted_path c.in-Ok.ensures (rw c.as_str.ensures.value at c.in_ok-above.ensures.ok)
    (rw c.new.ensures at c.in_ok-add_above.ensures.ok)
    c.in_err-list.ensures.lists)

pub returns-in_err-is_left_out : goal.returns-in_err-is_left_out
returns-in_err-is_left_out g c =
    let p = err_from_is_err_and c.from_residual-in_err-is_left_out.result
    c.from_residual-in_err-is_left_out.ensures.1 in
    rw p.1 (refused_above p.2)

pub returns : goal.returns
returns g c =
    decides g.F.Files.lists g.F.Files.locates g.F.Files.reads c.args.path.now _ _ _ _ c.in_ok-list.field-0
    c.is_some-is_folder.result _ _ _ _ _ _
    c.in-Ok.ensures (rw c.as_str.ensures.value at c.in_ok-above.ensures.ok)
    (rw c.new.ensures at c.in_ok-add_above.ensures.ok)
    c.in_ok-list.ensures.lists c.is_some-is_folder.ensures (rw c.as_str-2.ensures.value at c.in_ok-is_left_out.ensures)
