use Rattle.std.proofs.Common.{ℕ, List, Ok, Err, subst, sym, ◌∙◌, inl, inr}
use Rattle.unignored_files.proofs.above.is_top.Goals as goal
use Rattle.unignored_files.specs.Above.{no_top, top}

pub returns-in-Ok-clause-ok : goal.returns-in-Ok-clause-ok
returns-in-Ok-clause-ok g c =
    top (subst (λ (path : List ℕ). g.F.Files.reads c.args.files.now path (Ok c.in-Ok.field-0.items)
    c.read_up_to.new.self)
    (c.as_str.ensures ∙ c.in_ok-path.ensures) c.in-Ok.ensures) tt

pub returns-in-NotFound-clause-ok : goal.returns-in-NotFound-clause-ok
returns-in-NotFound-clause-ok g c =
    no_top (subst (λ (path : List ℕ). g.F.Files.reads c.args.files.now path (Err c.in-Err.error) c.read_up_to.new.self)
    (c.as_str.ensures ∙ c.in_ok-path.ensures) c.in-Err.ensures)
    (elim c.in-NotFound.is [ inl is ↦ inl (sym c.kind.ensures ∙ is) | inr is ↦ inr (sym c.kind.ensures ∙ is) ])

pub returns : goal.returns
returns g c = record {
  ok =
      top (subst (λ (path : List ℕ). g.F.Files.reads c.args.files.now path (Err c.in-Err.error) c.read_up_to.new.self)
      (c.as_str.ensures ∙ c.in_ok-path.ensures) c.in-Err.ensures)
      (λ missing. elim missing [
        | inl e ↦ c.in_default.not-NotFound (c.kind.ensures ∙ e)
        | inr e ↦
            c.in_default.not-NotADirectory (c.kind.ensures ∙ e)
      ]);
  err = tt;
}
