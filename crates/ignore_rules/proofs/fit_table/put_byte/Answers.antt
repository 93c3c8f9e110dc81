use Rattle.std.proofs.Common.{false, ◌≡◌, ℕ, ◌+◌, ◌-◌, ◌&&◌, drop, get_or, arith, ◌∙◌, subst}
use Rattle.std.proofs.lemmas.Grind.{common_steps}
use Rattle.ignore_rules.proofs.TableLemmas.{IsUp, byte_entry, byte_first, byte_last, one_up}
use Rattle.ignore_rules.proofs.fit_table.put_byte.Goals as goal
use Rattle.ignore_rules.proofs.fit_table.put_byte.Goals.{then-takes, else-takes}
use Rattle.ignore_rules.specs.Fits.{after_byte, as_sign, takes}

pub loop-index-init : goal.loop-index-init
loop-index-init g c test is =
    byte_first (as_sign c.args.sign.now) test _ c.args.window _ _ (omega arith) c.requires.end c.requires.some is

pub loop-index-preserved : goal.loop-index-preserved
loop-index-preserved g c test is =
    let split = c.loop-index.invariant test is in
    let i : ℕ = c.loop-index.index in
    let next : get_or c.loop-index.table (i + 1) false ≡ test (drop (i + 1) c.args.path.now) =
    split.upper (i + 1) (omega arith) ∙ is.answers (i + 1) (omega arith) in
    let value : c.if-takes.table
    ≡ (takes (as_sign c.args.sign.now) (get_or c.args.path.now i 0) && test (drop (i + 1) c.args.path.now)) =
    elim c.if-takes.branch [
      | then-takes w ↦ grind (arith, common_steps)
      | else-takes w ↦
          grind (arith, common_steps)
    ] in
    one_up _ _ _ _ _ _ (omega arith) (value ∙ byte_entry (as_sign c.args.sign.now) test c.args.path.now i (omega arith))
    split

pub returns-clause-places : goal.returns-clause-places
returns-clause-places g c test is =
    let all : c.loop-index.index ≡ c.args.window.end - 1 = omega arith in
    byte_last (as_sign c.args.sign.now) test _ c.args.window _ _ _ _ (omega arith) (omega arith) c.requires.end
    c.requires.some (omega arith) is
    (subst (λ (n : ℕ). IsUp (after_byte (as_sign c.args.sign.now) test) c.args.path.now n c.args.table.now
    c.loop-index.table) all
    (c.loop-index.invariant test is))
