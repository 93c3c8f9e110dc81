use Rattle.std.proofs.Common.{◌≡◌, ℕ, ◌-◌, ◌∙◌, sym, ap, take, arith}
use Rattle.line_index.proofs.LineLemmas.{first-some, first-none}
use Rattle.line_index.proofs.first_line.Goals as goal

pub returns-in-Some : goal.returns-in-Some
returns-in-Some c =
    let none : c.in-Some.end - 0 ≡ c.in-Some.end = omega arith in
    c.range.ensures.value ∙ ap (λ (n : ℕ). take n c.args.text.now) none ∙ sym
    (first-some c.args.text.now c.as_bytes.result.now c.in-Some.end c.as_bytes.ensures.value c.in-Some.ensures)

pub returns-in-None : goal.returns-in-None
returns-in-None c = sym (first-none c.args.text.now c.as_bytes.result.now c.as_bytes.ensures.value c.in-None.ensures)
