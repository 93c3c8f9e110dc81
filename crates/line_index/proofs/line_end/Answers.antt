use Rattle.std.proofs.Common.{◌+◌, ◌-◌, ◌≡◌, ℕ, length, drop, take, arith, ap, sym, ◌∙◌}
use Rattle.std.proofs.lemmas.List.{take_rest}
use Rattle.line_index.proofs.LineLemmas.{first-some, first-none}
use Rattle.line_index.proofs.line_end.Goals as goal

pub returns-in-Some-clause-line : goal.returns-in-Some-clause-line
returns-in-Some-clause-line c =
    let all = c.args.bytes.now in
    let rest = drop c.args.offset all in
    let same : c.args.offset + c.in-Some.length - c.args.offset ≡ c.in-Some.length = omega arith in
    ap (λ (n : ℕ). take n rest) same
    ∙ sym (first-some rest (take (length all - c.args.offset) rest) c.in-Some.length
    (take_rest all c.args.offset) c.in-Some.ensures)

pub returns-in-None-clause-line : goal.returns-in-None-clause-line
returns-in-None-clause-line c =
    let all = c.args.bytes.now in
    let rest = drop c.args.offset all in
    take_rest all c.args.offset
    ∙ sym (first-none rest (take (length all - c.args.offset) rest) (take_rest all c.args.offset) c.in-None.ensures)
