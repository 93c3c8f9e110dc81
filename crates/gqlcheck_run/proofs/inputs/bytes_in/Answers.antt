use Rattle.std.proofs.Common.{◌≡◌, ◌∙◌, List, [], ◌∷◌, ℕ, ◌+◌, ap, arith, length, map, refl, sym}
use Rattle.std.proofs.lemmas.List.{take_all}
use Rattle.std.proofs.lemmas.List.Sums.{sum_by-cons, sum_by_more}
use Rattle.std.specs.List.{sum_by}
use Rattle.std.specs.Prelude.{string_bytes}
use Rattle.gqlcheck_run.proofs.inputs.bytes_in.Goals as goal
use Rattle.gqlcheck_run.specs.Inputs.{Input, as_input}
use Rattle.gqlcheck_run.specs.Numbers.{capped}
use Rattle.gqlcheck_run.specs.declared.inputs.Input as declared

pub loop-input-preserved : goal.loop-input-preserved
loop-input-preserved g c =
    let sums =
    sum_by_more (λ input. length (string_bytes input.text)) c.args.inputs.now c.loop-input.input-index
    c.input-item.result c.loop-input-test.true in
    let inv = c.loop-input.invariant in
    let len = c.len.ensures in
    let item = ap (λ input. length (string_bytes input.text)) c.input-item.is in
    omega arith

same_sums : {A : Type 0} (inputs : List (declared.Input A))
    → sum_by (λ input. length (string_bytes input.text)) inputs
    ≡ sum_by (λ (input : Input). length input.text) (map as_input inputs)
same_sums [] = refl
same_sums (i ∷ is) =
    sum_by-cons (λ input. length (string_bytes input.text)) i is
    ∙ ap (λ (n : ℕ). length (string_bytes i.text) + n) (same_sums is)
    ∙ sym (sum_by-cons (λ (input : Input). length input.text) (as_input i) (map as_input is))

pub returns : goal.returns
returns g c =
    c.loop-input.invariant
    ∙ ap (λ inputs. capped (sum_by (λ input. length (string_bytes input.text)) inputs))
    (take_all c.loop-input.input-index c.args.inputs.now c.loop-input-test.false)
    ∙ ap capped (same_sums c.args.inputs.now)
