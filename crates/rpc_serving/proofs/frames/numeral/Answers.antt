use Rattle.std.proofs.Common.{◌≡◌, true, Option, List, ℕ, subst, sym, ◌∙◌}
use Rattle.std.specs.Char.{is_ascii_digit}
use Rattle.std.specs.List.{list_all}
use Rattle.std.specs.Str.Parse.{ParsesUnsigned}
use Rattle.rpc_serving.proofs.NumeralLemmas.{agrees-parsed, digits-utf8}
use Rattle.rpc_serving.proofs.frames.numeral.Goals as goal
use Rattle.rpc_serving.specs.Frames.{Agrees, numeral}

pub returns-in_default : goal.returns-in_default
returns-in_default c =
    let all : list_all is_ascii_digit c.args.digits.now ≡ true = sym c.are_digits.ensures ∙ c.if-not-are_digits.false in
    absurd (c.in_default.ensures.cases.0 (digits-utf8 c.args.digits.now all))

pub returns : goal.returns
returns c =
    let all : list_all is_ascii_digit c.args.digits.now ≡ true = sym c.are_digits.ensures ∙ c.if-not-are_digits.false in
    subst (λ (o : Option ℕ). Agrees (numeral c.args.digits.now) o) (sym c.ok.ensures.value)
    (agrees-parsed _ c.args.digits.now c.parse.result all
    (subst (λ (t : List ℕ). ParsesUnsigned 64 10 t c.parse.result) c.in-Ok.ensures.cases.0
    c.parse.ensures.value.0))
