use Rattle.std.proofs.Common.{◌≡◌, ◌+◌, ◌*◌, ℕ, min, Some, None, refl, sym, ap, ap₂, ◌∙◌, arith}
use Rattle.parser_rules.specs.State.{ignored}
use Rattle.parser_state.proofs.Lookahead.{after-token, after-ignored, after-bad, still-shown}
use Rattle.parser_state.proofs.Reading.{second-ignored, second-bad}
use Rattle.parser_state.proofs.state.reader.Reader.next_answer.Goals as goal
use Rattle.parser_state.specs.Lookahead.{all_given}

pub invariant_of-self-in-None : goal.invariant_of-self-in-None
invariant_of-self-in-None c =
    let s = c.args.self.now in
    let all : all_given c.next_counted.new.self ≡ all_given s.lexer =
    ap₂ min c.next_counted.ensures.high c.next_counted.ensures.limit in
    let taken = rw c.in-Ok.is at c.in_ok-answer.ensures.answers in
    let n = rw c.in-Ok.is at c.in_ok-answer.ensures.count in
    let is = sym c.in-None.is ∙ c.ignored.ensures ∙ ap ignored c.kind.ensures in
    let m : ℕ = s.start.value + 2 * all_given s.lexer in
    let k = after-token s.ahead.is_known _ _ _ _ _ None _ _ m taken is refl n s.within in
    record { known = refl; within = omega (arith, k, all) }

pub invariant_of-self-in-Some-1 : goal.invariant_of-self-in-Some-1
invariant_of-self-in-Some-1 c =
    let s = c.args.self.now in
    let all : all_given c.next_counted.new.self ≡ all_given s.lexer =
    ap₂ min c.next_counted.ensures.high c.next_counted.ensures.limit in
    let taken = rw c.in-Ok.is at c.in_ok-answer.ensures.answers in
    let n = rw c.in-Ok.is at c.in_ok-answer.ensures.count in
    let is = sym c.in-Some.is ∙ c.ignored.ensures ∙ ap ignored c.kind.ensures in
    let m : ℕ = s.start.value + 2 * all_given s.lexer in
    let k = after-ignored s.ahead.is_known _ _ _ _ _ (Some c.in-Some.kind) _ _ m taken is refl n s.within in
    record {
      known = still-shown s.ahead.is_known _ _ _ (second-ignored _ _ _ _ _ (Some c.in-Some.kind) taken is refl) s.known;
      within = omega (arith, k, all);
    }

pub invariant_of-self-in-Err-1 : goal.invariant_of-self-in-Err-1
invariant_of-self-in-Err-1 c =
    let s = c.args.self.now in
    let all : all_given c.next_counted.new.self ≡ all_given s.lexer =
    ap₂ min c.next_counted.ensures.high c.next_counted.ensures.limit in
    let taken = rw c.in-Err.is at c.in_ok-answer.ensures.answers in
    let n = rw c.in-Err.is at c.in_ok-answer.ensures.count in
    let m : ℕ = s.start.value + 2 * all_given s.lexer in
    let k = after-bad s.ahead.is_known _ _ _ _ _ _ _ m taken n s.within in
    record {
      known = still-shown s.ahead.is_known _ _ _ (second-bad _ _ _ _ _ taken) s.known;
      within = omega (arith, k, all);
    }
