use Rattle.std.proofs.Common.{◌≡◌, ◌∙◌, ◌∷◌, sym, ap, arith, length, eq-eqb, true, false}
use Rattle.std.proofs.lemmas.Bool.Decides.{nat_tests}
use Rattle.apollo_parser.specs.LexerAnswers.{answer_of, answers_left}
use Rattle.apollo_parser.specs.Reads.{items_from}
use Rattle.c_parsing.proofs.OneString.{first-answer, is-string, no-error, some-answer, string-token}
use Rattle.c_parsing.proofs.strings.is_string.Goals as goal

pub returns-in-StringValue-clause-yes : goal.returns-in-StringValue-clause-yes
returns-in-StringValue-clause-yes c = λ e.
    let token = c.in-Some-Ok.token in
    let same : length token.text.now ≡ length c.args.text.now = grind (arith, nat_tests, e, ap length c.data.ensures) in
    ∣ is-string c.args.text.now 18446744073709551614 (items_from 0 0 c.args.text.now) token.kind token.text.now
    token.index _ c.new-lexer.ensures.cut
    c.in-StringValue.ensures
    (sym c.new-lexer.ensures.answers ∙ c.in-Some-Ok.ensures.steps.answers
    ∙ ap (λ r. answer_of r ∷ answers_left c.next.new.self) c.in-Some-Ok.field-0-is) same
    ∣₁

pub returns-in-StringValue-clause-no : goal.returns-in-StringValue-clause-no
returns-in-StringValue-clause-no c = λ e s.
    let token = c.in-Some-Ok.token in
    let is = string-token token.kind token.text.now c.args.text.now token.index
    (first-answer c.args.text.now 18446744073709551614 (items_from 0 0 c.args.text.now) _ _ c.new-lexer.ensures.cut
    (sym c.new-lexer.ensures.answers ∙ c.in-Some-Ok.ensures.steps.answers
    ∙ ap (λ r. answer_of r ∷ answers_left c.next.new.self) c.in-Some-Ok.field-0-is) s) in
    let same : length c.data.result.now ≡ length c.args.text.now = ap length (c.data.ensures ∙ is.1) in
    let no : true ≡ false = sym (eq-eqb (length c.data.result.now) (length c.args.text.now) same) ∙ e in
    (cc)

pub returns-in_default : goal.returns-in_default
returns-in_default c = record {
  yes = λ e. let no : true ≡ false = sym e in absurd (cc);
  no = λ _ s.
      let token = c.in-Some-Ok.token in
      let is = string-token token.kind token.text.now c.args.text.now token.index
      (first-answer c.args.text.now 18446744073709551614 (items_from 0 0 c.args.text.now) _ _ c.new-lexer.ensures.cut
      (sym c.new-lexer.ensures.answers ∙ c.in-Some-Ok.ensures.steps.answers
      ∙ ap (λ r. answer_of r ∷ answers_left c.next.new.self) c.in-Some-Ok.field-0-is) s)
      in
      c.in_default.not-StringValue (c.kind.ensures ∙ is.0);
}

pub returns-in-Some-Err-clause-no : goal.returns-in-Some-Err-clause-no
returns-in-Some-Err-clause-no c = λ _ s.
    let error = c.in-Some-Err.field-0-0 in
    no-error error.is_limit error.text.now c.args.text.now error.index
    (first-answer c.args.text.now 18446744073709551614
    (items_from 0 0 c.args.text.now) _ _ c.new-lexer.ensures.cut
    (sym c.new-lexer.ensures.answers ∙ c.in-Some-Err.ensures.steps.answers
    ∙ ap (λ r. answer_of r ∷ answers_left c.next.new.self) c.in-Some-Err.field-0-is) s)

pub returns-in-None-clause-no : goal.returns-in-None-clause-no
returns-in-None-clause-no c = λ _ s.
    some-answer c.args.text.now 18446744073709551614 (items_from 0 0 c.args.text.now) c.new-lexer.ensures.cut
    (sym c.new-lexer.ensures.answers ∙ c.in-None.ensures.steps.answers.0) s
