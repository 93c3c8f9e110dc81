use Rattle.std.proofs.Common.{◌≡◌, ◌∙◌, ◌∷◌, false, not, sym, ap, subst, arith}
use Rattle.std.proofs.lemmas.Bool.Decides.{nat_tests}
use Rattle.lexical_grammar.specs.Answers.{limited, usize_max}
use Rattle.lexical_grammar.specs.Cut.{is_significant_kind}
use Rattle.lexical_grammar.specs.Reads.{items_of}
use Rattle.apollo_lexer.specs.Answers.{answers_left, answer_of}
use Rattle.formatter.proofs.Ignored.{are_ignored_answers, begin, few, none-of, some-there, stopped, tokens-of}
use Rattle.formatter.proofs.Ignored.{error-stops}
use Rattle.formatter.proofs.comments.is_all_ignored.Goals as goal

pub loop-item-init : goal.loop-item-init
loop-item-init c =
    let left : answers_left c.into_iter-item-iterator.result ≡ limited usize_max (items_of c.args.source.now) =
    ap answers_left c.into_iter-item-iterator.ensures.into_iter_gives ∙ c.new-item-items.ensures.answers in
    begin _ c.args.source.now left

pub returns-in_default-clause-few : goal.returns-in_default-clause-few
returns-in_default-clause-few c = few _ c.args.source.now c.new-item-items.ensures.answers

pub returns-in_default-clause-some : goal.returns-in_default-clause-some
returns-in_default-clause-some c = λ e.
    let given : answers_left c.loop-item.item-iterator ≡ answer_of c.in-Some.item ∷ answers_left c.next.new.self =
    c.in-Some.ensures.steps.answers in
    some-there c.args.source.now c.utf8.source (error-stops c.in_default.field-0 _ _ _
    (subst (λ item. answers_left c.loop-item.item-iterator ≡ answer_of item ∷ answers_left c.next.new.self)
    c.in_default.is given) c.loop-item.invariant)

pub returns-then-not-is_ignored-clause-few : goal.returns-then-not-is_ignored-clause-few
returns-then-not-is_ignored-clause-few c = few _ c.args.source.now c.new-item-items.ensures.answers

pub returns-then-not-is_ignored-clause-some : goal.returns-then-not-is_ignored-clause-some
returns-then-not-is_ignored-clause-some c = λ e.
    let given : answers_left c.loop-item.item-iterator ≡ answer_of c.in-Some.item ∷ answers_left c.next.new.self =
    c.in-Some.ensures.steps.answers in
    let significant : c.is_ignored.result ≡ false = grind (arith, nat_tests) in
    some-there c.args.source.now c.utf8.source (stopped _ _ _ _
    (subst (λ item. answers_left c.loop-item.item-iterator ≡ answer_of item ∷ answers_left c.next.new.self)
    c.in-Ok.is given)
    (sym (ap (λ k. not (is_significant_kind k)) c.kind.ensures) ∙ sym c.is_ignored.ensures ∙ significant)
    c.loop-item.invariant)

pub returns-clause-few : goal.returns-clause-few
returns-clause-few c = few _ c.args.source.now c.new-item-items.ensures.answers

pub returns-clause-tokens : goal.returns-clause-tokens
returns-clause-tokens c =
    λ e. tokens-of (items_of c.args.source.now)
    (sym c.loop-item.invariant ∙ ap are_ignored_answers c.in-None.ensures.steps.answers.0)

pub returns-clause-none : goal.returns-clause-none
returns-clause-none c =
    λ e. none-of (items_of c.args.source.now)
    (sym c.loop-item.invariant ∙ ap are_ignored_answers c.in-None.ensures.steps.answers.0)
