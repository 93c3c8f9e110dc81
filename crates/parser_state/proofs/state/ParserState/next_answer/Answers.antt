use Rattle.std.proofs.Common.{rules, subst, arith, ◌<◌, ◌^◌}
use Rattle.lexical_grammar.specs.Answers.{AreAnswers}
use Rattle.parser_rules.specs.State.{State}
use Rattle.apollo_lexer.proofs.Law.{answers-are-items}
use Rattle.parser_state.proofs.Lengths.{after-taken, taken-length}
use Rattle.parser_state.proofs.Reading.{taken-text}
use Rattle.parser_state.proofs.state.ParserState.next_answer.Goals as goal
use Rattle.parser_state.specs.Lengths.{length_of}

pub invariant_of-self : goal.invariant_of-self
invariant_of-self g c = (c.self.invariant.0, after-taken _ _ _ _ _ _ c.next_answer.ensures.answers c.self.invariant.1)

pub returns-clause-taken : goal.returns-clause-taken
returns-clause-taken g c = search rules

pub returns-clause-text : goal.returns-clause-text
returns-clause-text g c =
    taken-text _ _ _ (returns-clause-taken g c) (subst (λ (s : State). AreAnswers s.items) c.self.view_is
    (answers-are-items c.self.inside.reader.lexer))

pub returns-clause-len : goal.returns-clause-len
returns-clause-len g c =
    let m = taken-length _ _ _ (returns-clause-taken g c) in
    let n = subst (λ (s : State). length_of s < 2 ^ 64) c.self.view_is c.self.invariant.1 in
    omega (arith, m, n)
