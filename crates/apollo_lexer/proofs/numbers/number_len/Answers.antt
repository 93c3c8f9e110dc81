use Rattle.std.proofs.Common.{◌≡◌, true, false, ap, ◌∙◌, sym}
use denote.Enum.Bare.{sameb}
use Rattle.lexical_grammar.specs.contracts.NumberState.{the_type}
use Rattle.lexical_grammar.specs.declared.NumberState.TheVariants.{Dead}
use Rattle.apollo_lexer.proofs.NumberRuns.{reads-more}
use Rattle.apollo_lexer.proofs.numbers.number_len.Goals as goal

pub loop-n-preserved : goal.loop-n-preserved
loop-n-preserved c =
    reads-more c.args.bytes.now c.loop-n.state c.step-next.result c.loop-n.n c.loop-n.invariant
    c.loop-n-test.true c.step-next.ensures
    (λ e. let is : false ≡ true = sym c.if-eq.false ∙ c.eq.ensures ∙ ap (λ s. sameb the_type s Dead) e in (cc))
