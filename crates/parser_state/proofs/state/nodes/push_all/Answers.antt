use Rattle.std.proofs.Common.{◌∙◌, ap, arith, length}
use Rattle.document_grammar.specs.Builds.{Building, built_text}
use Rattle.parser_state.proofs.Lengths.{next-fits, next-taken}
use Rattle.parser_state.proofs.Reading.{one_more}
use Rattle.parser_state.proofs.state.nodes.push_all.Goals as goal

pub token-requires : goal.token-requires
token-requires g c = next-fits c.args.pending.now c.loop-token.token-index _ _ c.loop-token.builder
    c.loop-token-test.true c.loop-token.invariant.1 c.requires

pub loop-token-preserved : goal.loop-token-preserved
loop-token-preserved g c = (
  c.loop-token.invariant.0 ∙ one_more _ _ _ _ _ c.loop-token-test.true c.in_ok-token.ensures.ok,
  next-taken _ _ _ _ _ _ c.loop-token-test.true c.in_ok-token.ensures.ok c.loop-token.invariant.1,
)

pub returns-in_err-token-clause-len : goal.returns-in_err-token-clause-len
returns-in_err-token-clause-len g c =
    let e = ap (λ (d : Building). length (built_text d)) c.in_err-token.ensures.err in
    omega (arith, e, c.loop-token.invariant.1)

pub returns-clause-len : goal.returns-clause-len
returns-clause-len g c = omega (arith, c.loop-token.invariant.1)
