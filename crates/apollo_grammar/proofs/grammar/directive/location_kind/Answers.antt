use Rattle.std.proofs.Common.{sym, ◌∙◌}
use Rattle.parser_state.specs.View.{current_of}
use Rattle.apollo_grammar.proofs.Locations.{keyword, start, here, later, end}
use Rattle.apollo_grammar.proofs.grammar.directive.location_kind.Goals as goal

pub is_word-requires : goal.is_word-requires
is_word-requires c = keyword c.loop-kind.kind-index c.loop-kind-test.true

pub loop-kind-init : goal.loop-kind-init
loop-kind-init c = start (current_of c.args.token)

pub loop-kind-preserved : goal.loop-kind-preserved
loop-kind-preserved c =
    sym (later c.loop-kind.kind-index _ c.loop-kind-test.true c.if-is_word.ensures) ∙ c.loop-kind.invariant

pub returns-then-is_word : goal.returns-then-is_word
returns-then-is_word c =
    sym (here c.loop-kind.kind-index _ c.loop-kind-test.true c.if-is_word.ensures) ∙ c.loop-kind.invariant

pub returns : goal.returns
returns c = sym (end c.loop-kind.kind-index _ c.loop-kind-test.false) ∙ c.loop-kind.invariant
