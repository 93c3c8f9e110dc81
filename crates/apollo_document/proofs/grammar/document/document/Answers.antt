use Rattle.std.proofs.Common.{refl}
use Rattle.parser_rules.proofs.runs.Progress.{consuming, ready-there, taken}
use Rattle.apollo_document.proofs.grammar.document.document.Goals as goal

pub loop-p-smaller : goal.loop-p-smaller
unfolding consuming
loop-p-smaller g c = taken c.in_ok-definition.ensures.runs (ready-there _ c.loop-p-test.ensures) refl
