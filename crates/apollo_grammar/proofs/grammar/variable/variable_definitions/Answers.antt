use Rattle.std.proofs.Common.{refl}
use Rattle.parser_rules.proofs.runs.Progress.{consuming, here-there, taken}
use Rattle.parser_rules.specs.Rules.{variable_start}
use Rattle.apollo_grammar.proofs.grammar.variable.variable_definitions.Goals as goal

pub loop-p-smaller : goal.loop-p-smaller
unfolding consuming
loop-p-smaller g c = taken c.in_ok-variable_definition.ensures.runs
    (here-there variable_start _ c.loop-p-test.ensures) refl
