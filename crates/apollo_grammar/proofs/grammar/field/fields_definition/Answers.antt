use Rattle.std.proofs.Common.{refl}
use Rattle.parser_rules.proofs.runs.Progress.{consuming, here-there, taken}
use Rattle.parser_rules.specs.Rules.{named_start}
use Rattle.apollo_grammar.proofs.grammar.field.fields_definition.Goals as goal

pub loop-p-smaller : goal.loop-p-smaller
unfolding consuming
loop-p-smaller g c = taken c.in_ok-field_definition.ensures.runs (here-there named_start _ c.loop-p-test.ensures) refl
