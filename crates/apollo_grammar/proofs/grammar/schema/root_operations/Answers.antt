use Rattle.std.proofs.Common.{refl}
use Rattle.lexical_grammar.specs.declared.TokenKind.TheVariants as token
use Rattle.parser_rules.proofs.runs.Progress.{consuming, here-there, taken}
use Rattle.parser_rules.specs.RuleLanguage.{Kind}
use Rattle.apollo_grammar.proofs.grammar.schema.root_operations.Goals as goal

pub loop-p-smaller : goal.loop-p-smaller
unfolding consuming
loop-p-smaller g c = taken c.in_ok-root_operation_type_definition.ensures.runs
    (here-there (Kind token.Name) _ c.loop-p-test.ensures) refl
