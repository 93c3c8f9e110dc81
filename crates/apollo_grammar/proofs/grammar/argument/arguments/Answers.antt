use Rattle.std.proofs.Common.{refl}
use Rattle.lexical_grammar.specs.declared.TokenKind.TheVariants as token
use Rattle.parser_rules.proofs.runs.Progress.{consuming, here-there, taken}
use Rattle.parser_rules.specs.RuleLanguage.{Kind}
use Rattle.apollo_grammar.proofs.grammar.argument.arguments.Goals as goal

pub loop-constness-smaller : goal.loop-constness-smaller
unfolding consuming
loop-constness-smaller g c =
    taken c.in_ok-argument.ensures.runs (here-there (Kind token.Name) _ c.loop-constness-test.ensures) refl
