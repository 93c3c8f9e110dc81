use Rattle.std.proofs.Common.{refl}
use Rattle.lexical_grammar.specs.declared.TokenKind.TheVariants as token
use Rattle.parser_rules.proofs.runs.Progress.{consuming, here-there, taken}
use Rattle.parser_rules.specs.RuleLanguage.{Kind}
use Rattle.parser_rules.specs.Runs.{seq}
use Rattle.apollo_grammar.proofs.grammar.union_.union_member_types.Goals as goal

pub loop-p-smaller : goal.loop-p-smaller
unfolding consuming
loop-p-smaller g c = taken (seq c.in_ok-bump.ensures.runs c.in_ok-union_member-2.ensures.runs)
    (here-there (Kind token.Pipe) _ c.loop-p-test.ensures) refl
