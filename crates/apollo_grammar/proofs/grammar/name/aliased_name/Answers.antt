use Rattle.std.proofs.Common.{◌≡◌, true, sym, subst}
use Rattle.lexical_grammar.specs.declared.TokenKind.TheVariants as token
use Rattle.parser_rules.specs.Nodes.{AliasedName}
use Rattle.parser_rules.specs.RuleLanguage.{At, Call, holds}
use Rattle.parser_rules.specs.State.{State}
use Rattle.parser_state.specs.Parses.{Parses}
use Rattle.apollo_grammar.proofs.grammar.name.aliased_name.Goals as goal

pub aliased_name_before-requires : goal.aliased_name_before-requires
aliased_name_before-requires g c =
    let l = c.is_before-next_is_colon.ensures in
    record { at = subst (λ (s : State). true ≡ holds (At token.Name) s) (sym l.same) c.requires; after = l.next }

pub returns : goal.returns
returns g c = subst (λ (s : State). Parses (Call AliasedName) c.aliased_name_before.result s
    c.aliased_name_before.new.p) c.is_before-next_is_colon.ensures.same
    c.aliased_name_before.ensures
