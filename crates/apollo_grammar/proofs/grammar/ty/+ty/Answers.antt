use Rattle.std.proofs.Common.{refl, ap, arith}
use Rattle.lexical_grammar.specs.declared.TokenKind.TheVariants as token
use Rattle.document_grammar.specs.declared.kind.SyntaxKind.TheVariants as kind
use Rattle.parser_rules.proofs.runs.Frame.{left, is-checkpoint, still-checkpoint, still-open, still-at, open-wrapped}
use Rattle.parser_rules.proofs.runs.Progress.{consuming, here-there, taken, entered-left, flushed-left}
use Rattle.parser_rules.specs.RuleLanguage.{Kind}
use Rattle.parser_rules.specs.State.{opened, flush}
use Rattle.apollo_grammar.proofs.grammar.ty.+ty.Goals as goal

pub ty-nullable_type-requires : goal.ty-nullable_type-requires
ty-nullable_type-requires g t c =
    let h = flushed-left _ c.in_ok-checkpoint.ensures.flushed in
    λ κs w. (omega (arith, h, c.decreases), w)

pub list_type-inside_list_type-requires : goal.list_type-inside_list_type-requires
unfolding left opened flush
list_type-inside_list_type-requires g t c =
    let h = ap left c.in_ok-start_node.ensures.step in
    λ κs w. (
      omega (arith, h, c.decreases),
      (w, still-at kind.LIST_TYPE token.LBracket _ c.requires c.in_ok-start_node.ensures.step),
    )

pub inside_list_type-item_type-requires : goal.inside_list_type-item_type-requires
unfolding consuming
inside_list_type-item_type-requires g t c =
    let h = taken c.in_ok-bump.ensures.runs (here-there (Kind token.LBracket) _ c.requires) refl in
    let k = entered-left _ c.enter.ensures.step in
    λ κs w. (omega (arith, h, k, c.decreases), w)

pub ty-wrap-requires : goal.ty-wrap-requires
ty-wrap-requires g t c =
    still-checkpoint _ c.in_ok-nullable_type.ensures.runs
    (is-checkpoint c.checkpoint.new.self _ c.in_ok-checkpoint.ensures.index)

pub ty-finish_node-requires : goal.ty-finish_node-requires
ty-finish_node-requires g t c =
    still-open c.in_ok-bump.ensures.runs (open-wrapped kind.NON_NULL_TYPE _ _ refl c.in_ok-wrap.ensures.step)
