use Rattle.std.proofs.Common.{◌≡◌, true, refl, sym, ap, subst, arith}
use Rattle.lexical_grammar.specs.declared.TokenKind.TheVariants as token
use Rattle.document_grammar.specs.declared.kind.SyntaxKind.TheVariants as kind
use Rattle.parser_rules.proofs.runs.Frame.{fewer, turned, left, still-at}
use Rattle.parser_rules.proofs.runs.Progress.{consuming, here-there, taken, opened-takes, entered-left}
use Rattle.parser_rules.specs.Nodes.{Spread}
use Rattle.parser_rules.specs.RuleLanguage.{Kind, At, Call, holds}
use Rattle.parser_rules.specs.Rules.{selection_start}
use Rattle.parser_rules.specs.State.{State, opened, flush}
use Rattle.parser_state.specs.Parses.{Parses}
use Rattle.apollo_grammar.proofs.Looks.{other-at}
use Rattle.apollo_grammar.proofs.grammar.+selection.Goals as goal

pub field::field-selection_set-requires : goal.field::field-selection_set-requires
unfolding consuming
field::field-selection_set-requires g t c =
    let h = opened-takes kind.FIELD _ c.in_ok-start_node.ensures.step c.in_ok-aliased_name.ensures.runs
    (here-there (Kind token.Name) _ c.requires) refl in
    let k = fewer c.in_ok-optional_arguments.ensures.runs in
    let l = fewer c.in_ok-optional_directives.ensures.runs in
    λ κs w. (omega (arith, h, k, l, c.decreases), (w, c.if-at.ensures))

pub fragment::inline_fragment-selection_set-requires : goal.fragment::inline_fragment-selection_set-requires
unfolding consuming
fragment::inline_fragment-selection_set-requires g t c =
    let h = opened-takes kind.INLINE_FRAGMENT c.args.p.now refl c.in_ok-start_node_with.ensures.runs
    (here-there (Kind token.Spread) _ c.requires) refl in
    let k = fewer c.in_ok-optional_type_condition.ensures.runs in
    let l = fewer c.in_ok-optional_directives.ensures.runs in
    λ κs w. (omega (arith, h, k, l, c.decreases), (w, c.if-at.ensures))

pub selection::selection_set-inside_selection_set-requires : goal.selection::selection_set-inside_selection_set-requires
unfolding left opened flush
selection::selection_set-inside_selection_set-requires g t c =
    let h = ap left c.in_ok-start_node.ensures.step in
    λ κs w. (
      omega (arith, h, c.decreases),
      (w, still-at kind.SELECTION_SET token.LCurly _ c.requires c.in_ok-start_node.ensures.step),
    )

pub selection::inside_selection_set-selections-requires : goal.selection::inside_selection_set-selections-requires
unfolding consuming
selection::inside_selection_set-selections-requires g t c =
    let h = taken c.in_ok-bump.ensures.runs (here-there (Kind token.LCurly) _ c.requires) refl in
    let k = entered-left _ c.enter.ensures.step in
    λ κs w. (omega (arith, h, k, c.decreases), w)

pub selection::selections-selection-requires : goal.selection::selections-selection-requires
selection::selections-selection-requires g t c =
    let h = fewer c.in_ok-want_selection.ensures.runs in
    let k = (turned c.loop-p.invariant).fewer in
    λ κs w. (omega (arith, h, k, c.decreases), (w, c.loop-p-test.ensures))

pub selection::selections-loop-p-smaller : goal.selection::selections-loop-p-smaller
unfolding consuming
selection::selections-loop-p-smaller g t c =
    taken c.in_ok-selection.ensures.runs (here-there selection_start _ c.loop-p-test.ensures) refl

pub selection::selection-spread-requires : goal.selection::selection-spread-requires
selection::selection-spread-requires g t c =
    λ κs w. (omega (arith, c.decreases), (w, other-at token.Name token.Spread _ c.requires c.if-at.ensures))

pub selection::spread-spread_before-requires : goal.selection::spread-spread_before-requires
selection::spread-spread_before-requires g t c =
    let h = ap left c.peek-next.ensures.same in
    λ κs w. (
      omega (arith, h, c.decreases),
      (
        w,
        (
          subst (λ (s : State). true ≡ holds (At token.Spread) s) (sym c.peek-next.ensures.same) c.requires,
          c.peek-next.ensures.found,
        ),
      ),
    )

pub selection::spread-returns : goal.selection::spread-returns
selection::spread-returns g t c =
    subst (λ (s : State). Parses (Call Spread) c.spread_before.result s c.spread_before.new.p) c.peek-next.ensures.same
    c.spread_before.ensures
