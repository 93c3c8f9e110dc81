use Rattle.std.proofs.Common.{refl, arith, ◌∙◌}
use Rattle.std.proofs.lemmas.Result.{on_ok_weaker}
use Rattle.lexical_grammar.specs.declared.TokenKind.TheVariants as token
use Rattle.document_grammar.specs.declared.kind.SyntaxKind.TheVariants as kind
use Rattle.parser_rules.proofs.runs.Frame.{fewer, turned, ended}
use Rattle.parser_rules.proofs.runs.Progress.{consuming, here-there, taken, opened-takes, entered-left, item-taken}
use Rattle.parser_rules.specs.Nodes.{NestedValue, ListItems}
use Rattle.parser_rules.specs.RuleLanguage.{Kind}
use Rattle.parser_rules.specs.Rules.{body}
use Rattle.parser_rules.specs.Runs.{seq, yes, no, call, deeper, limited, skip}
use Rattle.apollo_grammar.proofs.Looks.{deep-there}
use Rattle.apollo_grammar.proofs.grammar.value.+value.Goals as goal

pub nested_value-value-requires : goal.nested_value-value-requires
nested_value-value-requires g t c =
    let k = entered-left _ c.enter.ensures.step in
    λ κs w. (omega (arith, k, c.decreases), w)

pub list_value-list_items-requires : goal.list_value-list_items-requires
unfolding consuming
list_value-list_items-requires g t c =
    let h = opened-takes kind.LIST_VALUE c.args.p.now refl c.in_ok-start_node_with.ensures.runs
    (here-there (Kind token.LBracket) _ c.requires) refl in
    λ κs w. (omega (arith, h, c.decreases), w)

pub list_items-nested_value-requires : goal.list_items-nested_value-requires
list_items-nested_value-requires g t c =
    let k = (turned c.loop-constness.invariant).fewer in
    λ κs w. (omega (arith, k, c.decreases), w)

pub list_items-loop-constness-smaller : goal.list_items-loop-constness-smaller
list_items-loop-constness-smaller g t c = item-taken c.in_ok-nested_value.ensures.runs c.loop-constness-test.ensures

pub object_value-object_field-requires : goal.object_value-object_field-requires
unfolding consuming
object_value-object_field-requires g t c =
    let h = opened-takes kind.OBJECT_VALUE c.args.p.now refl c.in_ok-start_node_with.ensures.runs
    (here-there (Kind token.LCurly) _ c.requires) refl in
    let k = (turned c.loop-constness.invariant).fewer in
    λ κs w. (omega (arith, h, k, c.decreases), (w, c.loop-constness-test.ensures))

pub object_value-loop-constness-smaller : goal.object_value-loop-constness-smaller
unfolding consuming
object_value-loop-constness-smaller g t c =
    taken c.in_ok-object_field.ensures.runs (here-there (Kind token.Name) _ c.loop-constness-test.ensures) refl

pub object_field-nested_value-requires : goal.object_field-nested_value-requires
unfolding consuming
object_field-nested_value-requires g t c =
    let h = opened-takes kind.OBJECT_FIELD _ c.in_ok-start_node.ensures.step c.in_ok-name.ensures.runs
    (here-there (Kind token.Name) _ c.requires) refl in
    let k = fewer c.in_ok-bump.ensures.runs in
    λ κs w. (omega (arith, h, k, c.decreases), w)

pub nested_value-returns : goal.nested_value-returns
unfolding body
nested_value-returns g t c =
    record {
      runs = call {part = NestedValue _}
          (deeper c.if-is_too_deep.ensures c.enter.ensures.step c.leave.ensures.step c.in_ok-value.ensures.runs skip);
      budget = cc;
    }

pub list_items-returns-then-is_ready : goal.list_items-returns-then-is_ready
unfolding body
list_items-returns-then-is_ready g t c = record {
  runs = on_ok_weaker c.too_deep.result
      (λ e. call {part = ListItems _} (seq (ended c.loop-constness.invariant c.loop-constness-test.ensures)
      (no c.if-at.ensures (yes c.if-is_ready.ensures
      (limited (deep-there _ c.loop-constness-test.ensures c.if-at.ensures c.if-is_ready.ensures) e)))))
      c.too_deep.ensures.step;
  budget = c.too_deep.ensures.budget ∙ (turned c.loop-constness.invariant).budget;
}
