-- How many elements and reports a part of a document can have that is parsed by itself.
use Rattle.std.proofs.Common.{◌≡◌, ℕ, ◌^◌, min, true, is_some, List, length, sym, ap, ◌∙◌, subst, inl, inr}
use Rattle.lexical_grammar.specs.Answers.{Answer, limited}
use Rattle.lexical_grammar.specs.Cut.{Item}
use Rattle.document_grammar.proofs.Booleans.{either, not-some}
use Rattle.document_grammar.specs.declared.kind.SyntaxKind.{SyntaxKind}
use Rattle.grammar_machine.specs.Machine.{holds as within}
use Rattle.parser_rules.proofs.fragments.RootChecks.{PaidRoot, list_paid, named_paid, non_null_paid, no_type_paid}
use Rattle.parser_rules.proofs.fragments.WrappedRuns.{started-around}
use Rattle.parser_rules.proofs.lookahead.TokenSets.{absent, present, class_of, present-is, edges}
use Rattle.parser_rules.proofs.runs.Reading.{reading, found}
use Rattle.parser_rules.proofs.sizes.Costs.{flush-cost}
use Rattle.parser_rules.proofs.sizes.Sizes.{Sized, sized}
use Rattle.parser_rules.specs.Fragments.{started, unopened, IsTypeRoot, a_list, a_name, not_null, no_type}
use Rattle.parser_rules.specs.RuleLanguage.{Rule, Here, holds, fits}
use Rattle.parser_rules.specs.Rules.{type_start}
use Rattle.parser_rules.specs.Runs.{Runs, yes}
use Rattle.parser_rules.specs.State.{State, flush, fresh, begun}

pub root-sized : {rule : Rule} {state : State} (n : ℕ) (items : List Item) (limit : ℕ) (kind : SyntaxKind)
    → PaidRoot rule
    → Runs rule (started (limited n items) limit kind) state → Sized (min (length items) n) state
unfolding flush
root-sized n items limit kind pays run =
    let xs : List Answer = limited n items in
    let before : State = begun xs limit kind in
    let shown = (found (reading xs (fresh xs limit kind))).shown in
    elim (either (is_some before.current)) [
      | inl p ↦ sized n items limit kind present pays.some (λ d. flush-cost d before) shown
          (sym (present-is before.current shown) ∙ p) run
      | inr p ↦ sized n items limit kind (2 ^ absent) pays.none (λ d. flush-cost d before) shown
          (subst (λ o. within (class_of o) (2 ^ absent) ≡ true) (sym (not-some before.current p)) edges.none_one) run
    ]

-- the first token is the same, whether the root is open or not
still-starts : (xs : List Answer) (limit : ℕ) (kind : SyntaxKind) → true ≡ holds (Here type_start) (unopened xs limit)
    → true ≡ holds (Here type_start) (started xs limit kind)
unfolding holds
still-starts xs limit kind e = e ∙ ap (λ (s : State). fits type_start s.current) (sym (started-around xs limit kind))

pub type-sized : {kind : SyntaxKind} {rule : Rule} {state : State} (n : ℕ) (items : List Item) (limit : ℕ)
    → IsTypeRoot (unopened (limited n items) limit) kind rule → Runs rule (started (limited n items) limit kind) state
    → Sized (min (length items) n) state
type-sized {kind = kind} n items limit (a_list e) run = root-sized n items limit kind list_paid run
type-sized {kind = kind} n items limit (a_name e) run = root-sized n items limit kind named_paid run
type-sized {kind = kind} n items limit (not_null e) run =
    root-sized n items limit kind non_null_paid (yes (still-starts (limited n items) limit kind e) run)
type-sized {kind = kind} n items limit (no_type e) run = root-sized n items limit kind no_type_paid run
