-- Going on after reports: where the tokens that are left at a turn of the document's loop are a sentence's, its
-- children follow, without a report.
use Rattle.std.proofs.Common.{◌≡◌, ℕ, ◌≤◌, Bool, true, is_some, List, [], ◌∷◌, ◌++◌, Option, Some, None, refl, sym, ap}
use Rattle.std.proofs.Common.{ap₂, ◌∙◌, subst, ◌⊎◌, inl, inr, append-nil}
use Rattle.lexical_grammar.specs.Answers.{Answer, gives, limit_at, limited}
use Rattle.lexical_grammar.specs.Cut.{Item, Cut}
use Rattle.document_grammar.proofs.Booleans.{false-true, and-l, and-r}
use Rattle.document_grammar.proofs.Joins.{join-assoc}
use Rattle.document_grammar.specs.Builds.{Building, Open, start, nothing}
use Rattle.document_grammar.specs.Derivation.{document, Spells, nest}
use Rattle.document_grammar.specs.Forests as built
use Rattle.document_grammar.specs.Kinds.{DOCUMENT}
use Rattle.document_grammar.specs.Tree.{Tree, node, Forest, none}
use Rattle.document_grammar.specs.declared.kind.SyntaxKind.TheVariants as kind
use Rattle.grammar_machine.proofs.FromMachineTree.{show, shows}
use Rattle.grammar_machine.proofs.Patterns.{label}
use Rattle.grammar_machine.proofs.SentenceTheorems.{one-derivation}
use Rattle.grammar_machine.proofs.Sound.{any}
use Rattle.grammar_machine.proofs.TableLemmas.{head-same}
use Rattle.grammar_machine.specs.Machine.{holds as within}
use Rattle.parser_rules.proofs.NodeChecks.{document_passes}
use Rattle.parser_rules.proofs.lookahead.Split.{at_start}
use Rattle.parser_rules.proofs.lookahead.TokenSets.{ready-is, of-any, ready}
use Rattle.parser_rules.proofs.reports.AlongItems.{reported-at}
use Rattle.parser_rules.proofs.reports.InOrder.{AllUpTo, before-last}
use Rattle.parser_rules.proofs.reports.NoReport.{answers_tokens, all_tokens, current_tokens, Now, Held}
use Rattle.parser_rules.proofs.runs.Anew.{Built, built_of, on, Same_steps, anew}
use Rattle.parser_rules.proofs.runs.Frame.{parts_forest, added-all, add_all-above}
use Rattle.parser_rules.proofs.runs.Reading.{Shown, second-shown}
use Rattle.parser_rules.proofs.soundness.Positions.{StateFits, RightlyReported}
use Rattle.parser_rules.proofs.soundness.Soundness.{document-label, document_input, root-agrees, loops, Turn, from_now}
use Rattle.parser_rules.proofs.soundness.Soundness.{now_words, Silent, run-outcome, none-right}
use Rattle.parser_rules.proofs.soundness.TableCheck.{turns_follow}
use Rattle.parser_rules.proofs.soundness.WithoutIgnored.{stack, strip, layers, all_ignored}
use Rattle.parser_rules.specs.Nodes.{Definition}
use Rattle.parser_rules.specs.Reports.{Reported, no_more, passed}
use Rattle.parser_rules.specs.RuleLanguage.{Rule, Call, Ready, holds}
use Rattle.parser_rules.specs.Runs.{Runs, Turns}
use Rattle.parser_rules.specs.State.{State, Lexeme, Report, add_all, begun, fault_report, second as second_of}
use Rattle.parser_rules.specs.declared.message.Message.TheVariants as message

-- the same turn in a tree of its own
abbrev pub own_tree : Built
own_tree = record { tree = start kind.DOCUMENT nothing; errors = []; high = 0 }

abbrev pub afresh : State → State
afresh st = on st own_tree

afresh-fits : (st : State) (turn : Turn st) → all_ignored st.pending ≡ true
    → StateFits (document_input st.limit (from_now st turn)) DOCUMENT at_start ready any [] (afresh st)
unfolding holds within
afresh-fits st turn i = record {
  no_report = record {
    quiet = record { clean = refl; accepts = turn.accepts; waits = i };
    now = subst (λ (o : Option Lexeme). Now o st.items) (sym turn.current) turn.now;
    held = subst (λ (o : Option Lexeme). Held (from_now st turn) o st.items) (sym turn.current)
        (record { front = []; split = refl; tokens = refl });
  };
  seen = record {
    near = sym (turn.is_ready ∙ ready-is st.current shown_now);
    far = of-any (second_of st.items) (second-shown st.items);
  };
  position = root-agrees st.limit st.asked st.budget (from_now st turn) st.items (afresh st)
      (record { tree = refl; depth = turn.no_level; limit = refl; high = refl; asked = refl; budget = refl })
      (ap (λ (o : Option Lexeme). current_tokens o ++ answers_tokens st.items) turn.current);
}
  where
    shown_now : Shown st.current
    shown_now = subst (λ (o : Option Lexeme). Shown o) (sym turn.current) turn.now.0

-- A run from a turn on, as one of a document of its own: the first report is right, or there is none and a sentence is
-- built. Both runs add the same trees and reports.
pub record From_turn (st state : State) (turn : Turn st) : Type 0 where
  pub own : Built
  pub steps : Same_steps (built_of st) (built_of state) own_tree own
  pub parsed : RightlyReported (document_input st.limit (from_now st turn)) (on state own)
      ⊎ Silent st.limit (from_now st turn) (on state own)

pub from-turn : (st state : State) (turn : Turn st) → all_ignored st.pending ≡ true → Runs loops st state
    → From_turn st state turn
unfolding turns_follow
from-turn st state turn i run = let a = anew run own_tree in record {
  own = a.0;
  steps = a.2;
  parsed = run-outcome st.limit (from_now st turn) ready document_passes.turns a.1 (afresh-fits st turn i);
}

-- The root's later children are the derivation's, and nothing more is reported.
pub record Recovered (st state : State) (tree : Tree) : Type 0 where
  pub later : built.Forest
  pub children : (add_all state.pending state.tree).here ≡ built.join st.tree.here later
  pub derived : node DOCUMENT (strip later) ≡ tree
  pub silent : state.errors ≡ st.errors

root-layer : (building : Building) (o : Open) (k : ℕ) (forest : Forest) (more : List (ℕ × Forest))
    → building.above ≡ o ∷ []
    → stack building ≡ (k, forest) ∷ more → strip building.here ≡ forest
root-layer building o k forest more a e =
    ap (λ (l : ℕ × Forest). l.1) (head-same (sym (ap (layers building.here) a) ∙ e))

pub recovers : (st state : State) (turn : Turn st) (tree : Tree) → all_ignored st.pending ≡ true
    → Spells (now_words st turn) tree document
    → nest tree ≤ st.limit → all_tokens (from_now st turn) ≡ true → Runs loops st state → Recovered st state tree
recovers st state turn tree i spells n a run =
    let f = from-turn st state turn i run in
    elim f.parsed [
      | inl o ↦ absurd (none-right st.limit (from_now st turn) o.report o.taken tree spells n a o.right)
      | inr o ↦ (
          let own : State = on state f.own in
          let more : built.Forest = f.steps.more in
          let later : built.Forest = built.join more (parts_forest state.pending) in
          let here : (add_all own.pending own.tree).here ≡ later = (added-all own.pending own.tree).here
          ∙ ap (λ (x : built.Forest). built.join x (parts_forest state.pending)) f.steps.other.trees.here in
          let bare : strip later ≡ shows o.children = ap strip (sym here) ∙ root-layer (add_all own.pending own.tree)
          (record { before = built.none; kind = kind.DOCUMENT }) (label DOCUMENT) (shows o.children) ((0, none) ∷ [])
          (add_all-above own.pending own.tree ∙ f.steps.other.trees.above) o.built in
          record {
            later = later;
            children = (added-all state.pending state.tree).here
                ∙ (ap (λ (x : built.Forest). built.join x (parts_forest state.pending)) f.steps.one.trees.here
                ∙ join-assoc st.tree.here more (parts_forest state.pending));
            derived = ap₂ (λ (k : ℕ) (forest : Forest). node k forest) (sym document-label.0) bare
                ∙ one-derivation document (now_words st turn) (show (node DOCUMENT o.children)) tree
                o.clean.spells spells;
            silent = f.steps.one.errors
                ∙ (ap (λ (z : List Report). st.errors ++ z) (sym f.steps.other.errors ∙ o.silent)
                ∙ append-nil st.errors);
          })
    ]

-- where all answers are tokens, none has a report of its own
tokens-silent : (taken : Bool) (xs : List Answer) → all_tokens xs ≡ true → Reported taken xs []
tokens-silent taken [] h = no_more
tokens-silent taken (limit_at index ∷ xs) h = false-true refl (and-l _ _ h)
tokens-silent taken (gives item ∷ xs) h =
    (elim item.kind as (λ found. item.kind ≡ found → is_some found ≡ true → Reported taken (gives item ∷ xs) []) [
      | None ↦ λ e g. false-true refl g
      | Some k ↦ λ e g. passed e (tokens-silent taken xs (and-r _ _ h))
    ]) refl (and-l _ _ h)

-- and no report is beyond the first token that is left: a part of that clause
pub none-beyond : (max_depth max_items : ℕ) (source : List ℕ) (items : List Item) (first_rule : Rule) (state st : State)
    (turn : Turn st) → Cut source items
    → all_tokens (from_now st turn) ≡ true
    → Runs first_rule (begun (limited max_items items) max_depth kind.DOCUMENT) state
    → Turns Ready (Call Definition) state st → AllUpTo turn.token.index st.errors
none-beyond max_depth max_items source items first_rule state st turn cut h run turns =
    before-last max_items source items st.errors (fault_report message.UnexpectedEof turn.token) cut
    (reported-at (limited max_items items) max_depth kind.DOCUMENT message.UnexpectedEof turn.token run turns
    turn.current turn.accepts
    (tokens-silent true st.items (and-r _ _ h)))
