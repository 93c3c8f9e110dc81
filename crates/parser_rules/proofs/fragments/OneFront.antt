-- Where a part of a document is parsed by itself, one front of the answers has the leaves, and with the answers read
-- after it the reports.
use Rattle.std.proofs.Common.{◌≡◌, ℕ, ◌≤◌, Bool, true, false, List, [], ◌∷◌, ◌++◌, length, Option, Some, None, refl}
use Rattle.std.proofs.Common.{sym, ap, ◌∙◌, subst, append_assoc, arith}
use Rattle.std.proofs.lemmas.List.{append_cancel_right}
use Rattle.std.specs.Prelude.{filter, if◌then◌else◌, is_none}
use Rattle.lexical_grammar.specs.Answers.{Answer, gives, limit_at}
use Rattle.lexical_grammar.specs.Cut.{Item}
use Rattle.lexical_grammar.specs.declared.TokenKind.{TokenKind}
use Rattle.document_grammar.specs.Forests.{Forest}
use Rattle.document_grammar.specs.Leaves.{Leaf, leaves, OneLeafAnItem, ignored, shows}
use Rattle.document_grammar.specs.declared.kind.SyntaxKind.{SyntaxKind}
use Rattle.grammar_machine.proofs.TableLemmas.{head-same, tail-same}
use Rattle.parser_rules.proofs.fragments.RootRuns.{so-far}
use Rattle.parser_rules.proofs.leaves.LeafCheck.{anything, leaf_check}
use Rattle.parser_rules.proofs.leaves.OneLeaf.{first-leaves, first-leaves-left, root-part}
use Rattle.parser_rules.proofs.reports.AlongItems.{reported-gone}
use Rattle.parser_rules.proofs.runs.Fuel.{rules_deep}
use Rattle.parser_rules.proofs.runs.TreesWithSources.{Source, aside, by-kind, flat, now_of, set_aside, source_at}
use Rattle.parser_rules.proofs.runs.TreesWithSources.{sources, sources-append}
use Rattle.parser_rules.proofs.runs.Walk.{always, walk}
use Rattle.parser_rules.specs.Fragments.{started}
use Rattle.parser_rules.specs.Reports.{Reported}
use Rattle.parser_rules.specs.RuleLanguage.{Rule}
use Rattle.parser_rules.specs.Runs.{Runs}
use Rattle.parser_rules.specs.State.{State, Lexeme, PendingToken, Report}

-- The leaves are of the front, and the reports of it and of the answers read after it: at most one token there is not
-- ignored.
pub record OneFront (xs : List Answer) (ls : List Leaf) (rs : List Report) : Type 0 where
  pub front : List Answer
  pub ahead : List Answer
  pub back : List Answer
  pub split : xs ≡ front ++ (ahead ++ back)
  pub leaves : OneLeafAnItem front ls
  pub reported : Reported true (front ++ ahead) rs
  pub few : length (filter shows ahead) ≤ 1

-- ---- what was read after the tree

-- what waits is no token that shows
aside-hidden : (item : Item) (pending_token : PendingToken) → source_at item item.kind ≡ aside pending_token
    → shows (gives item) ≡ false
aside-hidden item pending_token = by-kind (λ found o. o ≡ aside pending_token
    → shown found ≡ false) item (λ e. refl) (λ k i e. absurd cc) (λ k own i e. ap is_none i)
  where
    shown : Option TokenKind → Bool
    shown None = false
    shown (Some k) = is_none (ignored k)

none-left : (xs : List Answer) → sources xs ≡ [] → length (filter shows xs) ≤ 0
none-left [] e = omega arith
none-left (limit_at index ∷ xs) e = none-left xs e
none-left (gives item ∷ xs) e = absurd cc

at-most-one : (xs : List Answer) (answer : Answer) → length (filter shows xs) ≤ 0
    → length (filter shows (answer ∷ xs)) ≤ 1
at-most-one xs answer h =
    elim (shows answer) as (λ b. length (if b then answer ∷ filter shows xs else filter shows xs) ≤ 1) [
      | true ↦ omega (
        arith,
        h,
      )
      | false ↦ omega (arith, h)
    ]

few-shown : (xs : List Answer) (parts : List PendingToken) (found : Option Lexeme)
    → sources xs ≡ flat (set_aside parts) ++ now_of found
    → length (filter shows xs) ≤ 1
few-shown [] parts found e = omega arith
few-shown (limit_at index ∷ xs) parts found e = few-shown xs parts found e
few-shown (gives item ∷ xs) (pending_token ∷ parts) found e =
    let hidden = aside-hidden item pending_token (head-same e) in
    subst (λ (b : Bool). length (if b then gives item ∷ filter shows xs else filter shows xs) ≤ 1) (sym hidden)
    (few-shown xs parts found (tail-same e))
few-shown (gives item ∷ xs) [] None e = absurd cc
few-shown (gives item ∷ xs) [] (Some x) e = at-most-one xs (gives item) (none-left xs (tail-same e))

-- ---- a run

pub one-front : {rule : Rule} {state : State} (xs : List Answer) (limit : ℕ) (kind : SyntaxKind)
    → walk leaf_check rules_deep rule anything always ≡ true
    → Runs rule (started xs limit kind) state
    → OneFront xs (leaves state.tree.here) state.errors
one-front {state = state} xs limit kind check run =
    let h = so-far xs limit kind run in
    let p = root-part xs limit kind check run in
    let after : List Source = flat (set_aside state.pending) ++ now_of state.current in
    let order : (flat p.0 ++ after) ++ sources state.items ≡ sources h.gone ++ sources state.items =
    append_assoc (flat p.0) after (sources state.items) ∙ ap (λ (v : List Source). flat p.0 ++ v)
    (append_assoc (flat (set_aside state.pending)) (now_of state.current) (sources state.items))
    ∙ p.1.order ∙ ap sources h.left ∙ sources-append h.gone state.items in
    let gone = append_cancel_right (flat p.0 ++ after) (sources h.gone) (sources state.items) order in
    let l = first-leaves h.gone after p.2 gone in
    record {
      front = l.front;
      ahead = l.back;
      back = state.items;
      split = h.left ∙ ap (λ (ys : List Answer). ys ++ state.items) l.split ∙ append_assoc l.front l.back state.items;
      leaves = subst (λ (f : Forest). OneLeafAnItem l.front (leaves f)) p.1.tree l.leaves;
      reported = subst (λ (ys : List Answer). Reported true ys state.errors) l.split (reported-gone state h);
      few = few-shown l.back state.pending state.current (first-leaves-left h.gone after p.2 gone);
    }
