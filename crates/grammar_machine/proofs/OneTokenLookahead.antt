-- Configurations that depend on the tokens read and the next one alone: those after a leaf, and after moves that don't
-- look at the second token. For the recursion limit: each tree whose tokens begin with those read and the next one has
-- these nodes open there.
use Rattle.std.proofs.Common.{◌≡◌, ℕ, ◌+◌, true, List, [], ◌∷◌, ◌++◌, refl, sym, ◌∙◌, subst, IsTrue, append_assoc}
use Rattle.document_grammar.specs.Tree.{Token, leaf, node, Forest, none, ◌▸◌, ◌+++◌}
use Rattle.grammar_machine.proofs.Run.{reach-other}
use Rattle.grammar_machine.proofs.Sound.{any, second-any}
use Rattle.grammar_machine.proofs.Steps.{closes, closes-move}
use Rattle.grammar_machine.specs.Machine.{holds, is_leaf, exit, target, go, move, first, second, Frame, frame, Reach}
use Rattle.grammar_machine.specs.Machine.{shift, closed}

pub record Firm (start_symbol : ℕ) (tokens : List Token) (fs : List Frame) (rest : List Token) : Type 0 where
  pub before : List Token
  pub split : tokens ≡ before ++ rest
  pub firm : (these_tokens : List Token) → first rest ≡ first these_tokens
      → Reach start_symbol (before ++ these_tokens) fs these_tokens

pub firm-shift : {start_symbol : ℕ} {tokens : List Token} {symbol state leaf_symbol : ℕ} {forest : Forest}
    {fs : List Frame} {token : Token} {rest : List Token}
    → Reach start_symbol tokens (frame symbol state forest ∷ fs) (token ∷ rest)
    → move symbol state (first (token ∷ rest)) (second (token ∷ rest)) ≡ go leaf_symbol → IsTrue (is_leaf leaf_symbol)
    → Firm start_symbol tokens
    (frame symbol (target symbol state leaf_symbol) (forest +++ (leaf leaf_symbol token.1 ▸ none)) ∷ fs) rest
unfolding first second
firm-shift {start_symbol} {symbol = symbol} {state = state} {leaf_symbol = leaf_symbol} {forest = forest} {fs = fs}
    {token = token} {rest = rest} reach m i =
    let p = reach-other reach in
    record {
      before = p.0 ++ (token ∷ []);
      split = p.1 ∙ sym (append_assoc p.0 (token ∷ []) rest);
      firm = λ v e. subst (λ (z : List Token). Reach start_symbol z (frame symbol (target symbol state leaf_symbol)
          (forest +++ (leaf leaf_symbol token.1 ▸ none)) ∷ fs) v) (sym (append_assoc p.0 (token ∷ []) v))
          (shift (p.2 (token ∷ v) refl e) (rw e at m) i);
    }

pub firm-close : {start_symbol : ℕ} {tokens : List Token} {symbol state child p : ℕ} {forest more_trees : Forest}
    {fs : List Frame} {rest : List Token} (x : ℕ)
    → Firm start_symbol tokens (frame child p more_trees ∷ frame symbol state forest ∷ fs) rest
    → closes child p x any ≡ true → holds (first rest) x ≡ true
    → Firm start_symbol tokens
    (frame symbol (target symbol state child + exit child p) (forest +++ (node child more_trees ▸ none)) ∷ fs) rest
firm-close {child = child} {p = p} {rest = rest} x c t h = record {
  before = c.before;
  split = c.split;
  firm = λ v e. closed (c.firm v e) (closes-move child p x any (first v) (second v) t (rw e at h) (second-any v));
}
