-- From a configuration the machine goes on in one way, to where it ends the root's node, whatever tokens are left
-- there. The tree that it makes so nests as deep as each configuration on the way.
use Rattle.std.proofs.Common.{◌≡◌, ℕ, ◌+◌, ◌≤◌, List, [], ◌∷◌, sym, ◌∙◌, subst, IsTrue, IsFalse, arith}
use Rattle.document_grammar.proofs.Booleans.{false-true}
use Rattle.document_grammar.specs.Tree.{Token, Tree, leaf, node, Forest, none, ◌▸◌, ◌+++◌}
use Rattle.grammar_machine.proofs.Depth.{depth, nesting_all, peak, peak-open, peak-close, peak-shift, peak-end}
use Rattle.grammar_machine.proofs.Run.{next, go-close, go-stuck, close-stuck, go-inj}
use Rattle.grammar_machine.specs.Machine.{is_leaf, exit, target, go, close, stuck, Frame, frame, Reach, start, shift}
use Rattle.grammar_machine.specs.Machine.{open', closed}

pub data Makes : List Frame → List Token → Tree → Type 0 where
  made : {symbol state : ℕ} {forest : Forest} {rest : List Token} → next symbol state rest ≡ close
      → Makes (frame symbol state forest ∷ []) rest (node symbol forest)
  shifts : {symbol state leaf_symbol : ℕ} {forest : Forest} {fs : List Frame} {token : Token}
      {rest : List Token} {tree : Tree}
      → next symbol state (token ∷ rest) ≡ go leaf_symbol → IsTrue (is_leaf leaf_symbol)
      → Makes (frame symbol (target symbol state leaf_symbol) (forest +++ (leaf leaf_symbol token.1 ▸ none)) ∷ fs)
      rest tree
      → Makes (frame symbol state forest ∷ fs) (token ∷ rest) tree
  opens : {symbol state child : ℕ} {forest : Forest} {fs : List Frame} {rest : List Token} {tree : Tree}
      → next symbol state rest ≡ go child → IsFalse (is_leaf child)
      → Makes (frame child 0 none ∷ frame symbol state forest ∷ fs) rest tree
      → Makes (frame symbol state forest ∷ fs) rest tree
  closes : {symbol state child p : ℕ} {forest more_trees : Forest} {fs : List Frame} {rest : List Token} {tree : Tree}
      → next child p rest ≡ close
      → Makes (frame symbol (target symbol state child + exit child p) (forest +++ (node child more_trees ▸ none)) ∷ fs)
      rest tree
      → Makes (frame child p more_trees ∷ frame symbol state forest ∷ fs) rest tree

-- What is made from a configuration on is made from the start on.
pub makes-from : {start_symbol : ℕ} {tokens : List Token} {fs : List Frame} {rest : List Token} {tree : Tree}
    → Reach start_symbol tokens fs rest
    → Makes fs rest tree → Makes (frame start_symbol 0 none ∷ []) tokens tree
makes-from start makes = makes
makes-from (shift reach e i) makes = makes-from reach (shifts e i makes)
makes-from (open' reach e i) makes = makes-from reach (opens e i makes)
makes-from (closed reach e) makes = makes-from reach (closes e makes)

-- One move on.
after-shift : {symbol state leaf_symbol : ℕ} {forest : Forest} {fs : List Frame} {token : Token}
    {rest : List Token} {tree : Tree}
    → Makes (frame symbol state forest ∷ fs) (token ∷ rest) tree → next symbol state (token ∷ rest) ≡ go leaf_symbol
    → IsTrue (is_leaf leaf_symbol)
    → Makes (frame symbol (target symbol state leaf_symbol) (forest +++ (leaf leaf_symbol token.1 ▸ none)) ∷ fs)
    rest tree
after-shift (made e) m i = go-close (sym m ∙ e)
after-shift {symbol = symbol} {state = state} {forest = forest} {fs = fs} {token = token} {rest = rest} {tree = tree}
    (shifts e j makes) m i =
    subst (λ (n : ℕ). Makes (frame symbol (target symbol state n) (forest +++ (leaf n token.1 ▸ none)) ∷ fs) rest tree)
    (go-inj (sym e ∙ m)) makes
after-shift (opens e j makes) m i = false-true (subst (λ (n : ℕ). IsFalse (is_leaf n)) (go-inj (sym e ∙ m)) j) i
after-shift (closes e makes) m i = go-close (sym m ∙ e)

after-open : {symbol state child : ℕ} {forest : Forest} {fs : List Frame} {rest : List Token} {tree : Tree}
    → Makes (frame symbol state forest ∷ fs) rest tree
    → next symbol state rest ≡ go child → IsFalse (is_leaf child)
    → Makes (frame child 0 none ∷ frame symbol state forest ∷ fs) rest tree
after-open (made e) m i = go-close (sym m ∙ e)
after-open (shifts e j makes) m i = false-true i (subst (λ (n : ℕ). IsTrue (is_leaf n)) (go-inj (sym e ∙ m)) j)
after-open {symbol = symbol} {state = state} {forest = forest} {fs = fs} {rest = rest} {tree = tree} (opens e j makes)
    m i =
    subst (λ (n : ℕ). Makes (frame n 0 none ∷ frame symbol state forest ∷ fs) rest tree) (go-inj (sym e ∙ m)) makes
after-open (closes e makes) m i = go-close (sym m ∙ e)

after-close : {symbol state child p : ℕ} {forest more_trees : Forest} {fs : List Frame}
    {rest : List Token} {tree : Tree}
    → Makes (frame child p more_trees ∷ frame symbol state forest ∷ fs) rest tree → next child p rest ≡ close
    → Makes (frame symbol (target symbol state child + exit child p) (forest +++ (node child more_trees ▸ none)) ∷ fs)
    rest tree
after-close (shifts e j makes) m = go-close (sym e ∙ m)
after-close (opens e j makes) m = go-close (sym e ∙ m)
after-close (closes e makes) m = makes

-- What is made from the start on is made from each configuration on.
pub makes-on : {start_symbol : ℕ} {tokens : List Token} {fs : List Frame} {rest : List Token} {tree : Tree}
    → Reach start_symbol tokens fs rest
    → Makes (frame start_symbol 0 none ∷ []) tokens tree → Makes fs rest tree
makes-on start makes = makes
makes-on (shift reach e i) makes = after-shift (makes-on reach makes) e i
makes-on (open' reach e i) makes = after-open (makes-on reach makes) e i
makes-on (closed reach e) makes = after-close (makes-on reach makes) e

-- The machine is not stuck on the way.
pub makes-stuck : {symbol state : ℕ} {forest : Forest} {fs : List Frame} {rest : List Token} {tree : Tree}
    → Makes (frame symbol state forest ∷ fs) rest tree
    → next symbol state rest ≡ stuck → ⊥
makes-stuck (made e) m = close-stuck (sym e ∙ m)
makes-stuck (shifts e j makes) m = go-stuck (sym e ∙ m)
makes-stuck (opens e j makes) m = go-stuck (sym e ∙ m)
makes-stuck (closes e makes) m = close-stuck (sym e ∙ m)

pub makes-peak : {fs : List Frame} {rest : List Token} {tree : Tree} → Makes fs rest tree → peak fs ≤ nesting_all tree
makes-peak (made {symbol = symbol} {state = state} {forest = forest} e) = omega (arith, peak-end symbol state forest)
makes-peak (shifts {symbol = symbol} {state = state} {leaf_symbol = leaf_symbol} {forest = forest} {fs = fs}
    {token = token} e i makes) =
    omega (
      arith,
      peak-shift symbol state (target symbol state leaf_symbol) leaf_symbol token.1 forest fs i,
      makes-peak makes,
    )
makes-peak (opens {symbol = symbol} {state = state} {child = child} {forest = forest} {fs = fs} e i makes) =
    omega (arith, peak-open symbol state child forest fs, makes-peak makes)
makes-peak (closes {symbol = symbol} {state = state} {child = child} {p = p} {forest = forest}
    {more_trees = more_trees} {fs = fs} e makes) =
    omega (
      arith,
      peak-close symbol state (target symbol state child + exit child p) child p forest more_trees fs,
      makes-peak makes,
    )

depth-peak : (fs : List Frame) → depth fs ≤ peak fs
depth-peak [] = omega arith
depth-peak (frame symbol state forest ∷ fs) = omega arith

pub makes-depth : {fs : List Frame} {rest : List Token} {tree : Tree} → Makes fs rest tree → depth fs ≤ nesting_all tree
makes-depth {fs = fs} makes = omega (arith, depth-peak fs, makes-peak makes)
