-- The machine is a function of the tokens: two runs over the same tokens make the same tree, and an open configuration
-- is the left part of every run over its tokens.
use Rattle.std.proofs.Common.{◌≡◌, ℕ, ◌+◌, Bool, true, false, List, [], ◌∷◌, ◌++◌, refl, sym, ap, ap₂, ◌∙◌, subst}
use Rattle.std.proofs.Common.{IsTrue, IsFalse, append_assoc, append-nil, add-zero}
use Rattle.document_grammar.proofs.Booleans.{false-true}
use Rattle.document_grammar.proofs.Built.{forest-none}
use Rattle.document_grammar.specs.Tree.{Token, Tree, leaf, node, Forest, none, ◌▸◌, ◌+++◌, root}
use Rattle.grammar_machine.proofs.TableLemmas.{head-same, tail-same}
use Rattle.grammar_machine.specs.Machine.{is_leaf, exit, target, Move, go, close, stuck, move, first, second, token}
use Rattle.grammar_machine.specs.Machine.{yield, yields, finish, walk, Run, RunFrom, Frame, frame, Reach, start, shift}
use Rattle.grammar_machine.specs.Machine.{open', closed}

abbrev pub is_stuck : Move → Bool
is_stuck (go child) = false
is_stuck close = false
is_stuck stuck = true

pub go-close : {A : Type 0} {child : ℕ} → go child ≡ close → A
go-close e = absurd cc

pub go-stuck : {A : Type 0} {child : ℕ} → go child ≡ stuck → A
go-stuck e = absurd cc

pub close-stuck : {A : Type 0} → close ≡ stuck → A
close-stuck e = absurd cc

pub go-inj : {child leaf_symbol : ℕ} → go child ≡ go leaf_symbol → child ≡ leaf_symbol
go-inj e = cc

-- What the machine does next, before the tokens `rest`.
abbrev pub next : ℕ → ℕ → List Token → Move
next symbol state rest = move symbol state (first rest) (second rest)

same-move : {symbol s' state q' : ℕ} {rest tokens : List Token} {this_move next_move : Move} → symbol ≡ s'
    → state ≡ q' → rest ≡ tokens
    → next symbol state rest ≡ this_move → next s' q' tokens ≡ next_move → this_move ≡ next_move
same-move es eq er a b = cc

-- One tree.
mutual
  unfolding token

  pub same-tree : (tree other_tree : Tree) (tokens more : List Token) → root tree ≡ root other_tree
      → Run tree tokens → Run other_tree more
      → yield tree ++ tokens ≡ yield other_tree ++ more → (tree ≡ other_tree) × (tokens ≡ more)
  same-tree (leaf leaf_symbol text) (leaf m other_text) tokens more e run second_run h =
      (ap₂ leaf e (ap (λ (p : Token). p.1) (head-same h)), tail-same h)
  same-tree (leaf leaf_symbol text) (node symbol forest) tokens more e run second_run h =
      false-true (rw (← e) at second_run.0) run
  same-tree (node symbol forest) (leaf leaf_symbol text) tokens more e run second_run h =
      false-true (rw e at run.0) second_run
  same-tree (node symbol forest) (node s' more_trees) tokens more e run second_run h =
      let r = same-forest symbol s' 0 0 forest more_trees tokens more e refl run.1 second_run.1 h in
      (ap₂ node e r.0, r.1)

  pub same-forest : (symbol s' state q' : ℕ) (forest more_trees : Forest) (tokens more : List Token)
      → symbol ≡ s' → state ≡ q'
      → RunFrom symbol state forest tokens → RunFrom s' q' more_trees more
      → yields forest ++ tokens ≡ yields more_trees ++ more → (forest ≡ more_trees) × (tokens ≡ more)
  same-forest symbol s' state q' none none tokens more es eq run_from second_run_from h = (refl, h)
  same-forest symbol s' state q' none (tree ▸ more_trees) tokens more es eq run_from second_run_from h =
      go-close (sym (same-move es eq h run_from second_run_from.0))
  same-forest symbol s' state q' (tree ▸ forest) none tokens more es eq run_from second_run_from h =
      go-close (same-move es eq h run_from.0 second_run_from)
  same-forest symbol s' state q' (tree ▸ forest) (other_tree ▸ more_trees) tokens more es eq run_from
      second_run_from h =
      let h' : yield tree ++ (yields forest ++ tokens) ≡ yield other_tree ++ (yields more_trees ++ more) = sym
      (append_assoc (yield tree) (yields forest) tokens)
      ∙ (h ∙ append_assoc (yield other_tree) (yields more_trees) more) in
      let e = same-tree tree other_tree (yields forest ++ tokens) (yields more_trees ++ more)
      (go-inj (same-move es eq h run_from.0 second_run_from.0)) run_from.1 second_run_from.1 h' in
      let et : tree ≡ other_tree = e.0 in
      let after : target symbol state (root tree) + finish tree ≡ target s' q' (root other_tree) + finish other_tree =
      cc in
      let r = same-forest symbol s' _ _ forest more_trees tokens more es after run_from.2 second_run_from.2 e.1 in
      (ap₂ (λ x y. x ▸ y) et r.0, r.1)

-- The open nodes `fs` are the left part of a tree that the machine makes, with `rest` still to be read.
abbrev pub Upper : List Frame → Tree → List Token → Tree → Type 0
Upper [] tree rest other_tree = (tree ≡ other_tree) × (rest ≡ [])
Upper (frame symbol state forest ∷ fs) tree rest other_tree =
    (more_trees : Forest) × (tokens : List Token) × (rest ≡ yields more_trees ++ tokens)
    × RunFrom symbol (target symbol state (root tree) + finish tree) more_trees tokens
    × Upper fs (node symbol (forest +++ (tree ▸ more_trees))) tokens other_tree

abbrev pub Left : List Frame → List Token → Tree → Type 0
Left [] rest tree = ⊥
Left (frame symbol state forest ∷ fs) rest tree =
    (more_trees : Forest) × (tokens : List Token) × (rest ≡ yields more_trees ++ tokens)
    × RunFrom symbol state more_trees tokens × Upper fs (node symbol (forest +++ more_trees)) tokens tree

pub forest-assoc : (forest : Forest) (tree : Tree) (more_trees : Forest)
    → (forest +++ (tree ▸ none)) +++ more_trees ≡ forest +++ (tree ▸ more_trees)
forest-assoc none tree more_trees = refl
forest-assoc (other_tree ▸ forest) tree more_trees =
    ap (λ (x : Forest). other_tree ▸ x) (forest-assoc forest tree more_trees)

-- A move takes a left part to a left part.
pub left-start : (symbol : ℕ) (forest : Forest) (tokens : List Token) → Run (node symbol forest) []
    → yields forest ≡ tokens
    → Left (frame symbol 0 none ∷ []) tokens (node symbol forest)
left-start symbol forest tokens run e = (forest, [], sym e ∙ sym (append-nil (yields forest)), run.1, (refl, refl))

pub left-shift : (symbol state leaf_symbol : ℕ) (forest : Forest) (fs : List Frame) (this_token : Token)
    (rest : List Token) (tree : Tree)
    → Left (frame symbol state forest ∷ fs) (this_token ∷ rest) tree
    → next symbol state (this_token ∷ rest) ≡ go leaf_symbol → IsTrue (is_leaf leaf_symbol)
    → Left (frame symbol (target symbol state leaf_symbol) (forest +++ (leaf leaf_symbol this_token.1 ▸ none)) ∷ fs)
    rest tree
unfolding token
left-shift symbol state leaf_symbol forest fs this_token rest tree (none, v, e, run, up) m i =
    go-close (same-move refl refl e m run)
left-shift symbol state leaf_symbol forest fs this_token rest tree (leaf child text ▸ more_trees, v, e, run, up) m i =
    let ek : child ≡ leaf_symbol = sym (go-inj (same-move refl refl e m run.0)) in
    let ex : text ≡ this_token.1 = ap (λ (z : Token). z.1) (sym (head-same e)) in
    let es : target symbol state child + 0 ≡ target symbol state leaf_symbol =
    add-zero (target symbol state child) ∙ ap (target symbol state) ek in
    let ef : forest +++ (leaf child text ▸ more_trees) ≡ (forest +++ (leaf leaf_symbol this_token.1 ▸ none))
    +++ more_trees = ap
    (λ (z : Tree). forest +++ (z ▸ more_trees)) (ap₂ leaf ek ex)
    ∙ sym (forest-assoc forest (leaf leaf_symbol this_token.1) more_trees) in (
      more_trees,
      v,
      tail-same e,
      subst (λ (n : ℕ). RunFrom symbol n more_trees v) es run.2,
      subst (λ (z : Forest). Upper fs (node symbol z) v tree) ef up,
    )
left-shift symbol state leaf_symbol forest fs this_token rest tree (node child more_trees ▸ last_trees, v, e, run, up)
    m i =
    false-true (rw (sym (go-inj (same-move refl refl e m run.0))) at run.1.0) i

pub left-open : (symbol state child : ℕ) (forest : Forest) (fs : List Frame) (rest : List Token) (tree : Tree)
    → Left (frame symbol state forest ∷ fs) rest tree
    → next symbol state rest ≡ go child
    → IsFalse (is_leaf child) → Left (frame child 0 none ∷ frame symbol state forest ∷ fs) rest tree
left-open symbol state child forest fs rest tree (none, v, e, run, up) m i = go-close (same-move refl refl e m run)
left-open symbol state child forest fs rest tree (leaf k' text ▸ more_trees, v, e, run, up) m i =
    false-true (rw (go-inj (same-move refl refl e m run.0)) at i) run.1
left-open symbol state child forest fs rest tree (node k' more_trees ▸ last_trees, v, e, run, up) m i =
    let ek : k' ≡ child = sym (go-inj (same-move refl refl e m run.0)) in
    subst (λ (n : ℕ). Left (frame n 0 none ∷ frame symbol state forest ∷ fs) rest tree) ek (
      more_trees,
      yields last_trees ++ v,
      e ∙ append_assoc (yields more_trees) (yields last_trees) v,
      run.1.1,
      (last_trees, v, refl, run.2, up),
    )

pub left-close : (symbol state child p : ℕ) (forest more_trees : Forest) (fs : List Frame) (rest : List Token)
    (tree : Tree) → walk child 0 more_trees ≡ p
    → Left (frame child p more_trees ∷ frame symbol state forest ∷ fs) rest tree → next child p rest ≡ close
    → Left (frame symbol (target symbol state child + exit child p) (forest +++ (node child more_trees ▸ none)) ∷ fs)
    rest tree
left-close symbol state child p forest more_trees fs rest tree ew (none, v, e, run, (h, w, er, more, up)) m =
    let eg : more_trees +++ none ≡ more_trees = forest-none more_trees in
    let ep : walk child 0 (more_trees +++ none) ≡ p = ap (walk child 0) eg ∙ ew in
    let ef : forest +++ (node child (more_trees +++ none) ▸ h) ≡ (forest +++ (node child more_trees ▸ none)) +++ h = ap
    (λ (z : Forest). forest +++ (node child z ▸ h)) eg ∙ sym (forest-assoc forest (node child more_trees) h) in (
      h,
      w,
      e ∙ er,
      subst (λ (n : ℕ). RunFrom symbol (target symbol state child + exit child n) h w) ep more,
      subst (λ (z : Forest). Upper fs (node symbol z) w tree) ef up,
    )
left-close symbol state child p forest more_trees fs rest tree ew (other_tree ▸ last_trees, v, e, run, up) m =
    go-close (sym (same-move refl refl e m run.0))

pub left-stuck : (symbol state : ℕ) (forest : Forest) (fs : List Frame) (rest : List Token) (tree : Tree)
    → Left (frame symbol state forest ∷ fs) rest tree
    → next symbol state rest ≡ stuck → ⊥
left-stuck symbol state forest fs rest tree (none, v, e, run, up) m = close-stuck (sym (same-move refl refl e m run))
left-stuck symbol state forest fs rest tree (other_tree ▸ more_trees, v, e, run, up) m =
    go-stuck (sym (same-move refl refl e m run.0))

-- Where the machine ends the root's node, all is read and it is the whole tree.
pub left-done : (symbol state : ℕ) (forest : Forest) (rest : List Token) (tree : Tree)
    → Left (frame symbol state forest ∷ []) rest tree
    → next symbol state rest ≡ close → (rest ≡ []) × (node symbol forest ≡ tree)
left-done symbol state forest rest tree (none, v, e, run, up) m =
    (e ∙ up.1, ap (λ (x : Forest). node symbol x) (sym (forest-none forest)) ∙ up.0)
left-done symbol state forest rest tree (other_tree ▸ more_trees, v, e, run, up) m =
    go-close (sym (same-move refl refl e m run.0))

-- The states of the open nodes are those to which their children lead.
abbrev pub Tracks : List Frame → Type 0
Tracks [] = Unit {0}
Tracks (frame symbol state forest ∷ fs) = (walk symbol 0 forest ≡ state) × Tracks fs

pub walk-snoc : (symbol p : ℕ) (forest : Forest) (tree : Tree) → walk symbol p (forest +++ (tree ▸ none))
    ≡ target symbol (walk symbol p forest) (root tree) + finish tree
walk-snoc symbol p none tree = refl
walk-snoc symbol p (other_tree ▸ forest) tree =
    walk-snoc symbol (target symbol p (root other_tree) + finish other_tree) forest tree

pub reach-tracks : {start_symbol : ℕ} {tokens : List Token} {fs : List Frame} {rest : List Token}
    → Reach start_symbol tokens fs rest → Tracks fs
reach-tracks start = (refl, tt)
reach-tracks (shift {symbol = symbol} {row_state = row_state} {leaf_symbol = leaf_symbol} {forest = forest}
    {this_token = this_token} reach m i) =
    let c = reach-tracks reach in (
      walk-snoc symbol 0 forest (leaf leaf_symbol this_token.1)
          ∙ (add-zero _ ∙ ap (λ (n : ℕ). target symbol n leaf_symbol) c.0),
      c.1,
    )
reach-tracks (open' reach m i) = (refl, reach-tracks reach)
reach-tracks (closed {symbol = symbol} {row_state = row_state} {child = child} {child_state = child_state}
    {forest = forest} {more_trees = more_trees} reach m)
    =
    let c = reach-tracks reach in (
      walk-snoc symbol 0 forest (node child more_trees)
          ∙ ap₂ (λ (n n' : ℕ). target symbol n child + exit child n') c.1.0 c.0,
      c.1.1,
    )

-- What the machine has opened is the left part of every tree that it makes of these tokens.
pub reach-left : {start_symbol : ℕ} {tokens : List Token} {fs : List Frame} {rest : List Token}
    → Reach start_symbol tokens fs rest → (forest : Forest)
    → Run (node start_symbol forest) [] → yields forest ≡ tokens
    → Left fs rest (node start_symbol forest)
reach-left {start_symbol} {tokens} start forest run e = left-start start_symbol forest tokens run e
reach-left {start_symbol}
    (shift {symbol = symbol} {row_state = row_state} {leaf_symbol = leaf_symbol} {forest = forest} {fs = fs}
    {this_token = this_token}
    {rest = rest} reach m i) more_trees run e =
    left-shift symbol row_state leaf_symbol forest fs this_token rest (node start_symbol more_trees)
    (reach-left reach more_trees run e) m i
reach-left {start_symbol}
    (open' {symbol = symbol} {row_state = row_state} {child = child} {forest = forest} {fs = fs} {rest = rest} reach
    m i) more_trees run e
    = left-open symbol row_state child forest fs rest (node start_symbol more_trees)
    (reach-left reach more_trees run e) m i
reach-left {start_symbol}
    (closed {symbol = symbol} {row_state = row_state} {child = child} {child_state = child_state} {forest = forest}
    {more_trees = more_trees} {fs = fs} {rest = rest} reach m) last_trees run e =
    left-close symbol row_state child child_state forest more_trees fs rest (node start_symbol last_trees)
    (reach-tracks reach).0
    (reach-left reach last_trees run e) m

-- The configuration depends only on the tokens read and on the classes of the next two.
pub reach-other : {start_symbol : ℕ} {tokens : List Token} {fs : List Frame} {rest : List Token}
    → Reach start_symbol tokens fs rest
    → (more : List Token) × (tokens ≡ more ++ rest)
    × ((others : List Token) → first rest ≡ first others → second rest ≡ second others
    → Reach start_symbol (more ++ others) fs others)
unfolding first second
reach-other start = ([], refl, λ v e f. start)
reach-other {start_symbol}
    (shift {symbol = symbol} {row_state = row_state} {leaf_symbol = leaf_symbol} {forest = forest} {fs = fs}
    {this_token = this_token}
    {rest = rest} reach m i) =
    let p = reach-other reach in (
      p.0 ++ (this_token ∷ []),
      p.1 ∙ sym (append_assoc p.0 (this_token ∷ []) rest),
      λ v e e'. subst (λ (z : List Token). Reach start_symbol z (frame symbol (target symbol row_state leaf_symbol)
          (forest +++ (leaf leaf_symbol this_token.1 ▸ none)) ∷ fs) v) (sym (append_assoc p.0 (this_token ∷ []) v))
          (shift (p.2 (this_token ∷ v) refl e) (rw e at m) i),
    )
reach-other (open' {symbol = symbol} {row_state = row_state} {child = child} {forest = forest} {fs = fs}
    {rest = rest} reach m i) =
    let p = reach-other reach in
    (p.0, p.1, λ v e e'. open' (p.2 v e e') (rw (e, e') at m) i)
reach-other (closed {symbol = symbol} {row_state = row_state} {child = child} {child_state = child_state}
    {forest = forest} {more_trees = more_trees} {fs = fs}
    {rest = rest} reach m) =
    let p = reach-other reach in
    (p.0, p.1, λ v e e'. closed (p.2 v e e') (rw (e, e') at m))
