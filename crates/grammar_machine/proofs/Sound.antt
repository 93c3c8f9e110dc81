-- What the machine has read fits the rows, and can be completed.
use Rattle.std.proofs.Common.{◌≡◌, ℕ, ◌+◌, ◌-◌, ◌^◌, ◌<◌, Bool, true, false, cond, not, eqb, List, [], ◌∷◌, ◌++◌, refl}
use Rattle.std.proofs.Common.{sym, ap, ◌∙◌, subst, ◌⊎◌, inl, inr, append_assoc, append-nil, arith, add-zero, eqb-true}
use Rattle.std.proofs.Common.{ltb-true, ◌≢◌}
use Rattle.std.proofs.lemmas.Bool.{eqb-false}
use Rattle.std.proofs.lemmas.Nat.Bits.{bit_at-pow_other}
use Rattle.std.specs.Int.{bit_at}
use Rattle.document_grammar.proofs.Booleans.{false-true, and-l, and-r, and-i, or-c, or-l, or-r, not-c, either, eqb-refl}
use Rattle.document_grammar.proofs.Built.{forest-none}
use Rattle.document_grammar.specs.Booleans.{◌and◌, ◌or◌}
use Rattle.document_grammar.specs.Kinds.{words, DOCUMENT, IDENT, ERROR}
use Rattle.document_grammar.specs.Tree.{Text, Token, Tree, leaf, node, Forest, none, ◌▸◌, ◌+++◌, root}
use Rattle.grammar_machine.proofs.Checks.{subset, exits, all_entries, leaf-checked, leaf_entry}
use Rattle.grammar_machine.proofs.Endings.{ending, okb, okb_from, fillable, fill_test, fill-checked, leaf_test}
use Rattle.grammar_machine.proofs.Endings.{leaf-classes-checked, word_tests, words-checked, spell}
use Rattle.grammar_machine.proofs.Run.{go-close, go-stuck, close-stuck, go-inj}
use Rattle.grammar_machine.proofs.TableLemmas.{any-with, any-entry, any-more, begun_by, fires-any, text-same}
use Rattle.grammar_machine.proofs.TableLemmas.{holds-subset, holds-disjoint, arc-test, exits-at, below-at}
use Rattle.grammar_machine.proofs.generated.Follows.{name_classes}
use Rattle.grammar_machine.specs.Machine.{holds, is_leaf, ends, exit, arcs, has, target, entries, fires, fires_in}
use Rattle.grammar_machine.specs.Machine.{has_in, choose, go, close, move, class, word_class, text_eq, first, second}
use Rattle.grammar_machine.specs.Machine.{token, yield, yields, finish, walk, Ok, OkFrom, Path, Frame, frame, Reach}
use Rattle.grammar_machine.specs.Machine.{start, shift, open', closed}
use Rattle.grammar_machine.specs.Table.{Entry, name_leaves, token_kinds}

-- What a move says of the row.
pub choose-has : (l : List (ℕ × ℕ)) (e : Bool) (near far child : ℕ) → choose l e near far ≡ go child
    → (has_in l child ≡ true) × (fires child near far ≡ true)
choose-has [] true near far child h = go-close (sym h)
choose-has [] false near far child h = go-stuck (sym h)
choose-has (c ∷ more) e near far child h = elim (either (fires c.0 near far)) [
  | inl p ↦ (let n : c.0 ≡ child = go-inj (rw p at h) in (or-l _ _ (rw n (eqb-refl child)), rw (← n) p))
  | inr p ↦ (let r = choose-has more e near far child (rw p at h) in (or-r _ _ r.0, r.1))
]

pub choose-ends : (l : List (ℕ × ℕ)) (e : Bool) (near far : ℕ) → choose l e near far ≡ close → e ≡ true
choose-ends [] true near far h = refl
choose-ends [] false near far h = close-stuck (sym h)
choose-ends (c ∷ more) e near far h = elim (either (fires c.0 near far)) [
  | inl p ↦ go-close (rw p at h)
  | inr p ↦ choose-ends more e near far (rw p at h)
]

pub move-has : (symbol state near far child : ℕ) → move symbol state near far ≡ go child → has symbol state child ≡ true
unfolding move has
move-has symbol state near far child h = (choose-has (arcs symbol state) (ends symbol state) near far child h).0

pub move-fires : (symbol state near far child : ℕ) → move symbol state near far ≡ go child → fires child near far ≡ true
unfolding move
move-fires symbol state near far child h = (choose-has (arcs symbol state) (ends symbol state) near far child h).1

pub move-ends : (symbol state near far : ℕ) → move symbol state near far ≡ close → ends symbol state ≡ true
unfolding move
move-ends symbol state near far h = choose-ends (arcs symbol state) (ends symbol state) near far h

-- The token of a leaf.
pub leaf-lt : (leaf_symbol : ℕ) → is_leaf leaf_symbol ≡ true → leaf_symbol < DOCUMENT
unfolding is_leaf
leaf-lt leaf_symbol h = ltb-true _ _ h

pub word-name : (ws : List (ℕ × Text)) (text : Text) → word_tests ws ≡ true
    → holds (word_class ws text) name_classes ≡ true
unfolding holds
word-name [] text h = refl
word-name (w ∷ more) text h = elim (either (text_eq w.1 text)) [
  | inl p ↦ rw p (and-l _ _ h)
  | inr p ↦ rw p (word-name more text (and-r _ _ h))
]

error-no-name : holds ERROR name_classes ≡ false
unfolding holds
error-no-name = refl

-- The class of a token is a name's exactly where the token is a name; else it is the token's kind, or ERROR.
pub class-cases : (this_token : Token)
    → ((this_token.0 ≡ IDENT) × (holds (class this_token) name_classes ≡ true))
    ⊎ ((holds (class this_token) name_classes ≡ false)
    × ((class this_token ≡ this_token.0) ⊎ (class this_token ≡ ERROR)))
unfolding class
class-cases this_token = elim (either (eqb this_token.0 IDENT)) [
  | inl p ↦ inl (eqb-true _ _ p, rw p (word-name words this_token.1 words-checked))
  | inr p ↦ elim (either (holds this_token.0 token_kinds)) [
    | inl q ↦ inr (rw (p, q) (holds-disjoint this_token.0 token_kinds name_classes refl q), inl (rw (p, q) refl))
    | inr q ↦ inr (rw (p, q) error-no-name, inr (rw (p, q) refl))
  ]
]

-- A leaf's entry that holds the class.
pub fired : (es : List Entry) (t : ℕ → Bool) (near far : ℕ) → all_entries es (λ x y alone. t x) ≡ true
    → fires_in es near far ≡ true
    → (x : ℕ) × (t x ≡ true) × (holds near x ≡ true)
fired es t near far h f = any-entry es _ (any-with es (λ x y alone. t x) (begun_by near far) h (rw fires-any at f))
    (λ x y alone p. (x, and-l _ _ p, and-l _ _ (and-r _ _ p)))

pub holds-one : (a leaf_symbol : ℕ) → holds a (2 ^ leaf_symbol) ≡ true → a ≡ leaf_symbol
unfolding holds
holds-one a leaf_symbol h = elim (either (eqb a leaf_symbol)) [
  | inl p ↦ eqb-true a leaf_symbol p
  | inr p ↦ (let ne : a ≢ leaf_symbol = eqb-false a leaf_symbol p in
      let z : bit_at (2 ^ leaf_symbol) a ≡ 0 = bit_at-pow_other leaf_symbol a ne in
      let o : bit_at (2 ^ leaf_symbol) a ≡ 1 = eqb-true _ _ h in absurd (omega arith))
]

leaf-kind : (leaf_symbol : ℕ) (this_token : Token) (b : Bool) (x : ℕ) → holds leaf_symbol name_leaves ≡ b
    → cond b (subset x name_classes)
    (eqb x (2 ^ leaf_symbol) and not (holds leaf_symbol name_classes) and not (eqb leaf_symbol ERROR)) ≡ true
    → holds (class this_token) x ≡ true
    → cond b IDENT leaf_symbol ≡ this_token.0
leaf-kind leaf_symbol this_token true x n t h = elim (class-cases this_token) [
  | inl p ↦ sym p.0
  | inr p ↦ false-true p.0 (holds-subset (class this_token) x name_classes t h)
]
leaf-kind leaf_symbol this_token false x n t h =
    let e : class this_token ≡ leaf_symbol =
    holds-one (class this_token) leaf_symbol (rw (eqb-true _ _ (and-l _ _ (and-l _ _ t))) at h) in
    let nn : holds leaf_symbol name_classes ≡ false = not-c _ (and-r _ _ (and-l _ _ t)) in
    elim (class-cases this_token) [
      | inl p ↦ false-true nn (rw e at p.1)
      | inr p ↦ elim p.1 [
        | inl q ↦ sym e
            ∙ q
        | inr q ↦ absurd (eqb-false leaf_symbol ERROR (not-c _ (and-r _ _ t)) (sym e ∙ q))
      ]
    ]

pub leaf-token : (leaf_symbol far : ℕ) (this_token : Token) → is_leaf leaf_symbol ≡ true
    → fires leaf_symbol (class this_token) far ≡ true
    → token leaf_symbol this_token.1 ≡ this_token
unfolding token fires
leaf-token leaf_symbol far this_token i f =
    let c = fired (entries leaf_symbol) (λ x. cond (holds leaf_symbol name_leaves) (subset x name_classes)
    (eqb x (2 ^ leaf_symbol) and not (holds leaf_symbol name_classes) and not (eqb leaf_symbol ERROR)))
    (class this_token) far
    (below-at leaf_test DOCUMENT leaf_symbol (leaf-lt leaf_symbol i) leaf-classes-checked) f in
    ap (λ (n : ℕ). (n, this_token.1))
    (leaf-kind leaf_symbol this_token (holds leaf_symbol name_leaves) c.0 refl c.1 c.2)

-- A leaf's entries don't look at a second token.
fires-alone : (es : List Entry) (a b b' : ℕ) → all_entries es (λ x y a. a and eqb y 0) ≡ true → fires_in es a b ≡ true
    → fires_in es a b' ≡ true
fires-alone es a b b' t h =
    rw fires-any (any-more es _ (begun_by a b')
    (any-with es (λ x y a. a and eqb y 0) (begun_by a b) t (rw fires-any at h))
    (λ x y alone p. and-i (and-l _ _ (and-r _ _ p)) (or-l _ _ (and-l _ _ (and-l _ _ p)))))

pub leaf-ok : (leaf_symbol far : ℕ) (this_token : Token) → is_leaf leaf_symbol ≡ true
    → fires leaf_symbol (class this_token) far ≡ true
    → Ok (leaf leaf_symbol this_token.1)
unfolding fires
leaf-ok leaf_symbol far this_token i f = (
  i,
  rw (leaf-token leaf_symbol far this_token i f)
      (fires-alone (entries leaf_symbol) (class this_token) far 0
      (below-at leaf_entry DOCUMENT leaf_symbol (leaf-lt leaf_symbol i) leaf-checked) f),
)

-- Paths.
pub path-snoc : (symbol p state : ℕ) (forest : Forest) (tree : Tree) → Path symbol p forest state
    → has symbol state (root tree) ≡ true → Ok tree
    → Path symbol p (forest +++ (tree ▸ none)) (target symbol state (root tree) + finish tree)
path-snoc symbol p state none tree path h ok =
    (rw path h, ok, ap (λ (n : ℕ). target symbol n (root tree) + finish tree) path)
path-snoc symbol p state (other_tree ▸ forest) tree path h ok = (
  path.0,
  path.1,
  path-snoc symbol (target symbol p (root other_tree) + finish other_tree) state forest tree path.2 h ok,
)

pub path-join : (symbol p state : ℕ) (forest more_trees : Forest) → Path symbol p forest state
    → OkFrom symbol state more_trees
    → OkFrom symbol p (forest +++ more_trees)
path-join symbol p state none more_trees path ok_from = rw path ok_from
path-join symbol p state (tree ▸ forest) more_trees path ok_from = (
  path.0,
  path.1,
  path-join symbol (target symbol p (root tree) + finish tree) state forest more_trees path.2 ok_from,
)

pub path-ok : (symbol p state : ℕ) (forest : Forest) → Path symbol p forest state → ends symbol state ≡ true
    → OkFrom symbol p forest
path-ok symbol p state forest path h = rw (forest-none forest) at (path-join symbol p state forest none path h)

pub path-walk : (symbol p state : ℕ) (forest : Forest) → Path symbol p forest state → walk symbol p forest ≡ state
path-walk symbol p state none path = path
path-walk symbol p state (tree ▸ forest) path =
    path-walk symbol (target symbol p (root tree) + finish tree) state forest path.2

pub yields-append : (forest more_trees : Forest) → yields (forest +++ more_trees) ≡ yields forest ++ yields more_trees
yields-append none more_trees = refl
yields-append (tree ▸ forest) more_trees = ap (λ (v : List Token). yield tree ++ v) (yields-append forest more_trees)
    ∙ sym (append_assoc (yield tree) (yields forest) (yields more_trees))

-- The open nodes' children fit their rows, each open node is a symbol of the row below it, and the lowest is
-- `start_symbol`.
abbrev pub Held : ℕ → ℕ → List Frame → Type 0
Held start_symbol symbol [] = symbol ≡ start_symbol
Held start_symbol symbol (frame s1 q1 forest ∷ fs) = has s1 q1 symbol ≡ true

abbrev pub Sound : ℕ → List Frame → Type 0
Sound start_symbol [] = Unit {0}
Sound start_symbol (frame symbol state forest ∷ fs) =
    (is_leaf symbol ≡ false) × Path symbol 0 forest state × Held start_symbol symbol fs
    × Sound start_symbol fs

pub reach-sound : {start_symbol : ℕ} {tokens : List Token} {fs : List Frame} {rest : List Token}
    → is_leaf start_symbol ≡ false
    → Reach start_symbol tokens fs rest → Sound start_symbol fs
unfolding first
reach-sound i start = (i, refl, refl, tt)
reach-sound {start_symbol} i
    (shift {symbol = symbol} {row_state = row_state} {leaf_symbol = leaf_symbol} {forest = forest} {fs = fs}
    {this_token = this_token}
    {rest = rest} reach m j) =
    let h = reach-sound i reach in
    let ok : Ok (leaf leaf_symbol this_token.1) = leaf-ok leaf_symbol (second (this_token ∷ rest)) this_token j
    (move-fires symbol row_state (first (this_token ∷ rest)) (second (this_token ∷ rest)) leaf_symbol m) in (
      h.0,
      subst (λ (n : ℕ). Path symbol 0 (forest +++ (leaf leaf_symbol this_token.1 ▸ none)) n)
          (add-zero (target symbol row_state leaf_symbol))
          (path-snoc symbol 0 row_state forest (leaf leaf_symbol this_token.1) h.1
          (move-has symbol row_state _ _ leaf_symbol m) ok),
      h.2,
      h.3,
    )
reach-sound {start_symbol} i
    (open' {symbol = symbol} {row_state = row_state} {child = child} {forest = forest} {fs = fs} {rest = rest} reach
    m j) =
    (j, refl, move-has symbol row_state _ _ child m, reach-sound i reach)
reach-sound {start_symbol} i
    (closed {symbol = symbol} {row_state = row_state} {child = child} {child_state = child_state} {forest = forest}
    {more_trees = more_trees} {fs = fs} {rest = rest} reach m) =
    let h = reach-sound i reach in
    let ok : Ok (node child more_trees) =
    (h.0, path-ok child 0 child_state more_trees h.1 (move-ends child child_state _ _ m)) in (
      h.3.0,
      subst (λ (n : ℕ). Path symbol 0 (forest +++ (node child more_trees ▸ none))
          (target symbol row_state child + exit child n))
          (path-walk child 0 child_state more_trees h.1)
          (path-snoc symbol 0 row_state forest (node child more_trees) h.3.1 h.2 ok),
      h.3.2,
      h.3.3,
    )

-- The tokens that the open nodes hold.
abbrev pub spent : List Frame → List Token
spent [] = []
spent (frame symbol state forest ∷ fs) = spent fs ++ yields forest

pub snoc-spent : (fs : List Frame) (forest : Forest) (tree : Tree) (rest : List Token)
    → (spent fs ++ yields (forest +++ (tree ▸ none))) ++ rest ≡ (spent fs ++ yields forest) ++ (yield tree ++ rest)
snoc-spent fs forest tree rest = rw (yields-append forest (tree ▸ none)) (simp (append_assoc, append-nil))

pub reach-spent : {start_symbol : ℕ} {tokens : List Token} {fs : List Frame} {rest : List Token}
    → Reach start_symbol tokens fs rest → tokens ≡ spent fs ++ rest
unfolding first
reach-spent start = refl
reach-spent (shift {symbol = symbol} {row_state = row_state} {leaf_symbol = leaf_symbol} {forest = forest} {fs = fs}
    {this_token = this_token}
    {rest = rest} reach m j) =
    let e : token leaf_symbol this_token.1 ≡ this_token =
    leaf-token leaf_symbol (second (this_token ∷ rest)) this_token j
    (move-fires symbol row_state (first (this_token ∷ rest)) (second (this_token ∷ rest)) leaf_symbol m) in
    reach-spent reach ∙ (ap (λ (b : Token). (spent fs ++ yields forest) ++ (b ∷ rest)) (sym e)
    ∙ sym (snoc-spent fs forest (leaf leaf_symbol this_token.1) rest))
reach-spent (open' {symbol = symbol} {row_state = row_state} {child = child} {forest = forest} {fs = fs}
    {rest = rest} reach m j) =
    reach-spent reach ∙ ap (λ (v : List Token). v ++ rest) (sym (append-nil (spent fs ++ yields forest)))
reach-spent (closed {symbol = symbol} {row_state = row_state} {child = child} {child_state = child_state}
    {forest = forest} {more_trees = more_trees} {fs = fs}
    {rest = rest} reach m) =
    reach-spent reach ∙ (append_assoc (spent fs ++ yields forest) (yields more_trees) rest
    ∙ sym (snoc-spent fs forest (node child more_trees) rest))

-- Completion.
fill-arc : (symbol state child : ℕ) → is_leaf symbol ≡ false → has symbol state child ≡ true
    → (is_leaf child or fillable child 0) and exits child (λ x. fillable symbol (target symbol state child + x)) ≡ true
fill-arc = arc-test fill_test fill-checked

pub fill-after : (symbol state : ℕ) (tree : Tree) → is_leaf symbol ≡ false
    → has symbol state (root tree) ≡ true → Ok tree
    → fillable symbol (target symbol state (root tree) + finish tree) ≡ true
fill-after symbol state tree l h ok = exits-at tree (λ x. fillable symbol (target symbol state (root tree) + x))
    (and-r _ _ (fill-arc symbol state (root tree) l h)) ok

pub fill-start : (symbol state child : ℕ) → is_leaf symbol ≡ false → has symbol state child ≡ true
    → is_leaf child ≡ false → fillable child 0 ≡ true
fill-start symbol state child l h i =
    elim (or-c _ _ (and-l _ _ (fill-arc symbol state child l h))) [ inl p ↦ false-true i p | inr p ↦ p ]

-- The tokens that are added to complete a sentence: each is a leaf's, with the text listed for it.
abbrev pub Spelt : Token → Type 0
Spelt this_token = (leaf_symbol : ℕ) × Ok (leaf leaf_symbol (spell leaf_symbol))
    × (this_token ≡ token leaf_symbol (spell leaf_symbol))

abbrev pub AllSpelt : List Token → Type 0
AllSpelt [] = Unit {0}
AllSpelt (this_token ∷ tokens) = Spelt this_token × AllSpelt tokens

all-append : (tokens more : List Token) → AllSpelt tokens → AllSpelt more → AllSpelt (tokens ++ more)
all-append [] more all_spelt second_all_spelt = second_all_spelt
all-append (this_token ∷ tokens) more all_spelt second_all_spelt =
    (all_spelt.0, all-append tokens more all_spelt.1 second_all_spelt)

mutual
  okb-good : (tree : Tree) → okb tree ≡ true → Ok tree × AllSpelt (yield tree)
  okb-good (leaf leaf_symbol text) h =
      let c = and-l _ _ h in
      let ok : Ok (leaf leaf_symbol text) = (and-l _ _ c, and-r _ _ c) in
      let e : spell leaf_symbol ≡ text = text-same (spell leaf_symbol) text (and-r _ _ h) in (
        ok,
        (
          (
            leaf_symbol,
            subst (λ (y : Text). Ok (leaf leaf_symbol y)) (sym e) ok,
            ap (λ (y : Text). token leaf_symbol y) (sym e),
          ),
          tt,
        ),
      )
  okb-good (node symbol forest) h = let r = okb_from-good symbol 0 forest (and-r _ _ h) in
      ((not-c _ (and-l _ _ h), r.0), r.1)

  okb_from-good : (symbol state : ℕ) (forest : Forest) → okb_from symbol state forest ≡ true
      → OkFrom symbol state forest × AllSpelt (yields forest)
  okb_from-good symbol state none h = (h, tt)
  okb_from-good symbol state (tree ▸ forest) h =
      let c = and-l _ _ h in
      let a = okb-good tree (and-r _ _ c) in
      let b = okb_from-good symbol (target symbol state (root tree) + finish tree) forest (and-r _ _ h) in
      ((and-l _ _ c, a.0, b.0), all-append (yield tree) (yields forest) a.1 b.1)

pub fillable-ok : (symbol state : ℕ) → fillable symbol state ≡ true → OkFrom symbol state (ending symbol state)
unfolding fillable
fillable-ok symbol state h = (okb_from-good symbol state (ending symbol state) h).0

fillable-spelt : (symbol state : ℕ) → fillable symbol state ≡ true → AllSpelt (yields (ending symbol state))
unfolding fillable
fillable-spelt symbol state h = (okb_from-good symbol state (ending symbol state) h).1

-- A state on the way is the first, or one after an arc.
path-fillable : (symbol p state : ℕ) (forest : Forest) → is_leaf symbol ≡ false → Path symbol p forest state
    → fillable symbol p ≡ true
    → fillable symbol state ≡ true
path-fillable symbol p state none l path h = rw path at h
path-fillable symbol p state (tree ▸ forest) l path h =
    path-fillable symbol (target symbol p (root tree) + finish tree) state forest l path.2
    (fill-after symbol p tree l path.0 path.1)

held-fillable : (start_symbol symbol : ℕ) (fs : List Frame) → is_leaf symbol ≡ false → Held start_symbol symbol fs
    → Sound start_symbol fs
    → fillable start_symbol 0 ≡ true → fillable symbol 0 ≡ true
held-fillable start_symbol symbol [] l held sound b = rw held b
held-fillable start_symbol symbol (frame s1 q1 forest ∷ fs) l held sound b = fill-start s1 q1 symbol sound.0 held l

abbrev pub Whole : ℕ → List Token → Type 0
Whole start_symbol tokens =
    (tree : Tree) × (more : List Token) × Ok tree × (root tree ≡ start_symbol)
    × (yield tree ≡ tokens ++ more) × AllSpelt more

-- The open nodes end, each with children that complete the row's state.
complete : (start_symbol symbol state : ℕ) (forest : Forest) (fs : List Frame)
    → Sound start_symbol (frame symbol state forest ∷ fs)
    → fillable symbol state ≡ true → Whole start_symbol (spent fs ++ yields forest)
complete start_symbol symbol state forest [] sound b =
    let g = ending symbol state in (
      node symbol (forest +++ g),
      yields g,
      (sound.0, path-join symbol 0 state forest g sound.1 (fillable-ok symbol state b)),
      sound.2,
      yields-append forest g,
      fillable-spelt symbol state b,
    )
complete start_symbol symbol state forest (frame s1 q1 more_trees ∷ fs) sound b =
    let g = ending symbol state in
    let x = node symbol (forest +++ g) in
    let ok : Ok x = (sound.0, path-join symbol 0 state forest g sound.1 (fillable-ok symbol state b)) in
    let w = complete start_symbol s1 (target s1 q1 symbol + finish x) (more_trees +++ (x ▸ none)) fs (
      sound.3.0,
      path-snoc s1 0 q1 more_trees x sound.3.1 sound.2 ok,
      sound.3.2,
      sound.3.3,
    ) (fill-after s1 q1 x sound.3.0 sound.2 ok) in
    (w.0, yields g ++ w.1, w.2, w.3, w.4 ∙ shuffle w.1, all-append (yields g) w.1 (fillable-spelt symbol state b) w.5)
  where
    shuffle : (tokens : List Token)
        → (spent fs ++ yields (more_trees +++ (node symbol (forest +++ ending symbol state) ▸ none))) ++ tokens
        ≡ ((spent fs ++ yields more_trees) ++ yields forest) ++ (yields (ending symbol state) ++ tokens)
    shuffle tokens = rw (
      yields-append more_trees (node symbol (forest +++ ending symbol state) ▸ none),
      yields-append forest (ending symbol state),
    )
        (simp (append_assoc, append-nil))

reach-nonempty : {start_symbol : ℕ} {tokens : List Token} {fs : List Frame} {rest : List Token}
    → Reach start_symbol tokens fs rest → (fs ≡ []) → ⊥
reach-nonempty start e = cc
reach-nonempty (shift reach m i) e = cc
reach-nonempty (open' reach m i) e = cc
reach-nonempty (closed reach m) e = cc

-- No late fault: what the machine has read begins a sentence.
pub viable : {start_symbol : ℕ} {tokens : List Token} {fs : List Frame} {rest : List Token}
    → is_leaf start_symbol ≡ false → fillable start_symbol 0 ≡ true
    → Reach start_symbol tokens fs rest
    → Whole start_symbol (spent fs)
viable {start_symbol} {tokens} {fs} {rest} i b c = on fs (reach-sound i c) (reach-nonempty c)
  where
    on : (fs : List Frame) → Sound start_symbol fs → (fs ≡ [] → ⊥) → Whole start_symbol (spent fs)
    on [] c n = absurd (n refl)
    on (frame symbol state forest ∷ fs) c n = complete start_symbol symbol state forest fs c
        (path-fillable symbol 0 state forest c.0 c.1 (held-fillable start_symbol symbol fs c.0 c.2 c.3 b))

-- The set of all classes, which are the numbers before DOCUMENT.
abbrev pub any : ℕ
any = 2 ^ DOCUMENT - 1

error-any : holds ERROR any ≡ true
unfolding holds
error-any = refl

pub class-any : (this_token : Token) → holds (class this_token) any ≡ true
unfolding class
class-any this_token = elim (either (eqb this_token.0 IDENT)) [
  | inl p ↦ rw p (holds-subset (word_class words this_token.1) name_classes any refl
      (word-name words this_token.1 words-checked))
  | inr p ↦ elim (either (holds this_token.0 token_kinds)) [
    | inl q ↦ rw (p, q) (holds-subset this_token.0 token_kinds any refl q)
    | inr q ↦ rw (p, q) error-any
  ]
]

pub first-any : (rest : List Token) → holds (first rest) any ≡ true
unfolding first holds
first-any [] = refl
first-any (this_token ∷ rest) = class-any this_token

pub second-any : (rest : List Token) → holds (second rest) any ≡ true
unfolding second holds
second-any [] = refl
second-any (this_token ∷ rest) = first-any rest
