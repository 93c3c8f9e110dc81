-- The nodes of a tree that end before a number of tokens fit their rows; and what an unfinished tree keeps of it,
-- whatever is built later.
use Rattle.std.proofs.Common.{◌≡◌, ℕ, ◌+◌, ◌-◌, ◌<◌, ◌≤◌, Bool, true, false, cond, ltb, eqb, List, [], ◌∷◌, ◌++◌}
use Rattle.std.proofs.Common.{length, refl, sym, ap, ap₂, ◌∙◌, subst, inl, inr, arith}
use Rattle.std.proofs.lemmas.List.{length-append}
use Rattle.std.specs.Prelude.{⊤}
use Rattle.document_grammar.proofs.Added.{Added}
use Rattle.document_grammar.proofs.Booleans.{either}
use Rattle.document_grammar.proofs.Built.{Yields-append, Yields-bares, join-front_back}
use Rattle.document_grammar.proofs.Trimmed.{fits-tail}
use Rattle.document_grammar.specs.Builds.{Building, Open, start, close, finish, wrap, front, back, open_count}
use Rattle.document_grammar.specs.Derivation.{Yields, Fits, AllFit}
use Rattle.document_grammar.specs.Forests as built
use Rattle.document_grammar.specs.Kinds.{ERROR}
use Rattle.document_grammar.specs.Numbered.{numbered}
use Rattle.document_grammar.specs.Numbers.{number}
use Rattle.document_grammar.specs.Tree.{Token, leaf, node, Forest, none, ◌▸◌, ◌+++◌, root}
use Rattle.document_grammar.specs.declared.kind.SyntaxKind.{SyntaxKind}
use Rattle.grammar_machine.proofs.FromMachineTree.{shows}
use Rattle.grammar_machine.proofs.Patterns.{label}
use Rattle.grammar_machine.proofs.ShownDerivation.{path-fits, show-yield}
use Rattle.grammar_machine.proofs.Sound.{Sound, spent}
use Rattle.grammar_machine.specs.Machine.{is_leaf, target, finish as leaves_behind, Frame, frame, Path, yields}
use Rattle.grammar_machine.specs.Symbols.{TYPE}
use Rattle.parser_rules.proofs.soundness.MachineStack.{image, image-some, lay}
use Rattle.parser_rules.proofs.soundness.WithoutIgnored.{Stack, IsLayered, stack, layers, strip, put}

-- how many leaves are not ignored
abbrev pub tokens : built.Forest → ℕ
tokens built.none = 0
tokens (built.leaf k x rest) = cond (ltb (number k) ERROR) 0 1 + tokens rest
tokens (built.node k kids rest) = tokens kids + tokens rest

-- After `n` tokens: each node that ends before the token number `m`, counted from 1, fits its row and the rules, its
-- ignored leaves left out.
abbrev pub EndedFit : ℕ → ℕ → built.Forest → Type 0
EndedFit m n built.none = ⊤
EndedFit m n (built.leaf k x rest) = EndedFit m (n + cond (ltb (number k) ERROR) 0 1) rest
EndedFit m n (built.node k kids rest) =
    (n + tokens kids < m → Fits (node (number k) (strip kids))) × EndedFit m n kids × EndedFit m (n + tokens kids) rest

-- ---- lists of trees

ended-join : (m n n' : ℕ) (forest more_trees : built.Forest) → n' ≡ n + tokens forest → EndedFit m n forest
    → EndedFit m n' more_trees
    → EndedFit m n (built.join forest more_trees)
ended-join m n n' built.none ended_fit second_ended_fit a b =
    subst (λ (z : ℕ). EndedFit m z ended_fit) (omega (arith, second_ended_fit)) b
ended-join m n n' (built.leaf k x rest) more_trees e ended_fit second_ended_fit =
    ended-join m (n + cond (ltb (number k) ERROR) 0 1) n' rest more_trees (omega (arith, e)) ended_fit second_ended_fit
ended-join m n n' (built.node k kids rest) more_trees e ended_fit second_ended_fit = (
  ended_fit.0,
  ended_fit.1,
  ended-join m (n + tokens kids) n' rest more_trees (omega (arith, e)) ended_fit.2 second_ended_fit,
)

ended-parts : (m n n' : ℕ) (forest more_trees : built.Forest) → n' ≡ n + tokens forest
    → EndedFit m n (built.join forest more_trees)
    → EndedFit m n forest × EndedFit m n' more_trees
ended-parts m n n' built.none ended_fit e a = (tt, subst (λ (z : ℕ). EndedFit m z ended_fit) (omega (arith, e)) a)
ended-parts m n n' (built.leaf k x rest) more_trees e ended_fit =
    ended-parts m (n + cond (ltb (number k) ERROR) 0 1) n' rest more_trees
    (omega (arith, e)) ended_fit
ended-parts m n n' (built.node k kids rest) more_trees e ended_fit =
    let r = ended-parts m (n + tokens kids) n' rest more_trees
    (omega (arith, e)) ended_fit.2 in ((ended_fit.0, ended_fit.1, r.0), r.1)

tokens-join : (forest more_trees : built.Forest)
    → tokens (built.join forest more_trees) ≡ tokens forest + tokens more_trees
tokens-join built.none g = omega arith
tokens-join (built.leaf k x rest) more_trees = let e = tokens-join rest more_trees in omega (arith, e)
tokens-join (built.node k kids rest) more_trees = let e = tokens-join rest more_trees in omega (arith, e)

-- where all trees fit, all nodes do
fit-ended : (m n : ℕ) (forest : built.Forest) → AllFit (strip forest) → EndedFit m n forest
fit-ended m n built.none h = tt
fit-ended m n (built.leaf k x rest) all_fit =
    fit-ended m (n + cond (ltb (number k) ERROR) 0 1) rest (fits-tail (leaf (number k) x) (numbered rest) all_fit)
fit-ended m n (built.node k kids rest) all_fit =
    (λ z. all_fit.0, fit-ended m n kids all_fit.0.4, fit-ended m (n + tokens kids) rest all_fit.1)

leaf-count : (b : Bool) (token : Token) → length (cond b [] (token ∷ [])) ≡ cond b 0 1
leaf-count true token = refl
leaf-count false token = refl

tokens-numbered : (forest : built.Forest) → length (Yields (numbered forest)) ≡ tokens forest
tokens-numbered built.none = refl
tokens-numbered (built.leaf k x rest) = length-append _ (Yields (numbered rest))
    ∙ ap₂ (λ (a b : ℕ). a + b) (leaf-count (ltb (number k) ERROR) _) (tokens-numbered rest)
tokens-numbered (built.node k kids rest) = length-append (Yields (numbered kids)) (Yields (numbered rest))
    ∙ ap₂ (λ (a b : ℕ). a + b) (tokens-numbered kids) (tokens-numbered rest)

tokens-strip : (forest : built.Forest) → length (Yields (strip forest)) ≡ tokens forest
tokens-strip forest = ap length (Yields-bares (numbered forest)) ∙ tokens-numbered forest

-- ---- unfinished trees

abbrev open_tokens : List Open → ℕ
open_tokens [] = 0
open_tokens (o ∷ above) = open_tokens above + tokens o.before

abbrev Opens : ℕ → List Open → Type 0
Opens m [] = ⊤
Opens m (o ∷ above) = EndedFit m (open_tokens above) o.before × Opens m above

-- There are `m` tokens, and the nodes that are closed before the last of them fit: whatever is added, this stays.
abbrev pub Settled : ℕ → Building → Type 0
Settled m building = (m ≤ open_tokens building.above + tokens building.here)
    × EndedFit m (open_tokens building.above) building.here × Opens m building.above

-- what begins after them does not end before
ended-later : (m n : ℕ) (forest : built.Forest) → m ≤ n → EndedFit m n forest
ended-later m n built.none h = tt
ended-later m n (built.leaf k x rest) h = ended-later m (n + cond (ltb (number k) ERROR) 0 1) rest (omega (arith, h))
ended-later m n (built.node k kids rest) h = (
  λ g. absurd (omega (arith, h, g)),
  ended-later m n kids h,
  ended-later m (n + tokens kids) rest (omega (arith, h)),
)

added-is : {forest : built.Forest} {building later_building : Building} → Added forest building later_building
    → later_building ≡ record { here = built.join building.here forest; above = building.above }
added-is added = ap₂ (λ (here : built.Forest) (above : List Open). record { here = here; above = above })
    added.here added.above

pub settled-added : (m : ℕ) {forest : built.Forest} {building later_building : Building}
    → Added forest building later_building → Settled m building
    → Settled m later_building
settled-added m {forest = forest} {building = building} added settled =
    let e = tokens-join building.here forest in
    let c = settled.0 in
    subst (Settled m) (sym (added-is added)) (
      omega (arith, c, e),
      ended-join m (open_tokens building.above) _ building.here forest refl settled.1
          (ended-later m _ forest settled.0),
      settled.2,
    )

-- the same without the node around the last trees
pub settled-unwrapped : (m : ℕ) {kind : SyntaxKind} {forest : built.Forest}
    {building later_building last_building : Building}
    → Added (built.node kind forest built.none) building later_building → Added forest building last_building
    → Settled m later_building
    → Settled m last_building
settled-unwrapped m {kind = kind} {forest = forest} {building = building} added second_added settled =
    let more_trees : built.Forest = built.node kind forest built.none in
    let s = subst (Settled m) (added-is added) settled in
    let p = ended-parts m (open_tokens building.above) _ building.here more_trees refl s.1 in
    let c = s.0 in
    let e = tokens-join building.here more_trees in
    let i = tokens-join building.here forest in
    subst (Settled m) (sym (added-is second_added)) (
      omega (arith, c, e, i),
      ended-join m (open_tokens building.above) _ building.here forest refl p.0 p.1.1,
      s.2,
    )

pub settled-start : (m : ℕ) (kind : SyntaxKind) (building : Building) → Settled m building
    → Settled m (start kind building)
settled-start m kind building settled = (let c = settled.0 in omega (arith, c), tt, (settled.1, settled.2))

settled-close : (m : ℕ) (here : built.Forest) (above : List Open) → Settled m (record { here = here; above = above })
    → Settled m (close here above)
settled-close m here [] settled = settled
settled-close m here (o ∷ above) settled =
    let forest : built.Forest = built.node o.kind here built.none in
    let e = tokens-join o.before forest in
    let c = settled.0 in (
      omega (arith, c, e),
      ended-join m (open_tokens above) _ o.before forest refl settled.2.0
          ((λ g. absurd (omega (arith, c, g))), settled.1, tt),
      settled.2.1,
    )

pub settled-finish : (m : ℕ) (building : Building) → Settled m building → Settled m (finish building)
settled-finish m building settled = settled-close m building.here building.above settled

pub settled-wrap : (m index : ℕ) (kind : SyntaxKind) (building : Building) → Settled m building
    → Settled m (wrap index kind building)
settled-wrap m index kind building settled =
    let n : ℕ = index - open_count building.above in
    let e : built.join (front n building.here) (back n building.here) ≡ building.here =
    join-front_back n building.here in
    let p = ended-parts m (open_tokens building.above) _ (front n building.here) (back n building.here) refl
    (subst (λ (f : built.Forest). EndedFit m (open_tokens building.above) f) (sym e) settled.1) in
    let j = tokens-join (front n building.here) (back n building.here) in
    let i : tokens (built.join (front n building.here) (back n building.here)) ≡ tokens building.here = ap tokens e in
    let c = settled.0 in
    (omega (arith, c, i, j), p.1, (p.0, settled.2))

-- the finished tree
pub ended-root : (m : ℕ) (building : Building) (o : Open) → building.above ≡ o ∷ [] → Settled m building
    → EndedFit m 0 (finish building).here
ended-root m building o e settled =
    let second_settled : Settled m (record { here = building.here; above = o ∷ [] }) = subst
    (λ (above : List Open). Settled m (record { here = building.here; above = above })) e settled in
    subst (λ (above : List Open). EndedFit m 0 (close building.here above).here) (sym e)
    (settled-close m building.here (o ∷ []) second_settled).1

-- ---- the image of an unfinished tree

abbrev pub StackFits : Stack → Type 0
StackFits [] = ⊤
StackFits (layer ∷ more) = AllFit layer.1 × StackFits more

abbrev pub stack_tokens : Stack → ℕ
stack_tokens [] = 0
stack_tokens (layer ∷ more) = stack_tokens more + length (Yields layer.1)

-- all trees of it fit, and there are `m` tokens
pub record Fitting (m : ℕ) (this_stack : Stack) : Type 0 where
  pub fits : StackFits this_stack
  pub count : stack_tokens this_stack ≡ m

layers-fit : (m : ℕ) (here : built.Forest) (above : List Open) → StackFits (layers here above)
    → EndedFit m (open_tokens above) here × Opens m above
layers-fit m here [] stack_fits = (fit-ended m 0 here stack_fits.0, tt)
layers-fit m here (o ∷ above) stack_fits =
    (fit-ended m (open_tokens (o ∷ above)) here stack_fits.0, layers-fit m o.before above stack_fits.1)

layers-tokens : (here : built.Forest) (above : List Open)
    → stack_tokens (layers here above) ≡ open_tokens above + tokens here
layers-tokens here [] = ap (λ (n : ℕ). 0 + n) (tokens-strip here)
layers-tokens here (o ∷ above) = ap₂ (λ (a b : ℕ). a + b) (layers-tokens o.before above) (tokens-strip here)

pub settled-at : (m : ℕ) (building : Building) (this_stack : Stack) → stack building ≡ this_stack
    → Fitting m this_stack → Settled m building
settled-at m building this_stack e fitting =
    let f = layers-fit m building.here building.above (subst (λ (z : Stack). StackFits z) (sym e) fitting.fits) in
    let t = layers-tokens building.here building.above in
    let c : stack_tokens (stack building) ≡ m = ap stack_tokens e ∙ fitting.count in
    (omega (arith, t, c), f.0, f.1)

-- ---- the image of the machine's nodes

fit-append : (forest more_trees : Forest) → AllFit forest → AllFit more_trees → AllFit (forest +++ more_trees)
fit-append none more_trees all_fit second_all_fit = second_all_fit
fit-append (tree ▸ forest) more_trees all_fit second_all_fit =
    (all_fit.0, fit-append forest more_trees all_fit.1 second_all_fit)

path-yields : (s p q : ℕ) (forest : Forest) → Path s p forest q → Yields (shows forest) ≡ yields forest
path-yields s p q none path = refl
path-yields s p q (tree ▸ forest) path = ap₂ (λ (x y : List Token). x ++ y) (show-yield tree path.1)
    (path-yields s (target s p (root tree) + leaves_behind tree) q forest path.2)

-- the tokens of the innermost open node come last
spent-more : (s p q : ℕ) (forest : Forest) (fs : List Frame) → Path s p forest q
    → length (spent fs) + length (Yields (shows forest)) ≡ length (spent (frame s q forest ∷ fs))
spent-more s p q forest fs path = ap (λ (v : List Token). length (spent fs) + length v) (path-yields s p q forest path)
    ∙ sym (length-append (spent fs) (yields forest))

-- trees more in the innermost open node
fitting-put : (m : ℕ) (forest : Forest) (this_stack : Stack) → IsLayered this_stack → AllFit forest
    → Fitting m this_stack
    → Fitting (m + length (Yields forest)) (put forest this_stack)
fitting-put m forest [] is_layered all_fit fitting = absurd is_layered
fitting-put m forest (layer ∷ more) is_layered all_fit fitting =
    let e : length (Yields (layer.1 +++ forest)) ≡ length (Yields layer.1) + length (Yields forest) =
    ap length (Yields-append layer.1 forest)
    ∙ length-append (Yields layer.1) (Yields forest) in
    let c = fitting.count in
    record { fits = (fit-append layer.1 forest fitting.fits.0 all_fit, fitting.fits.1); count = omega (arith, c, e) }

pub fitting-path : (s p q k : ℕ) (forest : Forest) (fs : List Frame) (this_stack : Stack)
    → is_leaf s ≡ false → Path s p forest q
    → Fitting (length (spent fs)) this_stack
    → Fitting (length (spent (frame s q forest ∷ fs))) ((k, shows forest) ∷ this_stack)
fitting-path s p q k forest fs this_stack l path fitting =
    subst (λ (n : ℕ). Fitting n ((k, shows forest) ∷ this_stack)) (spent-more s p q forest fs path)
    (record {
      fits = (path-fits s p q forest l path, fitting.fits);
      count = ap (λ (n : ℕ). n + length (Yields (shows forest))) fitting.count;
    })

fitting-lay : (s p q : ℕ) (forest : Forest) (fs : List Frame) (this_stack : Stack) → IsLayered this_stack
    → is_leaf s ≡ false → Path s p forest q
    → Fitting (length (spent fs)) this_stack
    → Fitting (length (spent (frame s q forest ∷ fs))) (lay s (shows forest) this_stack)
fitting-lay s p q forest fs this_stack some l path fitting = elim (either (eqb s TYPE)) [
  | inl t ↦ rw t (subst (λ (n : ℕ). Fitting n (put (shows forest) this_stack)) (spent-more s p q forest fs path)
      (fitting-put (length (spent fs)) (shows forest) this_stack some (path-fits s p q forest l path) fitting))
  | inr t ↦ rw t (fitting-path s p q (label s) forest fs this_stack l path fitting)
]

pub fitting-image : (s0 : ℕ) (fs : List Frame) → Sound s0 fs → Fitting (length (spent fs)) (image fs)
fitting-image s0 [] sound = record { fits = (tt, tt); count = refl }
fitting-image s0 (frame s q forest ∷ fs) sound =
    fitting-lay s 0 q forest fs (image fs) (image-some fs) sound.0 sound.1 (fitting-image s0 fs sound.3)
