-- Trees and words without optional signs.
use Rattle.std.proofs.Common.{◌≡◌, ℕ, ◌+◌, inl, inr, Bool, true, false, cond, eqb, List, [], ◌∷◌, ◌++◌, refl, sym, ap}
use Rattle.std.proofs.Common.{◌∙◌, subst, arith, eqb-true}
use Rattle.std.proofs.lemmas.Bool.{cases_Bool}
use Rattle.std.specs.Prelude.{max, ◌&&◌}
use Rattle.lexical_grammar.specs.Cut.{Word, is_significant_kind}
use Rattle.document_grammar.specs.Choices.{is_ignored}
use Rattle.document_grammar.specs.Derivation.{counts, below, belows, nest}
use Rattle.document_grammar.specs.Kinds.{AMP, PIPE, DOCUMENT, LIST_VALUE, OBJECT_FIELD}
use Rattle.document_grammar.specs.Pattern.{member}
use Rattle.document_grammar.specs.Tree.{Tree, leaf, node, Forest, none, ◌▸◌, root}
use Rattle.format_layout.proofs.Nests.{alike-nest}
use Rattle.format_layout.specs.Respelled.{SameWord, AreSameWords, Alike, AllAlike}
use Rattle.format_layout.specs.Signs.{has_members, is_sign, is_leaf, without_first_sign, unsigned, all_unsigned, marks}
use Rattle.format_layout.specs.Signs.{all_marks, without_marked}

-- ---- trees that are alike

first-alike : (f g : Forest) → AllAlike f g → AllAlike (without_first_sign f) (without_first_sign g)
first-alike none none a = tt
first-alike none (u ▸ g) a = absurd a
first-alike (t ▸ f) none a = absurd a
first-alike (leaf k x ▸ f) (node j h ▸ g) a = absurd a.0
first-alike (node k e ▸ f) (leaf j y ▸ g) a = absurd a.0
first-alike (node k e ▸ f) (node j h ▸ g) a = a
first-alike (leaf k x ▸ f) (leaf j y ▸ g) a = elim (cases_Bool (is_sign k)) [
  | inl e ↦ (let d : is_sign j ≡ true = sym (ap is_sign a.0.0) ∙ e in rw (e, d) a.1)
  | inr e ↦ (let d : is_sign j ≡ false = sym (ap is_sign a.0.0) ∙ e in rw (e, d) (a.0, first-alike f g a.1))
]

members-alike : (k j : ℕ) (f g : Forest) → k ≡ j → AllAlike f g
    → AllAlike (cond (has_members k) (without_first_sign f) f) (cond (has_members j) (without_first_sign g) g)
members-alike k j f g e a =
    subst (λ n. AllAlike (cond (has_members k) (without_first_sign f) f)
    (cond (has_members n) (without_first_sign g) g)) e
    (elim (cases_Bool (has_members k)) [ inl d ↦ rw d (first-alike f g a) | inr d ↦ rw d a ])

mutual
  pub unsigned-alike : (t u : Tree) → Alike t u → Alike (unsigned t) (unsigned u)
  unsigned-alike (leaf k x) (leaf j y) a = a
  unsigned-alike (leaf k x) (node j g) a = absurd a
  unsigned-alike (node k f) (leaf j y) a = absurd a
  unsigned-alike (node k f) (node j g) a =
      (a.0, members-alike k j (all_unsigned f) (all_unsigned g) a.0 (all-unsigned-alike f g a.1))

  all-unsigned-alike : (f g : Forest) → AllAlike f g → AllAlike (all_unsigned f) (all_unsigned g)
  all-unsigned-alike none none a = tt
  all-unsigned-alike none (u ▸ g) a = absurd a
  all-unsigned-alike (t ▸ f) none a = absurd a
  all-unsigned-alike (t ▸ f) (u ▸ g) a = (unsigned-alike t u a.0, all-unsigned-alike f g a.1)

leaf-alike : (t u : Tree) → Alike t u → is_leaf u ≡ is_leaf t
leaf-alike (leaf k x) (leaf j y) a = refl
leaf-alike (leaf k x) (node j g) a = absurd a
leaf-alike (node k f) (leaf j y) a = absurd a
leaf-alike (node k f) (node j g) a = refl

mutual
  pub marks-alike : (before : Bool) (t u : Tree) → Alike t u → marks before u ≡ marks before t
  marks-alike before (leaf k x) (leaf j y) a = ap (λ n. cond (is_ignored n) [] ((before && is_sign n) ∷ [])) (sym a.0)
  marks-alike before (leaf k x) (node j g) a = absurd a
  marks-alike before (node k f) (leaf j y) a = absurd a
  marks-alike before (node k f) (node j g) a =
      ap (λ n. all_marks (has_members n) g) (sym a.0) ∙ all-marks-alike (has_members k) f g a.1

  all-marks-alike : (before : Bool) (f g : Forest) → AllAlike f g → all_marks before g ≡ all_marks before f
  all-marks-alike before none none a = refl
  all-marks-alike before none (u ▸ g) a = absurd a
  all-marks-alike before (t ▸ f) none a = absurd a
  all-marks-alike before (t ▸ f) (u ▸ g) a =
      ap (λ l. l ++ all_marks (before && is_leaf u) g) (marks-alike before t u a.0)
      ∙ ap (λ b. marks before t ++ all_marks (before && b) g) (leaf-alike t u a.0)
      ∙ ap (λ l. marks before t ++ l) (all-marks-alike (before && is_leaf t) f g a.1)

-- ---- words that are the same

same-kind : (a b : Word) → SameWord a b → b.kind ≡ a.kind
same-kind a b (inl e) = ap (λ (w : Word). w.kind) (sym e)
same-kind a b (inr s) = s.1 ∙ sym s.0

pub without-same : (ms : List Bool) (xs ys : List Word) → AreSameWords xs ys
    → AreSameWords (without_marked ms xs) (without_marked ms ys)
without-same ms [] [] s = tt
without-same ms [] (y ∷ ys) s = absurd s
without-same ms (x ∷ xs) [] s = absurd s
without-same [] (x ∷ xs) (y ∷ ys) s = (s.0, without-same [] xs ys s.1)
without-same (m ∷ ms) (x ∷ xs) (y ∷ ys) s =
    let rest = without-same ms xs ys s.1 in
    let others = without-same (m ∷ ms) xs ys s.1 in
    elim (cases_Bool (is_significant_kind x.kind)) [
      | inl e ↦ (let d : is_significant_kind y.kind ≡ true = ap is_significant_kind (same-kind x y s.0) ∙ e in
          rw (e, d) (marked m rest))
      | inr e ↦ (let d : is_significant_kind y.kind ≡ false = ap is_significant_kind (same-kind x y s.0) ∙ e in
          rw (e, d) (s.0, others))
    ]
  where
    marked : (b : Bool) → AreSameWords (without_marked ms xs) (without_marked ms ys)
        → AreSameWords (cond b (without_marked ms xs) (x ∷ without_marked ms xs))
        (cond b (without_marked ms ys) (y ∷ without_marked ms ys))
    marked true r = r
    marked false r = (s.0, r)

-- ---- nesting

not-counted : (p k : ℕ) → is_sign k ≡ true → counts p k ≡ 0
unfolding member
not-counted p k h = elim (cases_Bool (eqb k AMP)) [
  | inl e ↦ (let at : k ≡ AMP = eqb-true k AMP e in rw at (none-counted (member p (LIST_VALUE ∷ OBJECT_FIELD ∷ []))))
  | inr e ↦ (let d : eqb k PIPE ≡ true = rw e at h in let at : k ≡ PIPE = eqb-true k PIPE d in
      rw at (none-counted (member p (LIST_VALUE ∷ OBJECT_FIELD ∷ []))))
]
  where
    none-counted : (b : Bool) → cond {A = ℕ} b 0 0 ≡ 0
    none-counted true = refl
    none-counted false = refl

first-belows : (p : ℕ) (f : Forest) → belows p (without_first_sign f) ≡ belows p f
first-belows p none = refl
first-belows p (node k g ▸ f) = refl
first-belows p (leaf k x ▸ f) = elim (cases_Bool (is_sign k)) [
  | inl e ↦ rw e (omega (arith, not-counted p k e))
  | inr e ↦ rw e (ap (λ n. max (counts p k + 0) n) (first-belows p f))
]

members-belows : (b : Bool) (p : ℕ) (f : Forest) → belows p (cond b (without_first_sign f) f) ≡ belows p f
members-belows true p f = first-belows p f
members-belows false p f = refl

root-unsigned : (t : Tree) → root (unsigned t) ≡ root t
root-unsigned (leaf k x) = refl
root-unsigned (node k f) = refl

mutual
  below-unsigned : (t : Tree) → below (unsigned t) ≡ below t
  below-unsigned (leaf k x) = refl
  below-unsigned (node k f) = members-belows (has_members k) k (all_unsigned f) ∙ belows-unsigned k f

  belows-unsigned : (p : ℕ) (f : Forest) → belows p (all_unsigned f) ≡ belows p f
  belows-unsigned p none = refl
  belows-unsigned p (t ▸ f) =
      ap (λ n. max (counts p n + below (unsigned t)) (belows p (all_unsigned f))) (root-unsigned t)
      ∙ ap (λ n. max (counts p (root t) + n) (belows p (all_unsigned f))) (below-unsigned t)
      ∙ ap (λ n. max (counts p (root t) + below t) n) (belows-unsigned p f)

nest-unsigned : (t : Tree) → nest (unsigned t) ≡ nest t
nest-unsigned t = ap (λ n. counts DOCUMENT n + below (unsigned t)) (root-unsigned t)
    ∙ ap (λ n. counts DOCUMENT (root t) + n) (below-unsigned t)

-- trees that are alike without these signs nest as deep
pub unsigned-nest : (t u : Tree) → Alike (unsigned t) (unsigned u) → nest u ≡ nest t
unsigned-nest t u a = sym (nest-unsigned u) ∙ alike-nest (unsigned t) (unsigned u) a ∙ nest-unsigned t
