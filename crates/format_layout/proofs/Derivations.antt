-- A tree that is alike but for the spelling of block strings fits the rows too.
use Rattle.std.proofs.Common.{◌≡◌, ◌≢◌, ℕ, ◌⊎◌, inl, inr, Bool, true, false, eqb, List, [], ◌∷◌, ◌++◌, refl, sym, ap}
use Rattle.std.proofs.Common.{◌∙◌, subst, arith}
use Rattle.std.proofs.Math.Logic.{∥∥₁_elim}
use Rattle.std.proofs.Props.{props}
use Rattle.std.proofs.lemmas.Bool.{or_left, or_right, cases_Bool}
use Rattle.std.specs.Prelude.{◌||◌, IsTrue}
use Rattle.document_grammar.specs.Derivation.{kinds, text, texts, LeafRule, NameRule, on_text, true_text, false_text}
use Rattle.document_grammar.specs.Derivation.{null_text, NoVariable, NoVariables, ConstantDirectives, Braced, NoBlock}
use Rattle.document_grammar.specs.Derivation.{LacksBlock, StartsWithSelections, IsQuery, NotBefore, BraceRule, FitsBy}
use Rattle.document_grammar.specs.Derivation.{AllFitBy, Derivation, document}
use Rattle.document_grammar.specs.Kinds.{STRING}
use Rattle.document_grammar.specs.Pattern.{Pattern, Matches, member}
use Rattle.document_grammar.specs.Rows.{Row}
use Rattle.document_grammar.specs.Tree.{Text, Tree, leaf, node, Forest, none, ◌▸◌, root}
use Rattle.format_layout.specs.Respelled.{SameBlock, Alike, AllAlike}

pub alike-root : (t u : Tree) → Alike t u → root u ≡ root t
alike-root (leaf k x) (leaf j y) a = sym a.0
alike-root (leaf k x) (node j g) a = absurd a
alike-root (node k f) (leaf j y) a = absurd a
alike-root (node k f) (node j g) a = sym a.0

alike-kinds : (f g : Forest) → AllAlike f g → kinds g ≡ kinds f
alike-kinds none none a = refl
alike-kinds none (u ▸ g) a = absurd a
alike-kinds (t ▸ f) none a = absurd a
alike-kinds (t ▸ f) (u ▸ g) a = ap (λ k. k ∷ kinds g) (alike-root t u a.0) ∙ ap (λ l. root t ∷ l) (alike-kinds f g a.1)

-- ---- texts: the same, or with a quote

abbrev has_quote : List ℕ → Bool
has_quote [] = false
has_quote (b ∷ bs) = eqb b 34 || has_quote bs

quote-left : (xs ys : List ℕ) → has_quote xs ≡ true → has_quote (xs ++ ys) ≡ true
quote-left [] ys h = absurd (cc)
quote-left (x ∷ xs) ys h = elim (cases_Bool (eqb x 34)) [
  | inl e ↦ or_left _ _ e
  | inr e ↦ or_right _ _ (quote-left xs ys (rw e at h))
]

quote-right : (xs ys : List ℕ) → has_quote ys ≡ true → has_quote (xs ++ ys) ≡ true
quote-right [] ys h = h
quote-right (x ∷ xs) ys h = or_right _ _ (quote-right xs ys h)

block-quote : (x y : List ℕ) → SameBlock x y → has_quote y ≡ true
block-quote x y s = ∥∥₁_elim s.second (hlevel props) (λ b. let e = b.string.spelled in rw e refl)

mutual
  alike-text : (t u : Tree) → Alike t u → (text u ≡ text t) ⊎ (has_quote (text u) ≡ true)
  alike-text (leaf k x) (leaf j y) a = elim a.1 [ inl e ↦ inl (sym e) | inr s ↦ inr (block-quote x y s.1) ]
  alike-text (leaf k x) (node j g) a = absurd a
  alike-text (node k f) (leaf j y) a = absurd a
  alike-text (node k f) (node j g) a = alike-texts f g a.1

  alike-texts : (f g : Forest) → AllAlike f g → (texts g ≡ texts f) ⊎ (has_quote (texts g) ≡ true)
  alike-texts none none a = inl refl
  alike-texts none (u ▸ g) a = absurd a
  alike-texts (t ▸ f) none a = absurd a
  alike-texts (t ▸ f) (u ▸ g) a = elim (alike-text t u a.0) [
    | inr q ↦ inr (quote-left (text u) (texts g) q)
    | inl e ↦ elim (alike-texts f g a.1) [
      | inr q ↦ inr (quote-right (text u) (texts g) q)
      | inl d ↦ inl (ap (λ l. l ++ texts g) e ∙ ap (λ l. text t ++ l) d)
    ]
  ]

not-text : (f g : Forest) (w : Text) → AllAlike f g → has_quote w ≡ false → texts f ≢ w → texts g ≢ w
not-text f g w a plain other e = elim (alike-texts f g a) [
  | inl d ↦ other (sym d ∙ e)
  | inr q ↦ (let no : true ≡ false = sym q ∙ ap has_quote e ∙ plain in cc)
]

name-rule : (k : ℕ) (f g : Forest) → AllAlike f g → NameRule k f → NameRule k g
name-rule k f g a h = (
  λ e. not-text f g on_text a refl (h.0 e),
  λ e. (
    not-text f g true_text a refl (h.1 e).0,
    not-text f g false_text a refl (h.1 e).1,
    not-text f g null_text a refl (h.1 e).2,
  ),
)

-- ---- variables, directives and braces

mutual
  no-variable : (t u : Tree) → Alike t u → NoVariable t → NoVariable u
  no-variable (leaf k x) (leaf j y) a h = tt
  no-variable (leaf k x) (node j g) a h = absurd a
  no-variable (node k f) (leaf j y) a h = absurd a
  no-variable (node k f) (node j g) a h = (λ e. h.0 (a.0 ∙ e), no-variables f g a.1 h.1)

  no-variables : (f g : Forest) → AllAlike f g → NoVariables f → NoVariables g
  no-variables none none a h = tt
  no-variables none (u ▸ g) a h = absurd a
  no-variables (t ▸ f) none a h = absurd a
  no-variables (t ▸ f) (u ▸ g) a h = (no-variable t u a.0 h.0, no-variables f g a.1 h.1)

constant : (f g : Forest) → AllAlike f g → ConstantDirectives f → ConstantDirectives g
constant none none a h = tt
constant none (u ▸ g) a h = absurd a
constant (t ▸ f) none a h = absurd a
constant (t ▸ f) (u ▸ g) a h = (λ e. no-variable t u a.0 (h.0 (sym (alike-root t u a.0) ∙ e)), constant f g a.1 h.1)

no-block : (f g : Forest) → AllAlike f g → NoBlock g → NoBlock f
no-block none none a h = tt
no-block none (u ▸ g) a h = absurd a
no-block (t ▸ f) none a h = absurd a
no-block (t ▸ f) (u ▸ g) a h = (let e = alike-root t u a.0 in rw e at h.0, no-block f g a.1 h.1)

lacks-block : (t u : Tree) → Alike t u → LacksBlock u → LacksBlock t
lacks-block (leaf k x) (leaf j y) a h = h
lacks-block (leaf k x) (node j g) a h = absurd a
lacks-block (node k f) (leaf j y) a h = absurd a
lacks-block (node k f) (node j g) a h = (subst (λ n. IsTrue (member n Braced)) (sym a.0) h.0, no-block f g a.1 h.1)

starts-so : (f g : Forest) → AllAlike f g → StartsWithSelections g → StartsWithSelections f
starts-so none none a h = h
starts-so none (u ▸ g) a h = absurd a
starts-so (t ▸ f) none a h = absurd a
starts-so (t ▸ f) (u ▸ g) a h = sym (alike-root t u a.0) ∙ h

is-query : (t u : Tree) → Alike t u → IsQuery u → IsQuery t
is-query (leaf k x) (leaf j y) a h = h
is-query (leaf k x) (node j g) a h = absurd a
is-query (node k f) (leaf j y) a h = absurd a
is-query (node k f) (node j g) a h = (a.0 ∙ h.0, starts-so f g a.1 h.1)

not-before : (t u : Tree) (f g : Forest) → Alike t u → AllAlike f g → NotBefore t f → NotBefore u g
not-before t u none none b a h = tt
not-before t u none (v ▸ g) b a h = absurd a
not-before t u (s ▸ f) none b a h = absurd a
not-before t u (s ▸ f) (v ▸ g) b a h = λ l q. h (lacks-block t u b l) (is-query s v a.0 q)

brace-rule : (f g : Forest) → AllAlike f g → BraceRule f → BraceRule g
brace-rule none none a h = tt
brace-rule none (u ▸ g) a h = absurd a
brace-rule (t ▸ f) none a h = absurd a
brace-rule (t ▸ f) (u ▸ g) a h = (not-before t u f g a.0 a.1 h.0, brace-rule f g a.1 h.1)

-- ---- rows

leaf-rule : (k j : ℕ) (x y : Text) → k ≡ j → (x ≡ y) ⊎ ((k ≡ STRING) × SameBlock x y) → LeafRule k x → LeafRule j y
leaf-rule k j x y e a h = elim a [
  | inl same ↦ subst (λ n. LeafRule n y) e (subst (λ z. LeafRule k z) same h)
  | inr s ↦ λ above. absurd (let at_string : k ≡ STRING = s.0 in omega arith)
]

mutual
  pub fits : (row : ℕ → Pattern) (t u : Tree) → Alike t u → FitsBy row t → FitsBy row u
  fits row (leaf k x) (leaf j y) a h = leaf-rule k j x y a.0 a.1 h
  fits row (leaf k x) (node j g) a h = absurd a
  fits row (node k f) (leaf j y) a h = absurd a
  fits row (node k f) (node j g) a h =
      let there : FitsBy row (node k g) = (
        subst (λ l. Matches (row k) l) (sym (alike-kinds f g a.1)) h.0,
        name-rule k f g a.1 h.1,
        (λ e. no-variables f g a.1 (h.2.0 e), λ e. constant f g a.1 (h.2.1 e)),
        λ e. brace-rule f g a.1 (h.3 e),
        all-fit row f g a.1 h.4,
      ) in
      subst (λ n. FitsBy row (node n g)) a.0 there

  all-fit : (row : ℕ → Pattern) (f g : Forest) → AllAlike f g → AllFitBy row f → AllFitBy row g
  all-fit row none none a h = tt
  all-fit row none (u ▸ g) a h = absurd a
  all-fit row (t ▸ f) none a h = absurd a
  all-fit row (t ▸ f) (u ▸ g) a h = (fits row t u a.0 h.0, all-fit row f g a.1 h.1)

pub alike-derivation : (t u : Tree) → Alike t u → Derivation t document → Derivation u document
alike-derivation t u a d = (alike-root t u a ∙ d.0, fits Row t u a d.1)
