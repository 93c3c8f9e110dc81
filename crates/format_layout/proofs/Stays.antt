-- Each token stays that is below no node with members.
use Rattle.std.proofs.Common.{◌≡◌, ℕ, inl, inr, Bool, true, false, cond, eqb, List, [], ◌∷◌, ◌++◌, refl, sym, ap, ◌∙◌}
use Rattle.std.proofs.Common.{subst, append_assoc, true≢false}
use Rattle.std.proofs.lemmas.Bool.{and_parts, cases_Bool, not-true, or_parts}
use Rattle.std.specs.List.{list_all}
use Rattle.std.specs.Prelude.{◌||◌, bytes_eq}
use Rattle.document_grammar.specs.Choices.{is_ignored, is_keyword}
use Rattle.document_grammar.specs.Derivation.{kinds, Yield, Yields, spelled, Fits, AllFit}
use Rattle.document_grammar.specs.Kinds.{BANG, AMP, COLON, EQ, R_BRACK, PIPE, IDENT, DEFAULT_VALUE}
use Rattle.document_grammar.specs.Tree.{Text, Token, Tree, leaf, node, Forest, none, ◌▸◌, root}
use Rattle.format_layout.proofs.Guards.{is_above, is_plain, needs_type, Guarded, guarded, plain-passes, all-plain}
use Rattle.format_layout.proofs.Plain.{steps, steps-append, is_members, AllStay, stay-append}
use Rattle.format_layout.proofs.Steps.{step, goes_at, comes_at, Fit, Along, along-append}
use Rattle.format_layout.specs.Chosen.{Choice, stays, goes, signed}
use Rattle.format_layout.specs.Leads.{after_equals, after_interface, after_member, after_name, after_word}
use Rattle.format_layout.specs.Leads.{implements_text, on_text}
use Rattle.format_layout.specs.declared.lead.Lead.{Lead}
use Rattle.format_layout.specs.declared.lead.Lead.TheVariants.{Colon, Typed, Members, Amp, Implements, On, Other}

-- Of the choices for some tokens and more, those for the first ones leave each of them as it is.
pub record Stays (s : Lead) (cs : List Choice) (ts rest : List Token) : Type 0 where
  pub own : List Choice
  pub after : List Choice
  pub split : cs ≡ own ++ after
  pub stay : AllStay own
  pub long : Along own ts
  pub left : Fit (steps s ts) after rest
  pub ready : is_members (steps s ts) ≡ false

pub no-tokens : (s : Lead) (cs : List Choice) (rest : List Token) → is_members s ≡ false
    → Fit s cs rest → Stays s cs [] rest
no-tokens s cs rest m fit = record { own = []; after = cs; split = refl; stay = tt; long = tt; left = fit; ready = m }

pub more-tokens : (s : Lead) (cs : List Choice) (xs ys rest : List Token) → (a : Stays s cs xs (ys ++ rest))
    → Stays (steps s xs) a.after ys rest
    → Stays s cs (xs ++ ys) rest
more-tokens s cs xs ys rest a b = record {
  own = a.own ++ b.own;
  after = b.after;
  split = a.split ∙ ap (λ l. a.own ++ l) b.split ∙ sym (append_assoc a.own b.own b.after);
  stay = stay-append a.own b.own a.stay b.stay;
  long = along-append a.own b.own xs ys a.long b.long;
  left = subst (λ r. Fit r b.after rest) (sym (steps-append s xs ys)) b.left;
  ready = ap is_members (steps-append s xs ys) ∙ b.ready;
}

-- ---- one token

goes-none : (s : Lead) (k : ℕ) → eqb k PIPE ≡ false → eqb k AMP ≡ false → goes_at s k ≡ false
goes-none Members k p a = p
goes-none On k p a = p
goes-none Implements k p a = a
goes-none _ k p a = refl

pub comes-none : (s : Lead) (k : ℕ) → is_members s ≡ false → comes_at s k ≡ false
comes-none Members k m = absurd (cc)
comes-none _ k m = refl

word-ready : (x : Text) → is_members (after_word x) ≡ false
word-ready x = elim (cases_Bool (bytes_eq x on_text)) [
  | inl e ↦ rw e refl
  | inr e ↦ elim (cases_Bool (bytes_eq x implements_text)) [ inl d ↦ rw (e, d) refl | inr d ↦ rw (e, d) refl ]
]

member-ready : (x : Text) → is_members (after_member x) ≡ false
member-ready x = elim (cases_Bool (bytes_eq x implements_text)) [ inl d ↦ rw d refl | inr d ↦ rw d refl ]

interface-ready : (x : Text) → is_members (after_interface x) ≡ false
interface-ready x = elim (cases_Bool (bytes_eq x on_text)) [ inl e ↦ rw e refl | inr e ↦ rw e (member-ready x) ]

pub name-ready : (s : Lead) (x : Text) → is_members (after_name s x) ≡ false
name-ready Colon x = refl
name-ready On x = word-ready x
name-ready Other x = word-ready x
name-ready Amp x = interface-ready x
name-ready Implements x = interface-ready x
name-ready Typed x = interface-ready x
name-ready _ x = member-ready x

pub step-ready : (s : Lead) (k : ℕ) (x : Text) → (eqb k EQ ≡ true → s ≡ Typed) → is_members (step s k x) ≡ false
step-ready s k x typed = elim (cases_Bool (eqb k IDENT)) [
  | inl a ↦ rw a (name-ready s x)
  | inr a ↦ elim (cases_Bool (eqb k COLON)) [
    | inl b ↦ rw (a, b) refl
    | inr b ↦ elim (cases_Bool (eqb k BANG || eqb k R_BRACK)) [
      | inl c ↦ rw (a, b, c) refl
      | inr c ↦ elim (cases_Bool (eqb k EQ)) [
        | inl d ↦ rw (a, b, c, d) (ap (λ r. is_members (after_equals r)) (typed d))
        | inr d ↦ elim (cases_Bool (eqb k PIPE)) [
          | inl e ↦ rw (a, b, c, d, e) refl
          | inr e ↦ elim (cases_Bool (eqb k AMP))
              [ inl f ↦ rw (a, b, c, d, e, f) refl | inr f ↦ rw (a, b, c, d, e, f) refl ]
        ]
      ]
    ]
  ]
]

-- it stays where it may neither go nor be signed
pub one-stays : (s : Lead) (cs : List Choice) (a : Token) (rest : List Token) → goes_at s a.0 ≡ false
    → comes_at s a.0 ≡ false
    → is_members (step s a.0 a.1) ≡ false → Fit s cs (a ∷ rest) → Stays s cs (a ∷ []) rest
one-stays s [] a rest g c m fit = absurd fit
one-stays s (stays ∷ cs) a rest g c m fit =
    record { own = stays ∷ []; after = cs; split = refl; stay = (refl, tt); long = tt; left = fit.1; ready = m }
one-stays s (goes ∷ cs) a rest g c m fit = absurd (true≢false (sym fit.0 ∙ g))
one-stays s (signed ∷ cs) a rest g c m fit = absurd (true≢false (sym fit.0 ∙ c))

abbrev spelled_as : ℕ → ℕ
spelled_as k = cond (is_keyword k) IDENT k

not-sign : (k : ℕ) → is_plain k ≡ true → (eqb k PIPE ≡ false) × (eqb k AMP ≡ false)
not-sign k p =
    let q = or_parts (eqb k PIPE || eqb k AMP) (is_above k) (not-true _ p) in
    or_parts (eqb k PIPE) (eqb k AMP) q.0

spelled-plain : (k : ℕ) → is_plain k ≡ true → (eqb (spelled_as k) PIPE ≡ false) × (eqb (spelled_as k) AMP ≡ false)
spelled-plain k p = elim (cases_Bool (is_keyword k)) [ inl e ↦ rw e (refl, refl) | inr e ↦ rw e (not-sign k p) ]

spelled-equals : (k : ℕ) → eqb (spelled_as k) EQ ≡ true → eqb k EQ ≡ true
spelled-equals k h = elim (cases_Bool (is_keyword k))
    [ inl e ↦ (let no : false ≡ true = rw e at h in absurd (cc)) | inr e ↦ rw e at h ]

or-first : (a b : Bool) → a ≡ true → (a || b) ≡ true
or-first true b h = refl
or-first false b h = absurd (true≢false (sym h))

leaf-stays : (k : ℕ) (x : Text) (rest : List Token) (s : Lead) (cs : List Choice) → is_plain k ≡ true
    → is_members s ≡ false → (needs_type k ≡ true → s ≡ Typed)
    → Fit s cs (Yield (leaf k x) ++ rest) → Stays s cs (Yield (leaf k x)) rest
leaf-stays k x rest s cs p m typed fit = elim (cases_Bool (is_ignored k)) [
  | inl e ↦ (let there : Fit s cs rest = rw e at fit in rw e (no-tokens s cs rest m there))
  | inr e ↦
      let there : Fit s cs (spelled k x ∷ rest) = rw e at fit in
      let signs = spelled-plain k p in
      rw e (one-stays s cs (spelled k x) rest (goes-none s (spelled_as k) signs.0 signs.1)
      (comes-none s (spelled_as k) m)
      (step-ready s (spelled_as k) x (λ h. typed (or-first (eqb k EQ) (eqb k DEFAULT_VALUE) (spelled-equals k h))))
      there)
]

-- ---- trees

mutual
  pub tree-stays : (t : Tree) (rest : List Token) (s : Lead) (cs : List Choice) → Fits t → is_plain (root t) ≡ true
      → is_members s ≡ false
      → (needs_type (root t) ≡ true → s ≡ Typed) → Fit s cs (Yield t ++ rest) → Stays s cs (Yield t) rest
  tree-stays (leaf k x) rest s cs fits p m typed fit = leaf-stays k x rest s cs p m typed fit
  tree-stays (node k f) rest s cs fits p m typed fit =
      forest-stays f rest s cs fits.4 (all-plain k (kinds f) p (plain-passes k (kinds f) fits.0)) m
      (guarded k s f p typed fits.0 fits.4) fit

  pub forest-stays : (f : Forest) (rest : List Token) (s : Lead) (cs : List Choice) → AllFit f
      → list_all is_plain (kinds f) ≡ true → is_members s ≡ false
      → Guarded s f → Fit s cs (Yields f ++ rest) → Stays s cs (Yields f) rest
  forest-stays none rest s cs fits p m g fit = no-tokens s cs rest m fit
  forest-stays (t ▸ f) rest s cs fits p m g fit =
      let q = and_parts (is_plain (root t)) (list_all is_plain (kinds f)) p in
      let first = tree-stays t (Yields f ++ rest) s cs fits.0 q.0 m g.0
      (subst (Fit s cs) (append_assoc (Yield t) (Yields f) rest) fit) in
      more-tokens s cs (Yield t) (Yields f) rest first
      (forest-stays f rest (steps s (Yield t)) first.after fits.1 q.1 first.ready g.1 first.left)
