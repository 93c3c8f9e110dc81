-- Which nodes are below no node with members, and what comes after a type.
use Rattle.std.proofs.Common.{◌≡◌, ℕ, ◌⊎◌, inl, inr, Bool, true, false, not, eqb, leb, List, [], ◌∷◌, ◌++◌, refl, sym}
use Rattle.std.proofs.Common.{ap, ◌∙◌, subst, arith, append_assoc, eqb-true, leb-true, true≢false}
use Rattle.std.proofs.lemmas.Bool.{and_parts, and_from, cases_Bool, not-true}
use Rattle.std.specs.List.{list_all}
use Rattle.std.specs.Prelude.{◌&&◌, ◌||◌, IsTrue}
use Rattle.document_grammar.specs.Choices.{Types, Values}
use Rattle.document_grammar.specs.Derivation.{kinds, Yield, Yields, Fits, AllFit}
use Rattle.document_grammar.specs.Kinds.{BANG, AMP, COLON, EQ, L_BRACK, R_BRACK, PIPE, IDENT, DOCUMENT, NAME, VARIABLE}
use Rattle.document_grammar.specs.Kinds.{VARIABLE_DEFINITION, DEFAULT_VALUE, NAMED_TYPE, LIST_TYPE, NON_NULL_TYPE}
use Rattle.document_grammar.specs.Kinds.{DESCRIPTION, DIRECTIVES, OBJECT_TYPE_DEFINITION, INPUT_VALUE_DEFINITION}
use Rattle.document_grammar.specs.Kinds.{INTERFACE_TYPE_DEFINITION, UNION_TYPE_DEFINITION, DIRECTIVE_DEFINITION}
use Rattle.document_grammar.specs.Kinds.{OBJECT_TYPE_EXTENSION, INTERFACE_TYPE_EXTENSION, UNION_TYPE_EXTENSION}
use Rattle.document_grammar.specs.Pattern.{Pattern, any_of, ◌then◌, one, optional, member, Matches}
use Rattle.document_grammar.specs.Rows.{Row, children}
use Rattle.document_grammar.specs.Tree.{Text, Token, Tree, leaf, node, Forest, none, ◌▸◌, root}
use Rattle.format_layout.proofs.Plain.{steps, steps-append}
use Rattle.format_layout.proofs.Rows.{all_pass, rows_pass, row-passes, matched-pass, member-passes, no-row, no-leaf}
use Rattle.format_layout.proofs.Steps.{step}
use Rattle.format_layout.specs.Signs.{has_members}
use Rattle.format_layout.specs.declared.lead.Lead.{Lead}
use Rattle.format_layout.specs.declared.lead.Lead.TheVariants.{Colon, Typed}

-- ---- which nodes are plain

-- a document, a definition that may have members, or their node
abbrev pub is_above : ℕ → Bool
is_above k =
    eqb k DOCUMENT || has_members k || eqb k OBJECT_TYPE_DEFINITION || eqb k INTERFACE_TYPE_DEFINITION
    || eqb k UNION_TYPE_DEFINITION
    || eqb k DIRECTIVE_DEFINITION || eqb k OBJECT_TYPE_EXTENSION || eqb k INTERFACE_TYPE_EXTENSION
    || eqb k UNION_TYPE_EXTENSION

abbrev pub is_plain : ℕ → Bool
is_plain k = not (eqb k PIPE || eqb k AMP || is_above k)

-- what comes after a type
abbrev pub needs_type : ℕ → Bool
needs_type k = eqb k EQ || eqb k DEFAULT_VALUE

abbrev pub needs_none : ℕ → Bool
needs_none k = not (needs_type k)

-- it may have such children
abbrev has_typed : ℕ → Bool
has_typed k = eqb k DEFAULT_VALUE || eqb k VARIABLE_DEFINITION || eqb k INPUT_VALUE_DEFINITION

abbrev pub plain_row : ℕ → ℕ → Bool
plain_row k j = not (is_plain k) || (is_plain j && (needs_none j || has_typed k))

rows-plain : rows_pass plain_row children ≡ true
rows-plain = refl

pub plain-passes : (k : ℕ) (w : List ℕ) → Matches (Row k) w → list_all (plain_row k) w ≡ true
unfolding Row
plain-passes k w m = row-passes plain_row children k w rows-plain m

plain-child : (k j : ℕ) → is_plain k ≡ true → plain_row k j ≡ true
    → (is_plain j ≡ true) × (has_typed k ≡ false → needs_none j ≡ true)
plain-child k j p h =
    let both : (is_plain j && (needs_none j || has_typed k)) ≡ true = rw p at h in
    let q = and_parts (is_plain j) (needs_none j || has_typed k) both in
    (q.0, λ e. let r = q.1 in or-false (needs_none j) (has_typed k) r e)
  where
    or-false : (a b : Bool) → (a || b) ≡ true → b ≡ false → a ≡ true
    or-false true b h e = refl
    or-false false b h e = absurd (true≢false (sym h ∙ e))

pub all-plain : (k : ℕ) (w : List ℕ) → is_plain k ≡ true → list_all (plain_row k) w ≡ true → list_all is_plain w ≡ true
all-plain k [] p h = refl
all-plain k (j ∷ w) p h =
    let q = and_parts (plain_row k j) (list_all (plain_row k) w) h in
    and_from _ _ (plain-child k j p q.0).0 (all-plain k w p q.1)

all-none : (k : ℕ) (w : List ℕ) → is_plain k ≡ true → has_typed k ≡ false → list_all (plain_row k) w ≡ true
    → list_all needs_none w ≡ true
all-none k [] p e h = refl
all-none k (j ∷ w) p e h =
    let q = and_parts (plain_row k j) (list_all (plain_row k) w) h in
    and_from _ _ ((plain-child k j p q.0).1 e) (all-none k w p e q.1)

-- ---- what comes after a type

abbrev pub Guarded : Lead → Forest → Type 0
Guarded s none = Unit {0}
Guarded s (t ▸ f) = (needs_type (root t) ≡ true → s ≡ Typed) × Guarded (steps s (Yield t)) f

pub free-guarded : (s : Lead) (f : Forest) → list_all needs_none (kinds f) ≡ true → Guarded s f
free-guarded s none h = tt
free-guarded s (t ▸ f) h =
    let q = and_parts (needs_none (root t)) (list_all needs_none (kinds f)) h in
    (λ e. absurd (true≢false (sym e ∙ not-true _ q.0)), free-guarded (steps s (Yield t)) f q.1)

abbrev tail_pass : List ℕ → Bool
tail_pass [] = true
tail_pass (k ∷ w) = list_all needs_none w

first-guarded : (s : Lead) (f : Forest) → s ≡ Typed → tail_pass (kinds f) ≡ true → Guarded s f
first-guarded s none e h = tt
first-guarded s (t ▸ f) e h = (λ n. e, free-guarded (steps s (Yield t)) f h)

pub one-is : (k : ℕ) (w : List ℕ) → Matches (one k) w → w ≡ k ∷ []
unfolding member
one-is k w m = elim (cases_Bool (eqb k m.0)) [
  | inl e ↦ m.2 ∙ ap (λ n. n ∷ []) (sym (eqb-true k m.0 e))
  | inr e ↦ (let no : false ≡ true = rw e at m.1 in absurd (cc))
]

-- the first tree of some, and the others
pub record Head (f : Forest) (k : ℕ) (w : List ℕ) : Type 0 where
  pub tree : Tree
  pub more : Forest
  pub same : f ≡ tree ▸ more
  pub root_is : root tree ≡ k
  pub kinds_are : kinds more ≡ w

pub head-of : (f : Forest) (k : ℕ) (w : List ℕ) → kinds f ≡ k ∷ w → Head f k w
head-of none k w e = absurd (cc)
head-of (t ▸ f) k w e = record { tree = t; more = f; same = refl; root_is = (cc); kinds_are = (cc) }

pub nil-of : (f : Forest) → kinds f ≡ [] → f ≡ none
nil-of none e = refl
nil-of (t ▸ f) e = absurd (cc)

front-guarded : (q : Pattern) (s : Lead) (u v : List ℕ) (f : Forest) → kinds f ≡ u ++ v → list_all needs_none u ≡ true
    → Matches q v → AllFit f
    → ((r : Lead) (g : Forest) → Matches q (kinds g) → AllFit g → Guarded r g) → Guarded s f
front-guarded q s [] v f e h m fit next = next s f (subst (Matches q) (sym e) m) fit
front-guarded q s (k ∷ u) v none e h m fit next = absurd (cc)
front-guarded q s (k ∷ u) v (t ▸ f) e h m fit next =
    let p = and_parts (needs_none k) (list_all needs_none u) h in
    let at : root t ≡ k = cc in
    let rest : kinds f ≡ u ++ v = cc in (
      λ n. absurd (true≢false (sym n ∙ ap needs_type at ∙ not-true _ p.0)),
      front-guarded q (steps s (Yield t)) u v f rest p.1 m fit.1 next,
    )

then-guarded : (p q : Pattern) (s : Lead) (f : Forest) → all_pass needs_none p ≡ true
    → Matches (p then q) (kinds f) → AllFit f
    → ((r : Lead) (g : Forest) → Matches q (kinds g) → AllFit g → Guarded r g) → Guarded s f
then-guarded p q s f h m fit next = front-guarded q s m.0 m.1 f m.2 (matched-pass needs_none p m.0 h m.3) m.4 fit next

-- ---- types

-- a tree of a type's name has that name alone
pub record Named (t : Tree) : Type 0 where
  pub word : Text
  pub same : t ≡ node NAMED_TYPE (node NAME (leaf IDENT word ▸ none) ▸ none)

name-row : Row NAME ≡ one IDENT
unfolding Row
name-row = refl

named-row : Row NAMED_TYPE ≡ one NAME
unfolding Row
named-row = refl

ident-row : Row IDENT ≡ any_of []
unfolding Row
ident-row = refl

ident-leaf : (t : Tree) → Fits t → root t ≡ IDENT → (x : Text) × (t ≡ leaf IDENT x)
ident-leaf (leaf k x) fit e = (x, ap (λ n. leaf n x) e)
ident-leaf (node k f) fit e = absurd (no-row IDENT (kinds f) ident-row (subst (λ n. Matches (Row n) (kinds f)) e fit.0))

name-node : (t : Tree) → Fits t → root t ≡ NAME → (x : Text) × (t ≡ node NAME (leaf IDENT x ▸ none))
name-node (leaf k x) fit e = absurd (no-leaf k x (omega (arith, e)) fit)
name-node (node k f) fit e =
    let m = one-is IDENT (kinds f)
    (subst (λ p. Matches p (kinds f)) name-row (subst (λ n. Matches (Row n) (kinds f)) e fit.0)) in
    let h = head-of f IDENT [] m in
    let all : AllFit (h.tree ▸ h.more) = subst AllFit h.same fit.4 in
    let l = ident-leaf h.tree all.0 h.root_is in (
      l.0,
      ap (λ n. node n f) e
          ∙ ap (node NAME)
          (h.same ∙ ap (λ t. t ▸ h.more) l.1 ∙ ap (λ g. leaf IDENT l.0 ▸ g) (nil-of h.more h.kinds_are)),
    )

pub named-node : (t : Tree) → Fits t → root t ≡ NAMED_TYPE → Named t
named-node (leaf k x) fit e = absurd (no-leaf k x (omega (arith, e)) fit)
named-node (node k f) fit e =
    let m = one-is NAME (kinds f)
    (subst (λ p. Matches p (kinds f)) named-row (subst (λ n. Matches (Row n) (kinds f)) e fit.0)) in
    let h = head-of f NAME [] m in
    let all : AllFit (h.tree ▸ h.more) = subst AllFit h.same fit.4 in
    let l = name-node h.tree all.0 h.root_is in
    record {
      word = l.0;
      same = ap (λ n. node n f) e ∙ ap (node NAMED_TYPE) (h.same ∙ ap (λ t. t ▸ h.more) l.1
          ∙ ap (λ g. node NAME (leaf IDENT l.0 ▸ none) ▸ g) (nil-of h.more h.kinds_are));
    }

is-kind : (a b : ℕ) → eqb a b ≡ true → b ≡ a
is-kind a b e = sym (eqb-true a b e)

-- the leaf of a token that is no name
pub leaf-of : (k : ℕ) (t : Tree) → Row k ≡ any_of [] → Fits t → root t ≡ k → (x : Text) × (t ≡ leaf k x)
leaf-of k (leaf j x) e fit at = (x, ap (λ n. leaf n x) at)
leaf-of k (node j f) e fit at = absurd (no-row k (kinds f) e (subst (λ n. Matches (Row n) (kinds f)) at fit.0))

colon-row : Row COLON ≡ any_of []
unfolding Row
colon-row = refl

bracket-row : Row R_BRACK ≡ any_of []
unfolding Row
bracket-row = refl

bang-row : Row BANG ≡ any_of []
unfolding Row
bang-row = refl

list-row : Row LIST_TYPE ≡ (one L_BRACK then any_of Types then one R_BRACK)
unfolding Row
list-row = refl

non-null-row : Row NON_NULL_TYPE ≡ (any_of (NAMED_TYPE ∷ LIST_TYPE ∷ []) then one BANG)
unfolding Row
non-null-row = refl

-- some tokens, and then one after which a type has ended
ends-typed : (s : Lead) (xs : List Token) (k : ℕ) (x : Text) → ((r : Lead) → step r k x ≡ Typed)
    → steps s (xs ++ (k, x) ∷ []) ≡ Typed
ends-typed s xs k x h = steps-append s xs ((k, x) ∷ []) ∙ h (steps s xs)

list-typed : (s : Lead) (f : Forest) → Matches (one L_BRACK then any_of Types then one R_BRACK) (kinds f) → AllFit f
    → steps s (Yields f) ≡ Typed
list-typed s f m fit =
    let first = one-is L_BRACK m.0 m.3 in
    let last = one-is R_BRACK m.4.1 m.4.4 in
    let rest : m.1 ≡ m.4.3.0 ∷ R_BRACK ∷ [] = m.4.2 ∙ ap (λ l. l ++ m.4.1) m.4.3.2 ∙ ap (λ l. m.4.3.0 ∷ l) last in
    let e : kinds f ≡ L_BRACK ∷ m.4.3.0 ∷ R_BRACK ∷ [] = m.2 ∙ ap (λ l. l ++ m.1) first ∙ ap (λ l. L_BRACK ∷ l) rest in
    let a = head-of f L_BRACK (m.4.3.0 ∷ R_BRACK ∷ []) e in
    let b = head-of a.more m.4.3.0 (R_BRACK ∷ []) a.kinds_are in
    let c = head-of b.more R_BRACK [] b.kinds_are in
    let all : f ≡ a.tree ▸ b.tree ▸ c.tree ▸ none =
    a.same ∙ ap (λ g. a.tree ▸ g)
    (b.same ∙ ap (λ g. b.tree ▸ g) (c.same ∙ ap (λ g. c.tree ▸ g) (nil-of c.more c.kinds_are))) in
    let fits : AllFit (a.tree ▸ b.tree ▸ c.tree ▸ none) = subst AllFit all fit in
    let l = leaf-of R_BRACK c.tree bracket-row fits.1.1.0 c.root_is in
    ap (λ g. steps s (Yields g)) (all ∙ ap (λ t. a.tree ▸ b.tree ▸ t ▸ none) l.1)
    ∙ ap (λ ts. steps s ts) (sym (append_assoc (Yield a.tree) (Yield b.tree) ((R_BRACK, l.0) ∷ [])))
    ∙ ends-typed s (Yield a.tree ++ Yield b.tree) R_BRACK l.0 (λ r. refl)

non-null-typed : (s : Lead) (f : Forest) → Matches (any_of (NAMED_TYPE ∷ LIST_TYPE ∷ []) then one BANG) (kinds f)
    → AllFit f → steps s (Yields f) ≡ Typed
non-null-typed s f m fit =
    let last = one-is BANG m.1 m.4 in
    let e : kinds f ≡ m.3.0 ∷ BANG ∷ [] = m.2 ∙ ap (λ l. l ++ m.1) m.3.2 ∙ ap (λ l. m.3.0 ∷ l) last in
    let a = head-of f m.3.0 (BANG ∷ []) e in
    let b = head-of a.more BANG [] a.kinds_are in
    let all : f ≡ a.tree ▸ b.tree ▸ none =
    a.same ∙ ap (λ g. a.tree ▸ g) (b.same ∙ ap (λ g. b.tree ▸ g) (nil-of b.more b.kinds_are)) in
    let fits : AllFit (a.tree ▸ b.tree ▸ none) = subst AllFit all fit in
    let l = leaf-of BANG b.tree bang-row fits.1.0 b.root_is in
    ap (λ g. steps s (Yields g)) (all ∙ ap (λ t. a.tree ▸ t ▸ none) l.1)
    ∙ ends-typed s (Yield a.tree) BANG l.0 (λ r. refl)

types-nodes : list_all (λ k. leb DOCUMENT k) Types ≡ true
types-nodes = refl

node-typed : (k : ℕ) (f : Forest) → IsTrue (member k Types) → Fits (node k f) → steps Colon (Yields f) ≡ Typed
unfolding member
node-typed k f m fit = elim (cases_Bool (eqb NAMED_TYPE k)) [
  | inl e ↦ (let n = named-node (node k f) fit (is-kind NAMED_TYPE k e) in ap (λ t. steps Colon (Yield t)) n.same)
  | inr e ↦ elim (cases_Bool (eqb LIST_TYPE k)) [
    | inl d ↦ list-typed Colon f
        (subst (λ p. Matches p (kinds f)) list-row
        (subst (λ n. Matches (Row n) (kinds f)) (is-kind LIST_TYPE k d) fit.0)) fit.4
    | inr d ↦ elim (cases_Bool (eqb NON_NULL_TYPE k)) [
      | inl c ↦ non-null-typed Colon f
          (subst (λ p. Matches p (kinds f)) non-null-row
          (subst (λ n. Matches (Row n) (kinds f)) (is-kind NON_NULL_TYPE k c) fit.0)) fit.4
      | inr c ↦ (let no : false ≡ true = rw (e, d, c) at m in absurd (cc))
    ]
  ]
]

type-typed : (t : Tree) → Fits t → IsTrue (member (root t) Types) → steps Colon (Yield t) ≡ Typed
type-typed (leaf k x) fit m =
    absurd (no-leaf k x (leb-true DOCUMENT k (member-passes (λ n. leb DOCUMENT n) Types k types-nodes m)) fit)
type-typed (node k f) fit m = node-typed k f m fit

-- ---- rows in which something comes after a type

abbrev typed_tail : Pattern
typed_tail = one COLON then any_of Types then optional DEFAULT_VALUE then optional DIRECTIVES

optional-tail : (k : ℕ) (w : List ℕ) → Matches (optional k) w → (w ≡ k ∷ []) ⊎ (w ≡ [])
optional-tail k w m = elim m [ inl a ↦ inl (one-is k w a) | inr b ↦ inr b ]

tail-passes : (w : List ℕ) → Matches (optional DEFAULT_VALUE then optional DIRECTIVES) w → tail_pass w ≡ true
tail-passes w m =
    elim (optional-tail DEFAULT_VALUE m.0 m.3) [
      | inl a ↦ elim (optional-tail DIRECTIVES m.1 m.4) [
        | inl b ↦ ap tail_pass (m.2 ∙ ap (λ l. l ++ m.1) a ∙ ap (λ l. DEFAULT_VALUE ∷ l) b)
        | inr b ↦ ap tail_pass (m.2 ∙ ap (λ l. l ++ m.1) a ∙ ap (λ l. DEFAULT_VALUE ∷ l) b)
      ]
      | inr a ↦ elim (optional-tail DIRECTIVES m.1 m.4) [
        | inl b ↦ ap tail_pass (m.2 ∙ ap (λ l. l ++ m.1) a ∙ b)
        | inr b ↦ ap tail_pass (m.2 ∙ ap (λ l. l ++ m.1) a ∙ b)
      ]
    ]

types-free : list_all needs_none Types ≡ true
types-free = refl

tail-guarded : (s : Lead) (f : Forest) → Matches typed_tail (kinds f) → AllFit f → Guarded s f
tail-guarded s f m fit =
    let colon = one-is COLON m.0 m.3 in
    let type = m.4.3 in
    let e : kinds f ≡ COLON ∷ type.0 ∷ m.4.1 =
    m.2 ∙ ap (λ l. l ++ m.1) colon ∙ ap (λ l. COLON ∷ l) (m.4.2 ∙ ap (λ l. l ++ m.4.1) type.2) in
    let a = head-of f COLON (type.0 ∷ m.4.1) e in
    let b = head-of a.more type.0 m.4.1 a.kinds_are in
    let all : f ≡ a.tree ▸ b.tree ▸ b.more = a.same ∙ ap (λ g. a.tree ▸ g) b.same in
    let fits : AllFit (a.tree ▸ b.tree ▸ b.more) = subst AllFit all fit in
    let l = leaf-of COLON a.tree colon-row fits.0 a.root_is in
    let member_type : IsTrue (member (root b.tree) Types) =
    subst (λ n. IsTrue (member n Types)) (sym b.root_is) type.1 in
    let at : steps s (Yield a.tree) ≡ Colon = ap (λ t. steps s (Yield t)) l.1 in
    let typed : steps (steps s (Yield a.tree)) (Yield b.tree) ≡ Typed =
    ap (λ r. steps r (Yield b.tree)) at ∙ type-typed b.tree fits.1.0 member_type in
    let free : needs_none (root b.tree) ≡ true = member-passes needs_none Types (root b.tree) types-free member_type in
    subst (Guarded s) (sym all) (
      (λ n. absurd (true≢false (sym n ∙ ap needs_type a.root_is))),
      (
        (λ n. absurd (true≢false (sym n ∙ not-true _ free))),
        first-guarded (steps (steps s (Yield a.tree)) (Yield b.tree)) b.more typed
            (ap tail_pass b.kinds_are ∙ tail-passes m.4.1 m.4.4),
      ),
    )

variable-row : Row VARIABLE_DEFINITION ≡ (optional DESCRIPTION then one VARIABLE then typed_tail)
unfolding Row
variable-row = refl

input-row : Row INPUT_VALUE_DEFINITION ≡ (optional DESCRIPTION then one NAME then typed_tail)
unfolding Row
input-row = refl

default-row : Row DEFAULT_VALUE ≡ (one EQ then any_of Values)
unfolding Row
default-row = refl

values-free : list_all needs_none Values ≡ true
values-free = refl

value-guarded : (s : Lead) (f : Forest) → s ≡ Typed → Matches (one EQ then any_of Values) (kinds f) → Guarded s f
value-guarded s f typed m =
    let e : kinds f ≡ EQ ∷ m.4.0 ∷ [] = m.2 ∙ ap (λ l. l ++ m.1) (one-is EQ m.0 m.3) ∙ ap (λ l. EQ ∷ l) m.4.2 in
    first-guarded s f typed
    (ap tail_pass e ∙ and_from _ _ (member-passes needs_none Values m.4.0 values-free m.4.1) refl)

typed-guarded : (p : Pattern) (s : Lead) (f : Forest) → all_pass needs_none p ≡ true
    → Matches (optional DESCRIPTION then p then typed_tail) (kinds f)
    → AllFit f
    → Guarded s f
typed-guarded p s f h m fit =
    then-guarded (optional DESCRIPTION) (p then typed_tail) s f refl m fit
    (λ r g n fits. then-guarded p typed_tail r g h n fits tail-guarded)

-- what comes after a type is guarded below each plain node
pub guarded : (k : ℕ) (s : Lead) (f : Forest) → is_plain k ≡ true → (needs_type k ≡ true → s ≡ Typed)
    → Matches (Row k) (kinds f) → AllFit f → Guarded s f
guarded k s f p typed m fit = elim (cases_Bool (eqb k DEFAULT_VALUE)) [
  | inl e ↦ value-guarded s f (typed (or-second (eqb k EQ) (eqb k DEFAULT_VALUE) e))
      (subst (λ q. Matches q (kinds f)) default-row
      (subst (λ n. Matches (Row n) (kinds f)) (eqb-true k DEFAULT_VALUE e) m))
  | inr e ↦ elim (cases_Bool (eqb k VARIABLE_DEFINITION)) [
    | inl d ↦ typed-guarded (one VARIABLE) s f refl
        (subst (λ q. Matches q (kinds f)) variable-row
        (subst (λ n. Matches (Row n) (kinds f)) (eqb-true k VARIABLE_DEFINITION d) m)) fit
    | inr d ↦ elim (cases_Bool (eqb k INPUT_VALUE_DEFINITION)) [
      | inl c ↦ typed-guarded (one NAME) s f refl
          (subst (λ q. Matches q (kinds f)) input-row
          (subst (λ n. Matches (Row n) (kinds f)) (eqb-true k INPUT_VALUE_DEFINITION c) m)) fit
      | inr c ↦ free-guarded s f (all-none k (kinds f) p (rw (e, d, c) refl) (plain-passes k (kinds f) m))
    ]
  ]
]
  where
    or-second : (a b : Bool) → b ≡ true → (a || b) ≡ true
    or-second true b h = refl
    or-second false b h = h
