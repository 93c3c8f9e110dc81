-- The derivation of a document with optional signs left out and put in.
use Rattle.std.proofs.Common.{◌≡◌, ◌≢◌, ℕ, ◌<◌, ◌≤◌, inl, inr, Bool, true, false, cond, not, eqb, ltb, List, [], ◌∷◌}
use Rattle.std.proofs.Common.{◌++◌, refl, sym, ap, ◌∙◌, subst, append_assoc, append-nil, leb, true≢false, arith, eq-eqb}
use Rattle.std.proofs.Common.{eqb-true, ltb-true, leb-true}
use Rattle.std.proofs.lemmas.Bool.{and_parts, and_from, cases_Bool, not-true}
use Rattle.std.specs.List.{list_all}
use Rattle.std.specs.Prelude.{◌&&◌, ◌||◌, IsTrue, bytes_eq}
use Rattle.document_grammar.specs.Choices.{DirectiveLocations, is_ignored, is_keyword}
use Rattle.document_grammar.specs.Derivation.{kinds, Yield, Yields, LeafRule, Fits, AllFit, HasConstantDirectives}
use Rattle.document_grammar.specs.Derivation.{ConstantDirectives, Derivation, document, NoBlock, LacksBlock}
use Rattle.document_grammar.specs.Derivation.{StartsWithSelections, IsQuery, NotBefore, BraceRule, Braced}
use Rattle.document_grammar.specs.Kinds.{AMP, EQ, PIPE, IDENT, DOCUMENT, on_KW, implements_KW, NAME, NAMED_TYPE}
use Rattle.document_grammar.specs.Kinds.{FRAGMENT_NAME, ENUM_VALUE, DEFAULT_VALUE, DIRECTIVES, words}
use Rattle.document_grammar.specs.Kinds.{OBJECT_TYPE_DEFINITION, INTERFACE_TYPE_DEFINITION, UNION_TYPE_DEFINITION}
use Rattle.document_grammar.specs.Kinds.{DIRECTIVE_DEFINITION, OBJECT_TYPE_EXTENSION, INTERFACE_TYPE_EXTENSION}
use Rattle.document_grammar.specs.Kinds.{UNION_TYPE_EXTENSION, IMPLEMENTS_INTERFACES, UNION_MEMBER_TYPES}
use Rattle.document_grammar.specs.Kinds.{DIRECTIVE_LOCATIONS, DIRECTIVE_LOCATION}
use Rattle.document_grammar.specs.Pattern.{any_of, ◌then◌, one, member, Matches}
use Rattle.document_grammar.specs.Rows.{Row, children}
use Rattle.document_grammar.specs.Tree.{Text, Token, Tree, leaf, node, Forest, none, ◌▸◌, root}
use Rattle.format_layout.proofs.Chose.{Chose, chose-none, chose-after, chose-both}
use Rattle.format_layout.proofs.Guards.{is_plain, needs_none, named-node, leaf-of, one-is, head-of, nil-of}
use Rattle.format_layout.proofs.Members.{Member, AreMembers, members_row, members-listed, member-quiet, interface-quiet}
use Rattle.format_layout.proofs.Members.{pipe-sign, amp-sign, name-goes-not, one-there}
use Rattle.format_layout.proofs.Plain.{steps, is_members, marks-long}
use Rattle.format_layout.proofs.Rows.{rows_pass, row-passes, member-passes, listed-passes, no-leaf, low-row}
use Rattle.format_layout.proofs.Stays.{Stays, tree-stays, name-ready, comes-none}
use Rattle.format_layout.proofs.Steps.{goes_at, comes_at, Fit, AtMarks, pipe_token}
use Rattle.format_layout.specs.Chosen.{Choice, stays, goes, signed, chosen}
use Rattle.format_layout.specs.Leads.{after_equals, after_name, implements_text, on_text}
use Rattle.format_layout.specs.Signs.{has_members, all_marks, signs, unsigned, all_unsigned, without_first_sign}
use Rattle.format_layout.specs.declared.lead.Lead.{Lead}
use Rattle.format_layout.specs.declared.lead.Lead.TheVariants.{Colon, Typed, Members, Amp, Implements, On, Other}

-- ---- members

named : AreMembers (λ _. Unit {0}) NAMED_TYPE
named t fits e = let n = named-node t fits e in record {
  word = n.word;
  good = tt;
  kind = NAMED_TYPE;
  below = node NAME (leaf IDENT n.word ▸ none) ▸ none;
  same = n.same;
  spells = refl;
  marked = λ before. refl;
}

location-row : Row DIRECTIVE_LOCATION ≡ any_of DirectiveLocations
unfolding Row
location-row = refl

abbrev is_location : ℕ → Bool
is_location k = not (is_ignored k) && is_keyword k && ltb k DOCUMENT && not (eqb k on_KW)

locations-are : list_all is_location DirectiveLocations ≡ true
locations-are = refl

-- only the word `on` has its text
on-words : list_all (λ (w : ℕ × Text). eqb w.0 on_KW || not (bytes_eq w.1 on_text)) words ≡ true
unfolding words
on-words = refl

or-right : (a b : Bool) → (a || b) ≡ true → a ≡ false → b ≡ true
or-right true b h e = absurd (true≢false e)
or-right false b h e = h

location-member : (k : ℕ) (x : Text) → is_location k ≡ true → LeafRule k x
    → Member (λ y. bytes_eq y on_text ≡ false) (node DIRECTIVE_LOCATION (leaf k x ▸ none))
location-member k x h rule =
    let a = and_parts (not (is_ignored k) && is_keyword k && ltb k DOCUMENT) (not (eqb k on_KW)) h in
    let b = and_parts (not (is_ignored k) && is_keyword k) (ltb k DOCUMENT) a.0 in
    let c = and_parts (not (is_ignored k)) (is_keyword k) b.0 in
    let shown : is_ignored k ≡ false = not-true _ c.0 in
    let word : is_keyword k ≡ true = c.1 in
    let good : not (bytes_eq x on_text) ≡ true = or-right (eqb k on_KW) (not (bytes_eq x on_text))
    (listed-passes words (λ n y. eqb n on_KW || not (bytes_eq y on_text)) k x on-words (rule (keyword-above k word)))
    (not-true _ a.1) in
    record {
      word = x;
      good = not-true _ good;
      kind = DIRECTIVE_LOCATION;
      below = leaf k x ▸ none;
      same = refl;
      spells = rw (shown, word) refl;
      marked = λ before. rw shown refl;
    }
  where
    keyword-above : (k : ℕ) → is_keyword k ≡ true → 21 < k
    keyword-above k h = ltb-true 21 k h

pub locations : AreMembers (λ y. bytes_eq y on_text ≡ false) DIRECTIVE_LOCATION
locations (leaf k x) fits e = absurd (no-leaf k x (omega (arith, e)) fits)
locations (node k f) fits e =
    let m = subst (λ p. Matches p (kinds f)) location-row (subst (λ n. Matches (Row n) (kinds f)) e fits.0) in
    let h = head-of f m.0 [] m.2 in
    let is = member-passes is_location DirectiveLocations m.0 locations-are m.1 in
    let whole : f ≡ h.tree ▸ none = h.same ∙ ap (λ g. h.tree ▸ g) (nil-of h.more h.kinds_are) in
    let all : AllFit (h.tree ▸ none) = subst AllFit whole fits.4 in
    let l = leaf-of m.0 h.tree (low-row m.0 (below m.0 is)) all.0 h.root_is in
    let rule : LeafRule m.0 l.0 = subst Fits l.1 all.0 in
    subst (Member (λ y. bytes_eq y on_text ≡ false))
    (sym (ap (λ n. node n f) e ∙ ap (node DIRECTIVE_LOCATION) (whole ∙ ap (λ t. t ▸ none) l.1)))
    (location-member m.0 l.0 is rule)
  where
    below : (k : ℕ) → is_location k ≡ true → k < DOCUMENT
    below k h = ltb-true k DOCUMENT (and_parts (not (is_ignored k) && is_keyword k) (ltb k DOCUMENT)
        (and_parts (not (is_ignored k) && is_keyword k && ltb k DOCUMENT) (not (eqb k on_KW)) h).0).1

-- ---- trees

-- the same kind with the same kinds of children, where it is a node
abbrev pub SameOutline : Tree → Tree → Type 0
SameOutline (leaf k x) (leaf j y) = Unit {0}
SameOutline (leaf k x) (node j g) = ⊥
SameOutline (node k f) (leaf j y) = ⊥
SameOutline (node k f) (node j g) = (k ≡ j) × (kinds f ≡ kinds g)

same-outline : (t : Tree) → SameOutline t t
same-outline (leaf k x) = tt
same-outline (node k f) = (refl, refl)

-- The tree with the signs that the choices leave or put in.
pub record Resigned (s : Lead) (cs : List Choice) (t : Tree) (rest : List Token) : Type 0 where
  pub tree : Tree
  pub chose : Chose s cs (Yield t) (Yield tree) (signs t) (signs tree) rest
  pub same_root : root tree ≡ root t
  pub fits : Fits tree
  pub bare : unsigned tree ≡ unsigned t
  pub calm : is_plain (root t) ≡ true → tree ≡ t
  pub outline : has_members (root t) ≡ false → SameOutline t tree

-- where all tokens stay
plain-resigned : (t : Tree) (rest : List Token) (s : Lead) (cs : List Choice) → Fits t → Stays s cs (Yield t) rest
    → Resigned s cs t rest
plain-resigned t rest s cs fits r = record {
  tree = t;
  chose = chose-none s cs (Yield t) rest (signs t) r (marks-long false t r.own r.long);
  same_root = refl;
  fits = fits;
  bare = refl;
  calm = λ h. refl;
  outline = λ h. same-outline t;
}

not-kind : (k j : ℕ) → eqb k j ≡ false → k ≢ j
not-kind k j h e = true≢false (sym (eq-eqb k j e) ∙ h)

-- a node of a kind that no other rule speaks of
above-fits : (k : ℕ) (f : Forest) → eqb k FRAGMENT_NAME ≡ false → eqb k ENUM_VALUE ≡ false → eqb k DEFAULT_VALUE ≡ false
    → eqb k DOCUMENT ≡ false
    → Matches (Row k) (kinds f) → (IsTrue (member k HasConstantDirectives) → ConstantDirectives f)
    → AllFit f → Fits (node k f)
above-fits k f a b c d row constant fits = (
  row,
  (λ e. absurd (not-kind k FRAGMENT_NAME a e), λ e. absurd (not-kind k ENUM_VALUE b e)),
  (λ e. absurd (not-kind k DEFAULT_VALUE c e), constant),
  λ e. absurd (not-kind k DOCUMENT d e),
  fits,
)

not-constant : (k : ℕ) (f : Forest) → member k HasConstantDirectives ≡ false → IsTrue (member k HasConstantDirectives)
    → ConstantDirectives f
not-constant k f h m = absurd (true≢false (sym m ∙ h))

union-row : Row UNION_MEMBER_TYPES ≡ (one EQ then members_row PIPE NAMED_TYPE)
unfolding Row
union-row = refl

equals-row : Row EQ ≡ any_of []
unfolding Row
equals-row = refl

interfaces-row : Row IMPLEMENTS_INTERFACES ≡ (one implements_KW then members_row AMP NAMED_TYPE)
unfolding Row
interfaces-row = refl

locations-row : Row DIRECTIVE_LOCATIONS ≡ members_row PIPE DIRECTIVE_LOCATION
unfolding Row
locations-row = refl

constant-union : member UNION_MEMBER_TYPES HasConstantDirectives ≡ false
unfolding member
constant-union = refl

constant-interfaces : member IMPLEMENTS_INTERFACES HasConstantDirectives ≡ false
unfolding member
constant-interfaces = refl

constant-locations : member DIRECTIVE_LOCATIONS HasConstantDirectives ≡ false
unfolding member
constant-locations = refl

equals-quiet : (s : Lead) (x : Text) → goes_at (after_name (after_equals s) x) PIPE ≡ false
equals-quiet Typed x = (member-quiet x).0
equals-quiet _ x = (member-quiet x).0

union-first : (s : Lead) (k : ℕ) → eqb k IDENT ≡ false → eqb k PIPE ≡ false → eqb k AMP ≡ false
    → (goes_at s k ≡ false) × (comes_at s k ≡ false)
union-first Members k i p a = (p, i)
union-first On k i p a = (p, refl)
union-first Implements k i p a = (a, refl)
union-first _ k i p a = (refl, refl)

union-resigned : (x : Text) (g : Forest) (rest : List Token) (s : Lead) (cs : List Choice)
    → Matches (members_row PIPE NAMED_TYPE) (kinds g)
    → AllFit (leaf EQ x ▸ g)
    → Fit s cs ((EQ, x) ∷ (Yields g ++ rest)) → Resigned s cs (node UNION_MEMBER_TYPES (leaf EQ x ▸ g)) rest
union-resigned x g rest s [] row fits fit = absurd fit
union-resigned x g rest s (goes ∷ cs) row fits fit =
    absurd (true≢false (sym fit.0 ∙ (union-first s EQ refl refl refl).0))
union-resigned x g rest s (signed ∷ cs) row fits fit =
    absurd (true≢false (sym fit.0 ∙ (union-first s EQ refl refl refl).1))
union-resigned x g rest s (stays ∷ cs) row fits fit =
    let l = members-listed PIPE NAMED_TYPE pipe-sign named g rest (after_equals s) cs row fits.1
    (λ y _. equals-quiet s y) (λ _. refl) fit.1 in
    record {
      tree = node UNION_MEMBER_TYPES (leaf EQ x ▸ l.forest);
      chose = chose-after s cs (EQ, x) (Yields g) (Yields l.forest) (all_marks true g) (all_marks true l.forest)
          rest l.chose;
      same_root = refl;
      fits = above-fits UNION_MEMBER_TYPES (leaf EQ x ▸ l.forest) refl refl refl refl
          (subst (λ p. Matches p (EQ ∷ kinds l.forest)) (sym union-row)
          (EQ ∷ [], kinds l.forest, refl, one-there EQ, l.row))
          (not-constant UNION_MEMBER_TYPES (leaf EQ x ▸ l.forest) constant-union) (fits.0, l.fits);
      bare = ap (λ h. node UNION_MEMBER_TYPES (leaf EQ x ▸ h)) l.bare;
      calm = λ h. absurd (true≢false (sym h));
      outline = λ h. absurd (true≢false h);
    }

-- the word `implements` has its text
implements-words : list_all
    (λ (w : ℕ × Text). not (eqb w.0 implements_KW) || (bytes_eq w.1 implements_text && not (bytes_eq w.1 on_text)))
    words ≡ true
unfolding words
implements-words = refl

implements-is : (x : Text) → LeafRule implements_KW x
    → (bytes_eq x implements_text ≡ true) × (bytes_eq x on_text ≡ false)
implements-is x rule =
    let h = listed-passes words
    (λ n y. not (eqb n implements_KW) || (bytes_eq y implements_text && not (bytes_eq y on_text))) implements_KW
    x implements-words
    (rule (omega arith)) in
    let q = and_parts (bytes_eq x implements_text) (not (bytes_eq x on_text)) h in
    (q.0, not-true _ q.1)

word-quiet : (s : Lead) (x y : Text) → bytes_eq x implements_text ≡ true → bytes_eq x on_text ≡ false
    → goes_at (after_name (after_name s x) y) AMP ≡ false
word-quiet Colon x y e d = interface-quiet y
word-quiet On x y e d = rw (d, e) (interface-quiet y)
word-quiet Other x y e d = rw (d, e) (interface-quiet y)
word-quiet Amp x y e d = rw (d, e) (interface-quiet y)
word-quiet Implements x y e d = rw (d, e) (interface-quiet y)
word-quiet Typed x y e d = rw (d, e) (interface-quiet y)
word-quiet _ x y e d = rw e (interface-quiet y)

interfaces-resigned : (x : Text) (g : Forest) (rest : List Token) (s : Lead) (cs : List Choice) → is_members s ≡ false
    → Matches (members_row AMP NAMED_TYPE) (kinds g) → AllFit (leaf implements_KW x ▸ g)
    → Fit s cs ((IDENT, x) ∷ (Yields g ++ rest))
    → Resigned s cs (node IMPLEMENTS_INTERFACES (leaf implements_KW x ▸ g)) rest
interfaces-resigned x g rest s [] m row fits fit = absurd fit
interfaces-resigned x g rest s (goes ∷ cs) m row fits fit = absurd (true≢false (sym fit.0 ∙ name-goes-not s))
interfaces-resigned x g rest s (signed ∷ cs) m row fits fit = absurd (true≢false (sym fit.0 ∙ comes-none s IDENT m))
interfaces-resigned x g rest s (stays ∷ cs) m row fits fit =
    let is = implements-is x fits.0 in
    let l = members-listed AMP NAMED_TYPE amp-sign named g rest (after_name s x) cs row fits.1
    (λ y _. word-quiet s x y is.0 is.1)
    (λ h. absurd (true≢false (sym h ∙ comes-none (after_name s x) IDENT (name-ready s x)))) fit.1 in
    record {
      tree = node IMPLEMENTS_INTERFACES (leaf implements_KW x ▸ l.forest);
      chose = chose-after s cs (IDENT, x) (Yields g) (Yields l.forest) (all_marks true g) (all_marks true l.forest)
          rest l.chose;
      same_root = refl;
      fits = above-fits IMPLEMENTS_INTERFACES (leaf implements_KW x ▸ l.forest) refl refl refl refl
          (subst (λ p. Matches p (implements_KW ∷ kinds l.forest)) (sym interfaces-row)
          (implements_KW ∷ [], kinds l.forest, refl, one-there implements_KW, l.row))
          (not-constant IMPLEMENTS_INTERFACES (leaf implements_KW x ▸ l.forest) constant-interfaces) (fits.0, l.fits);
      bare = ap (λ h. node IMPLEMENTS_INTERFACES (leaf implements_KW x ▸ h)) l.bare;
      calm = λ h. absurd (true≢false (sym h));
      outline = λ h. absurd (true≢false h);
    }

word-no-pipe : (x : Text) → goes_at (cond (bytes_eq x implements_text) Implements Other) PIPE ≡ false
word-no-pipe x = elim (cases_Bool (bytes_eq x implements_text)) [ inl e ↦ rw e refl | inr e ↦ rw e refl ]

location-quiet : (s : Lead) (x : Text) → bytes_eq x on_text ≡ false → goes_at (after_name s x) PIPE ≡ false
location-quiet Colon x d = refl
location-quiet On x d = rw d (word-no-pipe x)
location-quiet Other x d = rw d (word-no-pipe x)
location-quiet Amp x d = rw d (member-quiet x).0
location-quiet Implements x d = rw d (member-quiet x).0
location-quiet Typed x d = rw d (member-quiet x).0
location-quiet _ x d = (member-quiet x).0

locations-resigned : (g : Forest) (rest : List Token) (s : Lead) (cs : List Choice) → is_members s ≡ false
    → Matches (members_row PIPE DIRECTIVE_LOCATION) (kinds g) → AllFit g → Fit s cs (Yields g ++ rest)
    → Resigned s cs (node DIRECTIVE_LOCATIONS g) rest
locations-resigned g rest s cs m row fits fit =
    let l = members-listed PIPE DIRECTIVE_LOCATION pipe-sign locations g rest s cs row fits
    (λ y d. location-quiet s y d) (λ _. refl) fit in
    record {
      tree = node DIRECTIVE_LOCATIONS l.forest;
      chose = l.chose;
      same_root = refl;
      fits = above-fits DIRECTIVE_LOCATIONS l.forest refl refl refl refl
          (subst (λ p. Matches p (kinds l.forest)) (sym locations-row) l.row)
          (not-constant DIRECTIVE_LOCATIONS l.forest constant-locations) l.fits;
      bare = ap (node DIRECTIVE_LOCATIONS) l.bare;
      calm = λ h. absurd (true≢false (sym h));
      outline = λ h. absurd (true≢false h);
    }

front-of : (k : ℕ) (w : List ℕ) (member : ℕ) (sign : ℕ) → Matches (one k then members_row sign member) w
    → (v : List ℕ) × (w ≡ k ∷ v) × Matches (members_row sign member) v
front-of k w member sign m = (m.1, m.2 ∙ ap (λ l. l ++ m.1) (one-is k m.0 m.3), m.4)

keyword-leaf : (t : Tree) → Fits t → root t ≡ implements_KW → (x : Text) × (t ≡ leaf implements_KW x)
keyword-leaf t fits e = leaf-of implements_KW t (low-row implements_KW (omega arith)) fits e

union-node : (f : Forest) (rest : List Token) (s : Lead) (cs : List Choice)
    → Matches (Row UNION_MEMBER_TYPES) (kinds f) → AllFit f
    → Fit s cs (Yields f ++ rest) → Resigned s cs (node UNION_MEMBER_TYPES f) rest
union-node f rest s cs row fits fit =
    let m = front-of EQ (kinds f) NAMED_TYPE PIPE (subst (λ p. Matches p (kinds f)) union-row row) in
    let h = head-of f EQ m.0 m.1 in
    let all : AllFit (h.tree ▸ h.more) = subst AllFit h.same fits in
    let l = leaf-of EQ h.tree equals-row all.0 h.root_is in
    let whole : f ≡ leaf EQ l.0 ▸ h.more = h.same ∙ ap (λ t. t ▸ h.more) l.1 in
    subst (λ g. Resigned s cs (node UNION_MEMBER_TYPES g) rest) (sym whole)
    (union-resigned l.0 h.more rest s cs (subst (Matches (members_row PIPE NAMED_TYPE)) (sym h.kinds_are) m.2)
    (subst AllFit whole fits)
    (subst (λ g. Fit s cs (Yields g ++ rest)) whole fit))

interfaces-node : (f : Forest) (rest : List Token) (s : Lead) (cs : List Choice) → is_members s ≡ false
    → Matches (Row IMPLEMENTS_INTERFACES) (kinds f)
    → AllFit f
    → Fit s cs (Yields f ++ rest) → Resigned s cs (node IMPLEMENTS_INTERFACES f) rest
interfaces-node f rest s cs ready row fits fit =
    let m = front-of implements_KW (kinds f) NAMED_TYPE AMP (subst (λ p. Matches p (kinds f)) interfaces-row row) in
    let h = head-of f implements_KW m.0 m.1 in
    let all : AllFit (h.tree ▸ h.more) = subst AllFit h.same fits in
    let l = keyword-leaf h.tree all.0 h.root_is in
    let whole : f ≡ leaf implements_KW l.0 ▸ h.more = h.same ∙ ap (λ t. t ▸ h.more) l.1 in
    subst (λ g. Resigned s cs (node IMPLEMENTS_INTERFACES g) rest) (sym whole)
    (interfaces-resigned l.0 h.more rest s cs ready (subst (Matches (members_row AMP NAMED_TYPE)) (sym h.kinds_are) m.2)
    (subst AllFit whole fits)
    (subst (λ g. Fit s cs (Yields g ++ rest)) whole fit))

-- any node with members
members-resigned : (t : Tree) (rest : List Token) (s : Lead) (cs : List Choice) → Fits t → has_members (root t) ≡ true
    → is_members s ≡ false
    → Fit s cs (Yield t ++ rest) → Resigned s cs t rest
members-resigned (leaf k x) rest s cs fits h m fit = absurd (no-leaf k x (members-node k h) fits)
  where
    members-node : (k : ℕ) → has_members k ≡ true → DOCUMENT ≤ k
    members-node k h = elim (cases_Bool (eqb k IMPLEMENTS_INTERFACES)) [
      | inl e ↦ (let at : k ≡ IMPLEMENTS_INTERFACES = eqb-true k IMPLEMENTS_INTERFACES e in omega arith)
      | inr e ↦ elim (cases_Bool (eqb k UNION_MEMBER_TYPES)) [
        | inl d ↦ (let at : k ≡ UNION_MEMBER_TYPES = eqb-true k UNION_MEMBER_TYPES d in omega arith)
        | inr d ↦
            let c : eqb k DIRECTIVE_LOCATIONS ≡ true = rw (e, d) at h in
            let at : k ≡ DIRECTIVE_LOCATIONS = eqb-true k DIRECTIVE_LOCATIONS c in
            omega arith
      ]
    ]
members-resigned (node k f) rest s cs fits h m fit = elim (cases_Bool (eqb k IMPLEMENTS_INTERFACES)) [
  | inl e ↦ (let at : IMPLEMENTS_INTERFACES ≡ k = sym (eqb-true k IMPLEMENTS_INTERFACES e) in
      subst (λ n. Resigned s cs (node n f) rest) at
      (interfaces-node f rest s cs m (subst (λ n. Matches (Row n) (kinds f)) (sym at) fits.0) fits.4 fit))
  | inr e ↦ elim (cases_Bool (eqb k UNION_MEMBER_TYPES)) [
    | inl d ↦ (let at : UNION_MEMBER_TYPES ≡ k = sym (eqb-true k UNION_MEMBER_TYPES d) in
        subst (λ n. Resigned s cs (node n f) rest) at
        (union-node f rest s cs (subst (λ n. Matches (Row n) (kinds f)) (sym at) fits.0) fits.4 fit))
    | inr d ↦
        let c : eqb k DIRECTIVE_LOCATIONS ≡ true = rw (e, d) at h in
        let at : DIRECTIVE_LOCATIONS ≡ k = sym (eqb-true k DIRECTIVE_LOCATIONS c) in
        subst (λ n. Resigned s cs (node n f) rest) at
        (locations-resigned f rest s cs m
        (subst (λ p. Matches p (kinds f)) locations-row (subst (λ n. Matches (Row n) (kinds f)) (sym at) fits.0))
        fits.4 fit)
  ]
]

-- ---- lists of trees

abbrev pub Outlines : Forest → Forest → Type 0
Outlines none none = Unit {0}
Outlines none (u ▸ g) = ⊥
Outlines (t ▸ f) none = ⊥
Outlines (t ▸ f) (u ▸ g) = SameOutline t u × Outlines f g

abbrev no_members : ℕ → Bool
no_members k = not (has_members k)

pub record AllResigned (s : Lead) (cs : List Choice) (f : Forest) (rest : List Token) : Type 0 where
  pub forest : Forest
  pub chose : Chose s cs (Yields f) (Yields forest) (all_marks false f) (all_marks false forest) rest
  pub same_kinds : kinds forest ≡ kinds f
  pub fits : AllFit forest
  pub bare : all_unsigned forest ≡ all_unsigned f
  pub constant : ConstantDirectives f → ConstantDirectives forest
  pub outlines : list_all no_members (kinds f) ≡ true → Outlines f forest

abbrev Resigns : (ℕ → Bool) → Type 0
Resigns ok = (t : Tree) (rest : List Token) (s : Lead) (cs : List Choice) → Fits t → ok (root t) ≡ true
    → is_members s ≡ false
    → Fit s cs (Yield t ++ rest) → Resigned s cs t rest

directives-plain : is_plain DIRECTIVES ≡ true
directives-plain = refl

all-resigned : (ok : ℕ → Bool) → Resigns ok → (f : Forest) (rest : List Token) (s : Lead) (cs : List Choice) → AllFit f
    → list_all ok (kinds f) ≡ true
    → is_members s ≡ false → Fit s cs (Yields f ++ rest) → AllResigned s cs f rest
all-resigned ok one none rest s cs fits h m fit = record {
  forest = none;
  chose = record {
    own = [];
    after = cs;
    split = refl;
    long = tt;
    written = refl;
    marked = refl;
    at = tt;
    left = fit;
    ready = m;
  };
  same_kinds = refl;
  fits = tt;
  bare = refl;
  constant = λ c. tt;
  outlines = λ o. tt;
}
all-resigned ok one (t ▸ f) rest s cs fits h m fit =
    let q = and_parts (ok (root t)) (list_all ok (kinds f)) h in
    let a = one t (Yields f ++ rest) s cs fits.0 q.0 m
    (subst (Fit s cs) (append_assoc (Yield t) (Yields f) rest) fit) in
    let b = all-resigned ok one f rest (steps s (Yield t)) a.chose.after fits.1 q.1 a.chose.ready a.chose.left in
    record {
      forest = a.tree ▸ b.forest;
      chose = chose-both s cs (Yield t) (Yield a.tree) (Yields f) (Yields b.forest) (signs t) (signs a.tree)
          (all_marks false f) (all_marks false b.forest) rest
          a.chose b.chose;
      same_kinds = ap (λ k. k ∷ kinds b.forest) a.same_root ∙ ap (λ l. root t ∷ l) b.same_kinds;
      fits = (a.fits, b.fits);
      bare = ap (λ u. u ▸ all_unsigned b.forest) a.bare ∙ ap (λ g. unsigned t ▸ g) b.bare;
      constant = λ c. (
        λ e.
            let at : root t ≡ DIRECTIVES = sym a.same_root ∙ e in
            let same : a.tree ≡ t = a.calm (ap is_plain at ∙ directives-plain) in
            rw same (c.0 at),
        b.constant c.1,
      );
      outlines = λ o. let p = and_parts (no_members (root t)) (list_all no_members (kinds f)) o in
          (a.outline (not-true _ p.0), b.outlines p.1);
    }

-- ---- definitions

-- those that may have members
abbrev Signable : List ℕ
Signable =
    OBJECT_TYPE_DEFINITION
    ∷ INTERFACE_TYPE_DEFINITION
    ∷ UNION_TYPE_DEFINITION
    ∷ DIRECTIVE_DEFINITION
    ∷ OBJECT_TYPE_EXTENSION
    ∷ INTERFACE_TYPE_EXTENSION
    ∷ UNION_TYPE_EXTENSION
    ∷ []

-- a node with members, or one that is below none
abbrev is_part : ℕ → Bool
is_part j = has_members j || (is_plain j && needs_none j)

abbrev definition_row : ℕ → ℕ → Bool
definition_row k j = not (member k Signable) || is_part j

abbrev is_definition : ℕ → Bool
is_definition j = member j Signable || (is_plain j && needs_none j)

abbrev document_row : ℕ → ℕ → Bool
document_row k j = not (eqb k DOCUMENT) || (is_definition j && no_members j)

rows-definitions : rows_pass definition_row children ≡ true
unfolding member
rows-definitions = refl

rows-document : rows_pass document_row children ≡ true
unfolding member
rows-document = refl

-- no other rule speaks of these
abbrev is_quiet : ℕ → Bool
is_quiet k =
    list_all (λ j. not (eqb k j)) (FRAGMENT_NAME ∷ ENUM_VALUE ∷ DEFAULT_VALUE ∷ DOCUMENT ∷ [])
    && (no_members k && (not (is_plain k) && leb DOCUMENT k))

signable-quiet : list_all is_quiet Signable ≡ true
signable-quiet = refl

record Quiet (k : ℕ) : Type 0 where
  fragment : eqb k FRAGMENT_NAME ≡ false
  enum : eqb k ENUM_VALUE ≡ false
  default : eqb k DEFAULT_VALUE ≡ false
  document : eqb k DOCUMENT ≡ false
  members : has_members k ≡ false
  plain : is_plain k ≡ false
  node : DOCUMENT ≤ k

quiet-of : (k : ℕ) → is_quiet k ≡ true → Quiet k
quiet-of k h =
    let others = and_parts _ _ h in
    let rest = and_parts _ _ others.1 in
    let last = and_parts _ _ rest.1 in
    let fragment = and_parts _ _ others.0 in
    let enum = and_parts _ _ fragment.1 in
    let default = and_parts _ _ enum.1 in
    let document = and_parts _ _ default.1 in
    record {
      fragment = not-true _ fragment.0;
      enum = not-true _ enum.0;
      default = not-true _ default.0;
      document = not-true _ document.0;
      members = not-true _ rest.0;
      plain = not-true _ last.0;
      node = leb-true DOCUMENT k last.1;
    }

-- a test that holds of all children where it is asked of them
all-asked : (asked : Bool) (t : ℕ → Bool) (w : List ℕ) → asked ≡ true
    → list_all (λ j. not asked || t j) w ≡ true → list_all t w ≡ true
all-asked asked t w e h = rw e at h

plain-part : (t : Tree) (rest : List Token) (s : Lead) (cs : List Choice) → Fits t
    → (is_plain (root t) && needs_none (root t)) ≡ true → is_members s ≡ false
    → Fit s cs (Yield t ++ rest) → Resigned s cs t rest
plain-part t rest s cs fits h m fit =
    let q = and_parts (is_plain (root t)) (needs_none (root t)) h in
    plain-resigned t rest s cs fits
    (tree-stays t rest s cs fits q.0 m (λ e. absurd (true≢false (sym e ∙ not-true _ q.1))) fit)

part-resigned : Resigns is_part
part-resigned t rest s cs fits h m fit = elim (cases_Bool (has_members (root t))) [
  | inl e ↦ members-resigned t rest s cs fits e m fit
  | inr e ↦ plain-part t rest s cs fits (or-right (has_members (root t)) (is_plain (root t) && needs_none (root t)) h e)
      m fit
]

parts-are : (k : ℕ) (w : List ℕ) → member k Signable ≡ true → Matches (Row k) w → list_all is_part w ≡ true
unfolding Row
parts-are k w e m = all-asked (member k Signable) is_part w e
    (row-passes definition_row children k w rows-definitions m)

signable-node : (k : ℕ) (f : Forest) (rest : List Token) (s : Lead) (cs : List Choice) → Quiet k → Fits (node k f)
    → list_all is_part (kinds f) ≡ true
    → is_members s ≡ false → Fit s cs (Yields f ++ rest) → Resigned s cs (node k f) rest
signable-node k f rest s cs q fits h m fit =
    let r = all-resigned is_part part-resigned f rest s cs fits.4 h m fit in
    record {
      tree = node k r.forest;
      chose = subst (λ b. Chose s cs (Yields f) (Yields r.forest) (all_marks b f) (all_marks b r.forest) rest)
          (sym q.members) r.chose;
      same_root = refl;
      fits = above-fits k r.forest q.fragment q.enum q.default q.document
          (subst (Matches (Row k)) (sym r.same_kinds) fits.0)
          (λ c. r.constant (fits.2.1 c)) r.fits;
      bare = ap (λ g. node k (cond (has_members k) (without_first_sign g) g)) r.bare;
      calm = λ e. absurd (true≢false (sym e ∙ q.plain));
      outline = λ e. (refl, sym r.same_kinds);
    }

signable-resigned : (t : Tree) (rest : List Token) (s : Lead) (cs : List Choice) → Fits t
    → member (root t) Signable ≡ true → is_members s ≡ false
    → Fit s cs (Yield t ++ rest) → Resigned s cs t rest
signable-resigned (leaf k x) rest s cs fits e m fit =
    absurd (no-leaf k x (quiet-of k (member-passes is_quiet Signable k signable-quiet e)).node fits)
signable-resigned (node k f) rest s cs fits e m fit =
    signable-node k f rest s cs (quiet-of k (member-passes is_quiet Signable k signable-quiet e)) fits
    (parts-are k (kinds f) e fits.0) m fit

definition-resigned : Resigns is_definition
definition-resigned t rest s cs fits h m fit = elim (cases_Bool (member (root t) Signable)) [
  | inl e ↦ signable-resigned t rest s cs fits e m fit
  | inr e ↦ plain-part t rest s cs fits
      (or-right (member (root t) Signable) (is_plain (root t) && needs_none (root t)) h e) m fit
]

-- ---- the document

no-block : (f g : Forest) → kinds f ≡ kinds g → NoBlock g → NoBlock f
no-block none g e h = tt
no-block (t ▸ f) none e h = absurd (cc)
no-block (t ▸ f) (u ▸ g) e h =
    let first : root t ≡ root u = cc in
    let others : kinds f ≡ kinds g = cc in
    (rw first h.0, no-block f g others h.1)

lacks-block : (t u : Tree) → SameOutline t u → LacksBlock u → LacksBlock t
lacks-block (leaf k x) (leaf j y) a h = h
lacks-block (leaf k x) (node j g) a h = absurd a
lacks-block (node k f) (leaf j y) a h = absurd a
lacks-block (node k f) (node j g) a h = (subst (λ n. IsTrue (member n Braced)) (sym a.0) h.0, no-block f g a.1 h.1)

starts-so : (f g : Forest) → kinds f ≡ kinds g → StartsWithSelections g → StartsWithSelections f
starts-so none none e h = h
starts-so none (u ▸ g) e h = absurd (cc)
starts-so (t ▸ f) none e h = absurd h
starts-so (t ▸ f) (u ▸ g) e h = let first : root t ≡ root u = cc in first ∙ h

is-query : (t u : Tree) → SameOutline t u → IsQuery u → IsQuery t
is-query (leaf k x) (leaf j y) a h = h
is-query (leaf k x) (node j g) a h = absurd a
is-query (node k f) (leaf j y) a h = absurd a
is-query (node k f) (node j g) a h = (a.0 ∙ h.0, starts-so f g a.1 h.1)

not-before : (t u : Tree) (f g : Forest) → SameOutline t u → Outlines f g → NotBefore t f → NotBefore u g
not-before t u none none b a h = tt
not-before t u none (v ▸ g) b a h = absurd a
not-before t u (s ▸ f) none b a h = absurd a
not-before t u (s ▸ f) (v ▸ g) b a h = λ l q. h (lacks-block t u b l) (is-query s v a.0 q)

brace-rule : (f g : Forest) → Outlines f g → BraceRule f → BraceRule g
brace-rule none none a h = tt
brace-rule none (u ▸ g) a h = absurd a
brace-rule (t ▸ f) none a h = absurd a
brace-rule (t ▸ f) (u ▸ g) a h = (not-before t u f g a.0 a.1 h.0, brace-rule f g a.1 h.1)

-- the derivation with the signs that the choices leave and put in
pub record Redone (t : Tree) (cs : List Choice) : Type 0 where
  pub tree : Tree
  pub derivation : Derivation tree document
  pub bare : unsigned tree ≡ unsigned t
  pub written : chosen pipe_token cs (Yield t) ≡ Yield tree
  pub marked : chosen true cs (signs t) ≡ signs tree
  pub at : AtMarks cs (signs t)

none-after : (s : Lead) (after : List Choice) → Fit s after [] → after ≡ []
none-after s [] fit = refl
none-after s (c ∷ cs) fit = absurd fit

both-pass : (w : List ℕ) → list_all (λ j. is_definition j && no_members j) w ≡ true
    → (list_all is_definition w ≡ true) × (list_all no_members w ≡ true)
both-pass [] h = (refl, refl)
both-pass (k ∷ w) h =
    let q = and_parts (is_definition k && no_members k) (list_all (λ j. is_definition j && no_members j) w) h in
    let p = and_parts (is_definition k) (no_members k) q.0 in
    let r = both-pass w q.1 in
    (and_from _ _ p.0 r.0, and_from _ _ p.1 r.1)

definitions-are : (w : List ℕ) → Matches (Row DOCUMENT) w → list_all (λ j. is_definition j && no_members j) w ≡ true
unfolding Row
definitions-are w m =
    all-asked (eqb DOCUMENT DOCUMENT) (λ j. is_definition j && no_members j) w refl
    (row-passes document_row children DOCUMENT w rows-document m)

constant-document : member DOCUMENT HasConstantDirectives ≡ false
unfolding member
constant-document = refl

document-node : (f : Forest) (cs : List Choice) → Fits (node DOCUMENT f) → Fit Other cs (Yields f)
    → Redone (node DOCUMENT f) cs
document-node f cs fits fit =
    let d = both-pass (kinds f) (definitions-are (kinds f) fits.0) in
    let r = all-resigned is_definition definition-resigned f [] Other cs fits.4 d.0 refl
    (subst (Fit Other cs) (sym (append-nil (Yields f))) fit) in
    let c = r.chose in
    let own : c.own ≡ cs = sym (append-nil c.own)
    ∙ ap (λ l. c.own ++ l) (sym (none-after (steps Other (Yields f)) c.after c.left)) ∙ sym c.split in
    record {
      tree = node DOCUMENT r.forest;
      derivation = (
        refl,
        (
          subst (Matches (Row DOCUMENT)) (sym r.same_kinds) fits.0,
          (λ e. absurd (omega (arith, e)), λ e. absurd (omega (arith, e))),
          (λ e. absurd (omega (arith, e)), not-constant DOCUMENT r.forest constant-document),
          λ e. brace-rule f r.forest (r.outlines d.1) (fits.3 e),
          r.fits,
        ),
      );
      bare = ap (node DOCUMENT) r.bare;
      written = subst (λ l. chosen pipe_token l (Yields f) ≡ Yields r.forest) own c.written;
      marked = subst (λ l. chosen true l (all_marks false f) ≡ all_marks false r.forest) own c.marked;
      at = subst (λ l. AtMarks l (all_marks false f)) own c.at;
    }

pub redone : (t : Tree) (cs : List Choice) → Derivation t document → Fit Other cs (Yield t) → Redone t cs
redone (leaf k x) cs d fit = absurd (no-leaf k x (omega (arith, d.0)) d.1)
redone (node k f) cs d fit =
    subst (λ n. Redone (node n f) cs) (sym d.0) (document-node f cs (subst (λ n. Fits (node n f)) d.0 d.1) fit)
