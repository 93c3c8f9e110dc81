-- What a test says of the classes of the current token and of the next significant one: it passes exactly for the
-- classes of its set.
use Rattle.std.proofs.Common.{◌≡◌, ℕ, zero, suc, ◌+◌, ◌-◌, ◌^◌, ◌%◌, ◌<◌, ◌||◌, ap₂, max, min, Bool, true, false, not}
use Rattle.std.proofs.Common.{cond, ◌&&◌, eqb, bit_and, Option, Some, None, refl, sym, ap, ◌∙◌, subst, inl, inr}
use Rattle.std.proofs.Common.{eqb-true, is_some, arith}
use Rattle.std.proofs.lemmas.Bool.{eqb-false}
use Rattle.std.proofs.lemmas.Nat.Bits.{bit_at_and, bit_at_or, bit_at_xor, bit_at-lt, bit_at-pow_same, bit_at-zero}
use Rattle.std.specs.Int.{bit_at}
use Rattle.std.specs.Int.Bits.{bit_xor, bit_or}
use Rattle.lexical_grammar.specs.Answers.{is_end}
use Rattle.lexical_grammar.specs.declared.TokenKind.{TokenKind}
use Rattle.lexical_grammar.specs.declared.TokenKind.TheVariants as token
use Rattle.document_grammar.proofs.Booleans.{either, false-true, and-l, and-r}
use Rattle.document_grammar.specs.Booleans.{◌and◌}
use Rattle.document_grammar.specs.Kinds.{words, COMMENT, IDENT}
use Rattle.document_grammar.specs.Numbers.{number}
use Rattle.document_grammar.specs.Sentence.{leaf_number}
use Rattle.document_grammar.specs.Tree.{Token}
use Rattle.document_grammar.specs.declared.kind.SyntaxKind.{SyntaxKind}
use Rattle.grammar_machine.proofs.Checks.{subset}
use Rattle.grammar_machine.proofs.Classes.{holds-and}
use Rattle.grammar_machine.proofs.Endings.{words-checked}
use Rattle.grammar_machine.proofs.Sound.{any, class-any, word-name, holds-one}
use Rattle.grammar_machine.proofs.TableLemmas.{holds-subset, holds-disjoint}
use Rattle.grammar_machine.proofs.generated.Follows.{name_classes}
use Rattle.grammar_machine.specs.Machine.{holds as within, class, word_class}
use Rattle.grammar_machine.specs.Table.{token_kinds}
use Rattle.parser_rules.proofs.runs.Reading.{Shown, second-shown}
use Rattle.parser_rules.specs.RuleLanguage.{TokenTest, Kind, Keyword, Or, fits}
use Rattle.parser_rules.specs.State.{State, Text, Lexeme, same_kind, ignored, second, is_at, is_word, is_over}

-- ---- classes of tokens

-- where no token is; no token has this class
abbrev pub absent : ℕ
absent = COMMENT

-- the end has class 0
abbrev pub lexeme_class : TokenKind → Text → ℕ
lexeme_class token_kind text = cond (is_end token_kind) 0 (class (leaf_number token_kind, text))

abbrev pub class_of : Option Lexeme → ℕ
class_of None = absent
class_of (Some t) = lexeme_class t.kind t.text

-- ---- sets of the tests

-- ignored tokens are never current
abbrev pub kind_set : TokenKind → ℕ
kind_set token.Whitespace = 0
kind_set token.Comment = 0
kind_set token.Comma = 0
kind_set token.Eof = 1
kind_set token.Name = name_classes
kind_set token_kind = 2 ^ leaf_number token_kind

abbrev pub word_set : SyntaxKind → ℕ
word_set kind = bit_and (2 ^ number kind) name_classes

abbrev pub set_of : TokenTest → ℕ
set_of (Kind token_kind) = kind_set token_kind
set_of (Keyword kind) = word_set kind
set_of (Or token_test other_test) = bit_or (set_of token_test) (set_of other_test)

-- all classes but those of no token and of the end
abbrev pub present : ℕ
present = any - 2 ^ absent

abbrev pub ready : ℕ
ready = present - 1

-- no token is left but the end
abbrev pub over : ℕ
over = 2 ^ absent + 1

at-end : (token_kind : TokenKind) → same_kind token.Eof token_kind ≡ within 0 (kind_set token_kind)
unfolding same_kind within
at-end token.Eof = refl
at-end _ = refl

name-class : (text : Text) → within (class (IDENT, text)) name_classes ≡ true
unfolding class
name-class text = word-name words text words-checked

at-name : (token_kind : TokenKind) (text : Text)
    → same_kind token.Name token_kind ≡ within (class (leaf_number token.Name, text)) (kind_set token_kind)
unfolding same_kind within
at-name token.Name text = sym (name-class text)
at-name token_kind text =
    sym (holds-disjoint (class (IDENT, text)) name_classes (kind_set token_kind) refl (name-class text))

at-kind : (token_kind other_kind : TokenKind) (text : Text) → is_end token_kind ≡ false → ignored token_kind ≡ None
    → same_kind token_kind other_kind ≡ within (class (leaf_number token_kind, text)) (kind_set other_kind)
unfolding same_kind within class
at-kind token.Name k text e i = at-name k text
at-kind token.Whitespace k text e i = absurd cc
at-kind token.Comment k text e i = absurd cc
at-kind token.Comma k text e i = absurd cc
at-kind token.Eof k text e i = absurd cc
at-kind _ token.Name text e i = refl
at-kind _ _ text e i = refl

-- a class in two sets
in-both : (a x y : ℕ) → within a (bit_and x y) ≡ true → (within a x ≡ true) × (within a y ≡ true)
unfolding within
in-both a x y h =
    let e : bit_at (bit_and x y) a ≡ 1 = eqb-true _ _ h in
    let i : bit_at (bit_and x y) a ≡ min (bit_at x a) (bit_at y a) = bit_at_and x y a in
    let lx = bit_at-lt x a in
    let ly = bit_at-lt y a in
    let f : bit_at x a ≡ 1 = omega arith in
    let g : bit_at y a ≡ 1 = omega arith in
    (rw f refl, rw g refl)

no-name : (a x : ℕ) → within a name_classes ≡ false → within a (bit_and x name_classes) ≡ false
no-name a x n = elim (either (within a (bit_and x name_classes)))
    [ inl p ↦ false-true n (in-both a x name_classes p).1 | inr p ↦ p ]

own-class : (n : ℕ) → within n (2 ^ n) ≡ true
unfolding within
own-class n = rw (bit_at-pow_same n) refl

-- a name's class is in a keyword's set exactly where it is the keyword
word-set : (a n : ℕ) → within a name_classes ≡ true → eqb a n ≡ within a (bit_and (2 ^ n) name_classes)
word-set a n h = elim (either (eqb a n)) [
  | inl p ↦ p ∙ sym (holds-and a (2 ^ n) name_classes
      (subst (λ (k : ℕ). within a (2 ^ k) ≡ true) (eqb-true a n p) (own-class a)) h)
  | inr p ↦ elim (either (within a (bit_and (2 ^ n) name_classes))) [
    | inl q ↦ absurd (eqb-false a n p (holds-one a n (in-both a (2 ^ n) name_classes q).0))
    | inr q ↦ p ∙ sym q
  ]
]

at-word : (token_kind : TokenKind) (kind : SyntaxKind) (text : Text) → is_end token_kind ≡ false
    → ignored token_kind ≡ None
    → same_kind token_kind token.Name && eqb (word_class words text) (number kind)
    ≡ within (class (leaf_number token_kind, text)) (bit_and (2 ^ number kind) name_classes)
unfolding same_kind within class
at-word token.Name k text e i = word-set (word_class words text) (number k) (word-name words text words-checked)
at-word token.Whitespace k text e i = absurd cc
at-word token.Comment k text e i = absurd cc
at-word token.Comma k text e i = absurd cc
at-word token.Eof k text e i = absurd cc
at-word token_kind kind text e i = sym (no-name (leaf_number token_kind) (2 ^ number kind) refl)

end-word : (kind : SyntaxKind) (text : Text)
    → same_kind token.Eof token.Name && eqb (word_class words text) (number kind)
    ≡ within 0 (bit_and (2 ^ number kind) name_classes)
unfolding same_kind within
end-word kind text = sym (no-name 0 (2 ^ number kind) refl)

-- the class of any token
pub not-zero : (this_token : Token) → within (class this_token) ready ≡ true
unfolding class within
not-zero this_token = elim (either (eqb this_token.0 IDENT)) [
  | inl p ↦ rw p (holds-subset (word_class words this_token.1) name_classes ready refl
      (word-name words this_token.1 words-checked))
  | inr p ↦ elim (either (within this_token.0 token_kinds)) [
    | inl q ↦ rw (p, q) (holds-subset this_token.0 token_kinds ready refl q)
    | inr q ↦ rw (p, q) three
  ]
]
  where
    three : within 3 ready ≡ true
    three = refl

at-none : (token_kind : TokenKind) → false ≡ within absent (kind_set token_kind)
unfolding within
at-none token.Eof = refl
at-none _ = refl

-- the classes of the end and of no token, in the sets of all tokens and in those of one class
pub record Edges : Type 0 where
  pub end_ready : within 0 ready ≡ false
  pub none_ready : within absent ready ≡ false
  pub end_present : within 0 present ≡ true
  pub none_present : within absent present ≡ false
  pub end_any : within 0 any ≡ true
  pub none_any : within absent any ≡ true
  pub end_over : within 0 over ≡ true
  pub none_over : within absent over ≡ true
  pub end_one : within 0 1 ≡ true
  pub none_one : within absent (2 ^ absent) ≡ true
  pub end_none : within 0 (2 ^ absent) ≡ false

pub edges : Edges
unfolding within
edges = record {
  end_ready = refl;
  none_ready = refl;
  end_present = refl;
  none_present = refl;
  end_any = refl;
  none_any = refl;
  end_over = refl;
  none_over = refl;
  end_one = refl;
  none_one = refl;
  end_none = refl;
}

-- the end, or any other token
at-token : (A : TokenKind → ℕ → Type 0) (token_kind : TokenKind) (text : Text)
    → ignored token_kind ≡ None → A token.Eof 0
    → (is_end token_kind ≡ false → A token_kind (class (leaf_number token_kind, text)))
    → A token_kind (lexeme_class token_kind text)
at-token A token.Eof text i e h = e
at-token A token_kind text i e h = h refl

pub at-set : (token_kind : TokenKind) (found : Option Lexeme) → Shown found
    → is_at token_kind found ≡ within (class_of found) (kind_set token_kind)
at-set token_kind None shown = at-none token_kind
at-set token_kind (Some t) shown =
    at-token (λ j c. same_kind j token_kind ≡ within c (kind_set token_kind)) t.kind t.text shown (at-end token_kind)
    (λ e. at-kind t.kind token_kind t.text e shown)

name-none : within absent name_classes ≡ false
unfolding within
name-none = refl

pub word-is : (kind : SyntaxKind) (found : Option Lexeme) → Shown found
    → is_word kind found ≡ within (class_of found) (word_set kind)
word-is kind None shown = sym (no-name absent (2 ^ number kind) name-none)
word-is kind (Some t) shown = at-token (λ j c. same_kind j token.Name && eqb (word_class words t.text) (number kind)
    ≡ within c (word_set kind)) t.kind t.text shown (end-word kind t.text) (λ e. at-word t.kind kind t.text e shown)

in-either : (a x y : ℕ) → within a x || within a y ≡ within a (bit_or x y)
unfolding within
in-either a x y = rw (bit_at_or x y a) (one-of (bit_at x a) (bit_at y a) (bit_at-lt x a) (bit_at-lt y a))
  where
    one-of : (m n : ℕ) → m < 2 → n < 2 → eqb m 1 || eqb n 1 ≡ eqb (max m n) 1
    one-of zero zero l h = refl
    one-of zero (suc zero) l h = refl
    one-of zero (suc (suc n)) l h = absurd (omega (arith, h))
    one-of (suc zero) zero l h = refl
    one-of (suc zero) (suc zero) l h = refl
    one-of (suc zero) (suc (suc n)) l h = absurd (omega (arith, h))
    one-of (suc (suc m)) n l h = absurd (omega (arith, l))

pub fits-set : (token_test : TokenTest) (found : Option Lexeme) → Shown found
    → fits token_test found ≡ within (class_of found) (set_of token_test)
fits-set (Kind token_kind) found shown = at-set token_kind found shown
fits-set (Keyword kind) found shown = word-is kind found shown
fits-set (Or token_test other_test) found shown =
    ap₂ (λ (a b : Bool). a || b) (fits-set token_test found shown) (fits-set other_test found shown)
    ∙ in-either (class_of found) (set_of token_test) (set_of other_test)

pub ready-is : (found : Option Lexeme) → Shown found → not (is_over found) ≡ within (class_of found) ready
ready-is None shown = sym edges.none_ready
ready-is (Some t) shown = at-token (λ j c. not (is_end j) ≡ within c ready) t.kind t.text shown (sym edges.end_ready)
    (λ e. ap not e ∙ sym (not-zero (leaf_number t.kind, t.text)))

pub present-is : (found : Option Lexeme) → Shown found → is_some found ≡ within (class_of found) present
present-is None shown = sym edges.none_present
present-is (Some t) shown = at-token (λ j c. true ≡ within c present) t.kind t.text shown (sym edges.end_present)
    (λ e. sym (holds-subset (class (leaf_number t.kind, t.text)) ready present refl
    (not-zero (leaf_number t.kind, t.text))))

pub of-any : (found : Option Lexeme) → Shown found → within (class_of found) any ≡ true
of-any None shown = edges.none_any
of-any (Some t) shown =
    at-token (λ j c. within c any ≡ true) t.kind t.text shown edges.end_any
    (λ e. class-any (leaf_number t.kind, t.text))

-- ---- sets of the next two tokens

-- sets that hold the classes of the current token and of the one after it
abbrev pub Seen : ℕ → ℕ → State → Type 0
Seen x y state = record {
  near : within (class_of state.current) x ≡ true;
  far : within (class_of (second state.items)) y ≡ true;
}

pub seen-any : (state : State) → Shown state.current → Seen any any state
seen-any state shown = record {
  near = of-any state.current shown;
  far = of-any (second state.items) (second-shown state.items);
}

pub seen-more : (x y u v : ℕ) (state : State) → subset x u and subset y v ≡ true → Seen x y state → Seen u v state
seen-more x y u v state empty seen = record {
  near = holds-subset (class_of state.current) x u (and-l _ _ empty) seen.near;
  far = holds-subset (class_of (second state.items)) y v (and-r _ _ empty) seen.far;
}

pub seen-same : (x y : ℕ) (state after : State) → after.current ≡ state.current → after.items ≡ state.items
    → Seen x y state → Seen x y after
seen-same x y state after c i seen = record {
  near = subst (λ o. within (class_of o) x ≡ true) (sym c) seen.near;
  far = subst (λ xs. within (class_of (second xs)) y ≡ true) (sym i) seen.far;
}

-- a set without a part; a branch that cannot be taken is left out
abbrev pub part : {R : Type 0} → R → ℕ → (ℕ → R) → R
part empty z f = cond (eqb z 0) empty (f z)

abbrev pub by_near : {R : Type 0} → (R → R → R) → R → ℕ → ℕ → ℕ → (ℕ → ℕ → R) → (ℕ → ℕ → R) → R
by_near combine empty set near far f g =
    combine (part empty (bit_and near set) (λ z. f z far)) (part empty (bit_xor near (bit_and near set)) (λ z. g z far))

abbrev pub by_far : {R : Type 0} → (R → R → R) → R → ℕ → ℕ → ℕ → (ℕ → ℕ → R) → (ℕ → ℕ → R) → R
by_far combine empty set near far f g =
    combine (part empty (bit_and far set) (λ z. f near z)) (part empty (bit_xor far (bit_and far set)) (λ z. g near z))

-- a class in a set and not in a second is in the first without what they share
pub holds-minus : (a x m : ℕ) → within a x ≡ true → within a m ≡ false → within a (bit_xor x (bit_and x m)) ≡ true
unfolding within
holds-minus a x m h g =
    let e : bit_at x a ≡ 1 = eqb-true _ _ h in
    let lm = bit_at-lt m a in
    let n = eqb-false (bit_at m a) 1 g in
    let f : bit_at m a ≡ 0 = omega (arith, lm, n) in
    let i : bit_at (bit_and x m) a ≡ min (bit_at x a) (bit_at m a) = bit_at_and x m a in
    let k : bit_at (bit_and x m) a ≡ 0 = omega arith in
    let j : bit_at (bit_xor x (bit_and x m)) a ≡ (bit_at x a + bit_at (bit_and x m) a) % 2 =
    bit_at_xor x (bit_and x m) a in
    let l : bit_at (bit_xor x (bit_and x m)) a ≡ 1 = rw (e, k) at j in
    rw l refl

pub holds-none : {A : Type 0} (a : ℕ) → within a 0 ≡ true → A
unfolding within
holds-none a h = let z : bit_at 0 a ≡ 0 = bit_at-zero a in let e : bit_at 0 a ≡ 1 = eqb-true _ _ h in
    absurd (omega (arith, z, e))

pub part-live : (a z : ℕ) (f : ℕ → Bool) → part true z f ≡ true → within a z ≡ true → f z ≡ true
part-live a z f h i = elim (either (eqb z 0))
    [ inl p ↦ holds-none a (subst (λ n. within a n ≡ true) (eqb-true _ _ p) i) | inr p ↦ (rw p at h) ]

abbrev pub Branch : (ℕ → ℕ → Bool) → State → Type 0
Branch f state = (u : ℕ) × (v : ℕ) × (f u v ≡ true) × Seen u v state

pub near-at : (b : Bool) (set x y : ℕ) (f g : ℕ → ℕ → Bool) (state : State)
    → b ≡ within (class_of state.current) set
    → by_near (λ a b. a and b) true set x y f g ≡ true → Seen x y state → Branch (cond b f g) state
near-at true set x y f g state empty h seen =
    let z = holds-and (class_of state.current) x set seen.near (sym empty) in (
      bit_and x set,
      y,
      part-live (class_of state.current) (bit_and x set) (λ z. f z y) (and-l _ _ h) z,
      record { near = z; far = seen.far },
    )
near-at false set x y f g state empty h seen =
    let z = holds-minus (class_of state.current) x set seen.near (sym empty) in (
      bit_xor x (bit_and x set),
      y,
      part-live (class_of state.current) (bit_xor x (bit_and x set)) (λ z. g z y) (and-r _ _ h) z,
      record { near = z; far = seen.far },
    )

pub far-at : (b : Bool) (set x y : ℕ) (f g : ℕ → ℕ → Bool) (state : State)
    → b ≡ within (class_of (second state.items)) set
    → by_far (λ a b. a and b) true set x y f g ≡ true → Seen x y state → Branch (cond b f g) state
far-at true set x y f g state empty h seen = let c = class_of (second state.items) in let z =
    holds-and c y set seen.far (sym empty) in
    (x, bit_and y set, part-live c (bit_and y set) (λ z. f x z) (and-l _ _ h) z, record { near = seen.near; far = z })
far-at false set x y f g state empty h seen = let c = class_of (second state.items) in let z =
    holds-minus c y set seen.far (sym empty) in (
      x,
      bit_xor y (bit_and y set),
      part-live c (bit_xor y (bit_and y set)) (λ z. g x z) (and-r _ _ h) z,
      record { near = seen.near; far = z },
    )

pub flip : (b v : Bool) → b ≡ not v → not b ≡ v
flip true true e = sym e
flip true false e = refl
flip false true e = refl
flip false false e = sym e
