-- The patterns' derivatives, and the test that the automata are those of the patterns.
use Rattle.std.proofs.Common.{◌≡◌, ℕ, ◌+◌, ◌-◌, Bool, true, false, cond, not, eqb, ltb, List, [], ◌∷◌, ◌++◌, get_or}
use Rattle.std.proofs.Common.{refl, sym, ap, ◌∙◌, subst, ◌⊎◌, inl, inr, true≢false, append_assoc}
use Rattle.document_grammar.proofs.Booleans.{and-l, and-r, or-c, either}
use Rattle.document_grammar.proofs.Nullable.{nullable, nullable-to}
use Rattle.document_grammar.specs.Booleans.{◌and◌, ◌or◌}
use Rattle.document_grammar.specs.Kinds.{OPERATION_DEFINITION, SELECTION_SET, VARIABLE, DEFAULT_VALUE, NAMED_TYPE}
use Rattle.document_grammar.specs.Kinds.{LIST_TYPE, NON_NULL_TYPE, DOCUMENT, BANG}
use Rattle.document_grammar.specs.Pattern.{Pattern, any_of, nothing, ◌then◌, ◌or_else◌, many, one, maybe, member}
use Rattle.document_grammar.specs.Pattern.{Repeats, stop, again, Matches}
use Rattle.document_grammar.specs.Rows.{Row, keyword_operation, bare_selections}
use Rattle.grammar_machine.proofs.Checks.{all_arcs, every_state, exits}
use Rattle.grammar_machine.proofs.TableLemmas.{head-same, tail-same, no-cons}
use Rattle.grammar_machine.proofs.generated.Labels.{paths, labels}
use Rattle.grammar_machine.specs.Machine.{is_leaf, at, ends, exit, arcs, state_arcs, state_ends, text_eq}
use Rattle.grammar_machine.specs.Symbols.{TYPE, SHORT_QUERY, BARE_SELECTIONS, NAME_FOR_ENUM}
use Rattle.grammar_machine.specs.Table.{State, rows}

-- One of two patterns; where nothing fits the one, the other.
abbrev alt : Pattern → Pattern → Pattern
alt (any_of []) pattern = pattern
alt pattern (any_of []) = pattern
alt pattern other_pattern = pattern or_else other_pattern

abbrev seq : Pattern → Pattern → Pattern
seq (any_of []) pattern = any_of []
seq (any_of (child ∷ ks)) pattern = any_of (child ∷ ks) then pattern
seq nothing pattern = pattern
seq (pattern then other_pattern) third_pattern = pattern then (other_pattern then third_pattern)
seq (pattern or_else other_pattern) third_pattern = (pattern or_else other_pattern) then third_pattern
seq (many pattern) other_pattern = many pattern then other_pattern

abbrev pub deriv : Pattern → ℕ → Pattern
deriv (any_of ks) child = cond (member child ks) nothing (any_of [])
deriv nothing child = any_of []
deriv (pattern then other_pattern) child =
    alt (seq (deriv pattern child) other_pattern) (cond (nullable pattern) (deriv other_pattern child) (any_of []))
deriv (pattern or_else other_pattern) child = alt (deriv pattern child) (deriv other_pattern child)
deriv (many pattern) child = seq (deriv pattern child) (many pattern)

abbrev pub pattern_eq : Pattern → Pattern → Bool
pattern_eq (any_of ks) (any_of ls) = text_eq ks ls
pattern_eq nothing nothing = true
pattern_eq (pattern then other_pattern) (third_pattern then fourth_pattern) =
    pattern_eq pattern third_pattern and pattern_eq other_pattern fourth_pattern
pattern_eq (pattern or_else other_pattern) (third_pattern or_else fourth_pattern) =
    pattern_eq pattern third_pattern and pattern_eq other_pattern fourth_pattern
pattern_eq (many pattern) (many other_pattern) = pattern_eq pattern other_pattern
pattern_eq _ _ = false

abbrev pub derive_all : Pattern → List ℕ → Pattern
derive_all pattern [] = pattern
derive_all pattern (child ∷ ks) = derive_all (deriv pattern child) ks

abbrev pub begin_kinds : Pattern → List ℕ
begin_kinds (any_of ks) = ks
begin_kinds nothing = []
begin_kinds (pattern then other_pattern) =
    cond (nullable pattern) (begin_kinds pattern ++ begin_kinds other_pattern) (begin_kinds pattern)
begin_kinds (pattern or_else other_pattern) = begin_kinds pattern ++ begin_kinds other_pattern
begin_kinds (many pattern) = begin_kinds pattern

-- The pattern of a symbol's row, in the kinds as which the symbols are shown.
unfoldable pub label : ℕ → ℕ
label child = get_or labels child 0

unfoldable pub symbol_row : ℕ → Pattern
unfolding label
symbol_row symbol = cond (eqb symbol OPERATION_DEFINITION) keyword_operation
    (cond (eqb symbol SHORT_QUERY) (one SELECTION_SET)
    (cond (eqb symbol BARE_SELECTIONS) bare_selections (Row (label symbol))))

-- A type without its node: what the node of NON_NULL_TYPE holds, or the one type.
abbrev pub type_row : Pattern
type_row = any_of (NAMED_TYPE ∷ LIST_TYPE ∷ []) then maybe (one BANG)

unfoldable pub pattern_of : ℕ → ℕ → Pattern
unfolding symbol_row
pattern_of symbol state =
    derive_all (cond (eqb symbol TYPE) type_row (symbol_row symbol))
    (get_or (get_or paths (symbol - DOCUMENT) []) state [])

-- The kinds as which a child's symbol is shown: a type is one of three.
unfoldable pub shown : ℕ → List ℕ
unfolding label
shown child = cond (eqb child TYPE) (NAMED_TYPE ∷ LIST_TYPE ∷ NON_NULL_TYPE ∷ []) (label child ∷ [])

abbrev pub all_kinds : List ℕ → (ℕ → Bool) → Bool
all_kinds [] t = true
all_kinds (child ∷ ks) t = t child and all_kinds ks t

abbrev pub any_arcs : List (ℕ × ℕ) → (ℕ → ℕ → Bool) → Bool
any_arcs [] t = false
any_arcs (a ∷ more) t = t a.0 a.1 or any_arcs more t

-- The symbols of constant places: DEFAULT_VALUE, and the copies below it and below marked DIRECTIVES.
unfoldable pub constant : ℕ → Bool
constant symbol = eqb symbol DEFAULT_VALUE or (ltb NAME_FOR_ENUM symbol and ltb symbol BARE_SELECTIONS)

-- The state `state` of `symbol` and its pattern agree: on the end, along each arc, and each kind that the pattern may
-- begin with has an arc.
unfoldable pub agree_at : ℕ → ℕ → Bool
agree_at symbol state = cond (nullable (pattern_of symbol state)) (ends symbol state) (not (ends symbol state))
    and all_arcs (arcs symbol state) (λ k p. all_kinds (shown k) (λ j. exits k
    (λ x. pattern_eq (deriv (pattern_of symbol state) j) (pattern_of symbol (p + x)))))
    and all_kinds (begin_kinds (pattern_of symbol state)) (λ j. (constant symbol and eqb j VARIABLE)
    or any_arcs (arcs symbol state) (λ k p. member j (shown k)))

abbrev pub no_arc : List (ℕ × ℕ) → Bool
no_arc [] = true
no_arc (a ∷ more) = false

abbrev pub is_live : State → Bool
is_live v = state_ends v or not (no_arc (state_arcs v))

pub agree-checked : every_state (λ s q v. not (is_live v) or agree_at s q) ≡ true
unfolding agree_at constant shown pattern_of symbol_row label ◌and◌ ◌or◌ is_leaf at ends exit arcs rows exits
    paths labels Row member
agree-checked = refl

-- Derivatives.
pub never-none : {A : Type 0} (w : List ℕ) → Matches (any_of []) w → A
unfolding member
never-none w matches = absurd (true≢false (sym matches.1))

alt-to : (pattern other_pattern : Pattern) (w : List ℕ) → Matches pattern w ⊎ Matches other_pattern w
    → Matches (alt pattern other_pattern) w
alt-to (any_of []) other_pattern w h = elim h [ inl x ↦ never-none w x | inr x ↦ x ]
alt-to _ (any_of []) w h = elim h [ inl x ↦ x | inr x ↦ never-none w x ]
alt-to _ _ w h = h

alt-from : (pattern other_pattern : Pattern) (w : List ℕ) → Matches (alt pattern other_pattern) w
    → Matches pattern w ⊎ Matches other_pattern w
alt-from (any_of []) other_pattern w matches = inr matches
alt-from _ (any_of []) w matches = inl matches
alt-from _ _ w matches = matches

seq-to : (pattern other_pattern : Pattern) (w : List ℕ) → Matches (pattern then other_pattern) w
    → Matches (seq pattern other_pattern) w
seq-to (any_of []) other_pattern w matches = never-none matches.0 matches.3
seq-to (any_of (child ∷ ks)) other_pattern w matches = matches
seq-to nothing other_pattern w matches =
    let e : w ≡ matches.1 = matches.2 ∙ ap (λ (v : List ℕ). v ++ matches.1) matches.3 in
    subst (λ (v : List ℕ). Matches other_pattern v) (sym e) matches.4
seq-to (pattern then third_pattern) other_pattern w matches = (
  matches.3.0,
  matches.3.1 ++ matches.1,
  matches.2 ∙ (ap (λ (v : List ℕ). v ++ matches.1) matches.3.2 ∙ append_assoc matches.3.0 matches.3.1 matches.1),
  matches.3.3,
  (matches.3.1, matches.1, refl, matches.3.4, matches.4),
)
seq-to (pattern or_else third_pattern) other_pattern w matches = matches
seq-to (many pattern) other_pattern w matches = matches

seq-from : (pattern other_pattern : Pattern) (w : List ℕ) → Matches (seq pattern other_pattern) w
    → Matches (pattern then other_pattern) w
seq-from (any_of []) other_pattern w matches = never-none w matches
seq-from (any_of (child ∷ ks)) other_pattern w matches = matches
seq-from nothing other_pattern w matches = ([], w, refl, refl, matches)
seq-from (pattern then third_pattern) other_pattern w matches = (
  matches.0 ++ matches.4.0,
  matches.4.1,
  matches.2 ∙ (ap (λ (v : List ℕ). matches.0 ++ v) matches.4.2 ∙ sym (append_assoc matches.0 matches.4.0 matches.4.1)),
  (matches.0, matches.4.0, refl, matches.3, matches.4.3),
  matches.4.4,
)
seq-from (pattern or_else third_pattern) other_pattern w matches = matches
seq-from (many pattern) other_pattern w matches = matches

pub nullable-from : (pattern : Pattern) → nullable pattern ≡ true → Matches pattern []
nullable-from (any_of ks) h = absurd (true≢false (sym h))
nullable-from nothing h = refl
nullable-from (pattern then other_pattern) h =
    ([], [], refl, nullable-from pattern (and-l _ _ h), nullable-from other_pattern (and-r _ _ h))
nullable-from (pattern or_else other_pattern) h =
    elim (or-c _ _ h) [ inl x ↦ inl (nullable-from pattern x) | inr x ↦ inr (nullable-from other_pattern x) ]
nullable-from (many pattern) h = stop

-- The rest of a repetition after its first child.
rest-of : (pattern : Pattern) (child : ℕ) (w : List ℕ)
    (d : (v : List ℕ) → Matches pattern (child ∷ v) → Matches (deriv pattern child) v) {x : List ℕ}
    → Repeats (Matches pattern) x
    → x ≡ child ∷ w → Matches (deriv pattern child then many pattern) w
rest-of pattern child w d stop e = no-cons e
rest-of pattern child w d (again {u = []} m repeats f) e = rest-of pattern child w d repeats (sym f ∙ e)
rest-of pattern child w d (again {u = a ∷ u} {v = v} m repeats f) e = (
  u,
  v,
  sym (tail-same (sym f ∙ e)),
  d u (subst (λ (n : ℕ). Matches pattern (n ∷ u)) (head-same (sym f ∙ e)) m),
  repeats,
)

-- What is left after the first kind of one pattern and then another: the rest of the one, or, where it may be empty, of
-- the other.
then-from : {C : Type 0} (pattern other_pattern : Pattern) (child : ℕ) (w : List ℕ)
    → Matches (deriv (pattern then other_pattern) child) w
    → (Matches (deriv pattern child then other_pattern) w → C)
    → (nullable pattern ≡ true → Matches (deriv other_pattern child) w → C) → C
then-from pattern other_pattern child w matches one two = elim (alt-from (seq (deriv pattern child) other_pattern)
    (cond (nullable pattern) (deriv other_pattern child) (any_of [])) w matches) [
      | inl x ↦ one (seq-from (deriv pattern child) other_pattern w x)
      | inr x ↦ elim (either (nullable pattern)) [ inl e ↦ two e (rw e at x) | inr e ↦ never-none w (rw e at x) ]
    ]

pub to-deriv : (pattern : Pattern) (child : ℕ) (w : List ℕ) → Matches pattern (child ∷ w)
    → Matches (deriv pattern child) w
to-deriv (any_of ks) child w matches = subst (λ (b : Bool). Matches (cond b nothing (any_of [])) w)
    (sym (subst (λ (n : ℕ). member n ks ≡ true) (sym (head-same matches.2)) matches.1)) (tail-same matches.2)
to-deriv nothing child w matches = no-cons (sym matches)
to-deriv (pattern then other_pattern) child w ([], v, e, m, n) = alt-to (seq (deriv pattern child) other_pattern) _ w
    (inr (rw (nullable-to pattern [] refl m)
    (to-deriv other_pattern child w (subst (λ (z : List ℕ). Matches other_pattern z) (sym e) n))))
to-deriv (pattern then other_pattern) child w (a ∷ u, v, e, m, n) =
    alt-to (seq (deriv pattern child) other_pattern) _ w (inl (seq-to (deriv pattern child) other_pattern w (
      u,
      v,
      tail-same e,
      to-deriv pattern child u (subst (λ (z : ℕ). Matches pattern (z ∷ u)) (sym (head-same e)) m),
      n,
    )))
to-deriv (pattern or_else other_pattern) child w matches = alt-to (deriv pattern child) (deriv other_pattern child) w
    (elim matches [ inl x ↦ inl (to-deriv pattern child w x) | inr x ↦ inr (to-deriv other_pattern child w x) ])
to-deriv (many pattern) child w matches = seq-to (deriv pattern child) (many pattern) w
    (rest-of pattern child w (λ v m. to-deriv pattern child v m) matches refl)

pub from-deriv : (pattern : Pattern) (child : ℕ) (w : List ℕ) → Matches (deriv pattern child) w
    → Matches pattern (child ∷ w)
from-deriv (any_of ks) child w matches = elim (either (member child ks)) [
  | inl e ↦ (let n : w ≡ [] = subst (λ (b : Bool). Matches (cond b nothing (any_of [])) w) e matches in
      (child, e, ap (λ (v : List ℕ). child ∷ v) n))
  | inr e ↦ never-none w (subst (λ (b : Bool). Matches (cond b nothing (any_of [])) w) e matches)
]
from-deriv nothing child w matches = never-none w matches
from-deriv (pattern then other_pattern) child w matches = then-from pattern other_pattern child w matches
    (λ s. (child ∷ s.0, s.1, ap (λ (v : List ℕ). child ∷ v) s.2, from-deriv pattern child s.0 s.3, s.4))
    (λ e x. ([], child ∷ w, refl, nullable-from pattern e, from-deriv other_pattern child w x))
from-deriv (pattern or_else other_pattern) child w matches =
    elim (alt-from (deriv pattern child) (deriv other_pattern child) w matches) [
      | inl x ↦ inl
          (from-deriv pattern child w x)
      | inr x ↦ inr (from-deriv other_pattern child w x)
    ]
from-deriv (many pattern) child w matches = let s = seq-from (deriv pattern child) (many pattern) w matches in
    again (from-deriv pattern child s.0 s.3) s.4 (ap (λ (v : List ℕ). child ∷ v) s.2)

-- A first kind is one of the first kinds.
member-in : (child : ℕ) (ks ls : List ℕ) → (member child ks ≡ true) ⊎ (member child ls ≡ true)
    → member child (ks ++ ls) ≡ true
unfolding member
member-in child [] ls h = elim h [ inl m ↦ absurd (true≢false (sym m)) | inr m ↦ m ]
member-in child (a ∷ ks) ls h = elim (either (eqb a child)) [
  | inl p ↦ rw p refl
  | inr p ↦ rw p
      (member-in child ks ls (elim h [ inl m ↦ inl (rw p at m) | inr m ↦ inr m ]))
]

pub first-kind : (pattern : Pattern) (child : ℕ) (w : List ℕ) → Matches (deriv pattern child) w
    → member child (begin_kinds pattern) ≡ true
first-kind (any_of ks) child w matches = elim (either (member child ks)) [
  | inl e ↦ e
  | inr e ↦ never-none w
      (subst (λ (b : Bool). Matches (cond b nothing (any_of [])) w) e matches)
]
first-kind nothing child w matches = never-none w matches
first-kind (pattern then other_pattern) child w matches = then-from pattern other_pattern child w matches
    (λ s. elim (either (nullable pattern)) [
      | inl e ↦ rw e (member-in child (begin_kinds pattern) (begin_kinds other_pattern)
          (inl (first-kind pattern child s.0 s.3)))
      | inr e ↦ rw e (first-kind pattern child s.0 s.3)
    ])
    (λ e x. rw e (member-in child (begin_kinds pattern) (begin_kinds other_pattern)
    (inr (first-kind other_pattern child w x))))
first-kind (pattern or_else other_pattern) child w matches =
    elim (alt-from (deriv pattern child) (deriv other_pattern child) w matches) [
      | inl x ↦ member-in child (begin_kinds pattern) (begin_kinds other_pattern) (inl (first-kind pattern child w x))
      | inr x ↦ member-in child
          (begin_kinds pattern) (begin_kinds other_pattern) (inr (first-kind other_pattern child w x))
    ]
first-kind (many pattern) child w matches = let s = seq-from (deriv pattern child) (many pattern) w matches in
    first-kind pattern child s.0 s.3
