-- The tables' tests, each answered by computing.
use Rattle.std.proofs.Common.{◌≡◌, ℕ, zero, suc, ◌+◌, ◌-◌, Bool, true, false, cond, not, eqb, List, [], ◌∷◌, get_or}
use Rattle.std.proofs.Common.{bit_and, bit_or, refl}
use Rattle.document_grammar.specs.Booleans.{◌and◌, ◌or◌}
use Rattle.document_grammar.specs.Kinds.{DOCUMENT}
use Rattle.grammar_machine.proofs.generated.Follows.{follows}
use Rattle.grammar_machine.specs.Machine.{holds, is_leaf, at, ends, exit, arcs, entries, state_arcs, state_ends}
use Rattle.grammar_machine.specs.Machine.{state_exit}
use Rattle.grammar_machine.specs.Table.{State, state, Entry, entry, rows, firsts}

abbrev pub subset : ℕ → ℕ → Bool
subset a b = eqb (bit_and a b) a

abbrev pub disjoint : ℕ → ℕ → Bool
disjoint a b = eqb (bit_and a b) 0

-- The classes that can begin an entry, an arc, or what follows a state.
abbrev pub entries_mask : List Entry → ℕ
entries_mask [] = 0
entries_mask (entry x y alone ∷ more) = bit_or x (entries_mask more)

unfoldable pub arcs_mask : List (ℕ × ℕ) → ℕ
arcs_mask [] = 0
arcs_mask (a ∷ more) = bit_or (entries_mask (entries a.0)) (arcs_mask more)

unfoldable pub follow : ℕ → ℕ → ℕ
follow child x = let p = get_or follows child (0, 0) in cond (eqb x 0) p.0 p.1

unfoldable pub row_of : ℕ → List State
row_of child = get_or rows (child - DOCUMENT) []

abbrev pub all_ends : List State → (ℕ → Bool) → Bool
all_ends [] t = true
all_ends (state e x a ∷ more) t = (not e or t x) and all_ends more t

-- A test for each exit that a symbol can have.
unfoldable pub exits : ℕ → (ℕ → Bool) → Bool
unfolding row_of
exits child t = cond (is_leaf child) (t 0) (all_ends (row_of child) t)

abbrev pub all_arcs : List (ℕ × ℕ) → (ℕ → ℕ → Bool) → Bool
all_arcs [] t = true
all_arcs (a ∷ more) t = t a.0 a.1 and all_arcs more t

abbrev pub all_entries : List Entry → (ℕ → ℕ → Bool → Bool) → Bool
all_entries [] t = true
all_entries (entry x y alone ∷ more) t = t x y alone and all_entries more t

abbrev pub any_entries : List Entry → (ℕ → ℕ → Bool → Bool) → Bool
any_entries [] t = false
any_entries (entry x y alone ∷ more) t = t x y alone or any_entries more t

abbrev pub all_below : ℕ → (ℕ → Bool) → Bool
all_below zero t = true
all_below (suc n) t = t n and all_below n t

-- A test of each element of a list and its index; of each state and its symbol; of each symbol, state and arc.
abbrev pub all_from : {A : Type 0} → ℕ → List A → (ℕ → A → Bool) → Bool
all_from n [] t = true
all_from n (x ∷ more) t = t n x and all_from (suc n) more t

abbrev pub every_state : (ℕ → ℕ → State → Bool) → Bool
every_state t = all_from DOCUMENT rows (λ s r. all_from 0 r (t s))

abbrev pub all_rows : ℕ → List (List State) → (ℕ → State → Bool) → Bool
all_rows n l t = all_from n l (λ s r. all_from 0 r (λ q v. t s v))

abbrev pub every_arc : (ℕ → ℕ → ℕ → Bool) → Bool
every_arc t = every_state (λ s q v. all_arcs (state_arcs v) (t s))

-- Each state's tests.
abbrev pub state_begins : State → ℕ
state_begins v = arcs_mask (state_arcs v)

-- A node that may follow `child` after which the row of `symbol` is in the state `v`.
abbrev pub follow_test : ℕ → ℕ → ℕ → Bool
follow_test symbol child row_state =
    exits child (λ x. subset (state_begins (at symbol (row_state + x))) (follow child x)
    and (not (ends symbol (row_state + x)) or subset (follow symbol (exit symbol (row_state + x))) (follow child x)))

abbrev pub close_test : ℕ → State → Bool
close_test symbol v = not (state_ends v) or disjoint (state_begins v) (follow symbol (state_exit v))

abbrev pub clear : ℕ → ℕ → ℕ → ℕ → Bool
clear symbol row_state x y = disjoint y (state_begins (at symbol (row_state + x)))
    and (not (ends symbol (row_state + x)) or disjoint y (follow symbol (exit symbol (row_state + x))))

-- Where the symbol `child` leads to the state `row_state`, the symbol `j` does not begin.
abbrev pub differ : ℕ → ℕ → ℕ → ℕ → Bool
differ symbol child row_state j = all_entries (entries j) (λ x2 y2 a2. all_entries (entries child)
    (λ x1 y1 a1. disjoint x1 x2
    or (not a2 and disjoint y1 y2 and (not a1 or exits child (λ x. clear symbol row_state x y2)))))

abbrev pub choice_arcs : ℕ → List (ℕ × ℕ) → Bool
choice_arcs symbol [] = true
choice_arcs symbol (a ∷ more) = all_arcs more (λ k q. differ symbol k q a.0) and choice_arcs symbol more

abbrev pub choice_test : ℕ → State → Bool
choice_test symbol v = choice_arcs symbol (state_arcs v)

-- An entry of the first child, before the state `row_state` of its parent, is in an entry of the parent.
abbrev pub covered : ℕ → ℕ → ℕ → ℕ → ℕ → Bool → Bool
covered symbol row_state x x1 y1 a1 = any_entries (entries symbol) (λ x2 y2 a2. subset x1 x2 and subset y1 y2
    and (not a1 or (subset (state_begins (at symbol (row_state + x))) y2
    and (not (ends symbol (row_state + x)) or a2))))

-- The test of the first state of a row, which does not end there.
abbrev pub first_arc : ℕ → ℕ → ℕ → Bool
first_arc symbol child row_state = exits child (λ x. all_entries (entries child) (covered symbol row_state x))

abbrev pub first_test : ℕ → ℕ → State → Bool
first_test symbol row_state v =
    not (eqb row_state 0) or (all_arcs (state_arcs v) (first_arc symbol) and not (state_ends v))

abbrev pub leaf_entry : ℕ → Bool
leaf_entry leaf_symbol = all_entries (entries leaf_symbol) (λ x y a. a and eqb y 0)

pub follow-checked : every_arc follow_test ≡ true
unfolding ◌and◌ ◌or◌ holds is_leaf at ends exit arcs entries rows firsts follows follow exits arcs_mask
follow-checked = refl

pub close-checked : all_rows DOCUMENT rows close_test ≡ true
unfolding ◌and◌ ◌or◌ holds is_leaf at ends exit arcs entries rows firsts follows follow exits arcs_mask
close-checked = refl

pub choice-checked : all_rows DOCUMENT rows choice_test ≡ true
unfolding ◌and◌ ◌or◌ holds is_leaf at ends exit arcs entries rows firsts follows follow exits arcs_mask
choice-checked = refl

pub first-checked : every_state first_test ≡ true
unfolding ◌and◌ ◌or◌ holds is_leaf at ends exit arcs entries rows firsts follows follow exits arcs_mask
first-checked = refl

pub leaf-checked : all_below DOCUMENT leaf_entry ≡ true
unfolding ◌and◌ ◌or◌ holds is_leaf at ends exit arcs entries rows firsts follows follow exits arcs_mask
leaf-checked = refl
