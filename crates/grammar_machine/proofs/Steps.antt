-- Each move has one test that computes, over the symbol of the node that is being read, the state of its row, and sets
-- of classes that hold the next token and the one after it.
use Rattle.std.proofs.Common.{◌≡◌, ℕ, Bool, true, false, cond, not, eqb, List, [], ◌∷◌, refl, sym, ◌∙◌, inl, inr}
use Rattle.std.proofs.Common.{true≢false, eqb-true}
use Rattle.document_grammar.proofs.Booleans.{and-l, and-r, and-i, or-c, or-l, or-r, or-false, and-false-l, and-false-r}
use Rattle.document_grammar.proofs.Booleans.{not-c, either}
use Rattle.document_grammar.specs.Booleans.{◌and◌, ◌or◌}
use Rattle.grammar_machine.proofs.Checks.{subset, disjoint, all_entries, any_entries}
use Rattle.grammar_machine.proofs.TableLemmas.{any-more, no-entry, begun_by, fires-any, holds-subset, holds-disjoint}
use Rattle.grammar_machine.specs.Machine.{holds, ends, arcs, entries, fires, fires_in, choose, go, close, stuck, move}
use Rattle.grammar_machine.specs.Table.{Entry}

-- No token pair of the sets begins `child`.
abbrev pub misses : ℕ → ℕ → ℕ → Bool
misses child x y = all_entries (entries child) (λ x1 y1 alone. disjoint x x1 or (not alone and disjoint y y1))

-- Each token pair of the sets begins `child`.
abbrev pub hits : ℕ → ℕ → ℕ → Bool
hits child x y = any_entries (entries child) (λ x1 y1 alone. subset x x1 and (alone or subset y y1))

abbrev pub go_arcs : List (ℕ × ℕ) → ℕ → ℕ → ℕ → Bool
go_arcs [] x y child = false
go_arcs (arc ∷ more) x y child = cond (eqb arc.0 child) (hits child x y) (misses arc.0 x y and go_arcs more x y child)

abbrev pub no_arcs : List (ℕ × ℕ) → ℕ → ℕ → Bool
no_arcs [] x y = true
no_arcs (arc ∷ more) x y = misses arc.0 x y and no_arcs more x y

-- The tests.
unfoldable pub goes : ℕ → ℕ → ℕ → ℕ → ℕ → Bool
goes symbol state x y child = go_arcs (arcs symbol state) x y child

unfoldable pub closes : ℕ → ℕ → ℕ → ℕ → Bool
closes symbol state x y = no_arcs (arcs symbol state) x y and ends symbol state

unfoldable pub sticks : ℕ → ℕ → ℕ → ℕ → Bool
sticks symbol state x y = no_arcs (arcs symbol state) x y and not (ends symbol state)

pub misses-fires : (es : List Entry) (x y near far : ℕ)
    → all_entries es (λ x1 y1 alone. disjoint x x1 or (not alone and disjoint y y1)) ≡ true
    → holds near x ≡ true → holds far y ≡ true → fires_in es near far ≡ false
misses-fires es x y near far t ha hb =
    rw fires-any (no-entry es _ (begun_by near far) t (λ x1 y1 alone p. elim (or-c _ _ p) [
      | inl q ↦ and-false-l _ _ (holds-disjoint near x x1 q ha)
      | inr q ↦ and-false-r (holds near x1)
          (or-false (not-c _ (and-l _ _ q)) (holds-disjoint far y y1 (and-r _ _ q) hb))
    ]))

pub hits-fires : (es : List Entry) (x y near far : ℕ)
    → any_entries es (λ x1 y1 alone. subset x x1 and (alone or subset y y1)) ≡ true → holds near x ≡ true
    → holds far y ≡ true → fires_in es near far ≡ true
hits-fires es x y near far t ha hb = rw fires-any (any-more es _ (begun_by near far) t (λ x1 y1 alone p.
    and-i (holds-subset near x x1 (and-l _ _ p) ha)
    (elim (or-c _ _ (and-r _ _ p)) [ inl q ↦ or-l _ _ q | inr q ↦ or-r _ _ (holds-subset far y y1 q hb) ])))

go-choose : (l : List (ℕ × ℕ)) (e : Bool) (x y near far child : ℕ) → go_arcs l x y child ≡ true
    → holds near x ≡ true → holds far y ≡ true
    → choose l e near far ≡ go child
unfolding fires
go-choose [] e x y near far child t ha hb = absurd (true≢false (sym t))
go-choose (arc ∷ more) e x y near far child t ha hb = elim (either (eqb arc.0 child)) [
  | inl p ↦ (let n : arc.0 ≡ child = eqb-true _ _ p in let f : fires_in (entries child) near far
      ≡ true = hits-fires (entries child) x y near far (rw p at t) ha hb in rw (n, f) refl)
  | inr p ↦ (let t' : misses arc.0 x y and go_arcs more x y child ≡ true = rw p at t in
      rw (misses-fires (entries arc.0) x y near far (and-l _ _ t') ha hb)
      (go-choose more e x y near far child (and-r _ _ t') ha hb))
]

no-choose : (l : List (ℕ × ℕ)) (e : Bool) (x y near far : ℕ) → no_arcs l x y ≡ true
    → holds near x ≡ true → holds far y ≡ true
    → choose l e near far ≡ cond e close stuck
unfolding fires
no-choose [] e x y near far t ha hb = refl
no-choose (arc ∷ more) e x y near far t ha hb = rw (misses-fires (entries arc.0) x y near far (and-l _ _ t) ha hb)
    (no-choose more e x y near far (and-r _ _ t) ha hb)

pub goes-move : (symbol state x y child near far : ℕ) → goes symbol state x y child ≡ true
    → holds near x ≡ true → holds far y ≡ true
    → move symbol state near far ≡ go child
unfolding move goes
goes-move symbol state x y child near far t ha hb =
    go-choose (arcs symbol state) (ends symbol state) x y near far child t ha hb

pub closes-move : (symbol state x y near far : ℕ) → closes symbol state x y ≡ true
    → holds near x ≡ true → holds far y ≡ true
    → move symbol state near far ≡ close
unfolding move closes
closes-move symbol state x y near far t ha hb =
    no-choose (arcs symbol state) (ends symbol state) x y near far (and-l _ _ t) ha hb ∙ (rw (and-r _ _ t) refl)

pub sticks-move : (symbol state x y near far : ℕ) → sticks symbol state x y ≡ true
    → holds near x ≡ true → holds far y ≡ true
    → move symbol state near far ≡ stuck
unfolding move sticks
sticks-move symbol state x y near far t ha hb =
    no-choose (arcs symbol state) (ends symbol state) x y near far (and-l _ _ t) ha hb
    ∙ (rw (not-c _ (and-r _ _ t)) refl)
