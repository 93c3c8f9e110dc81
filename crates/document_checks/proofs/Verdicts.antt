-- The figures of the operations of some documents: there is one list of them, and none where there is an error.
use Rattle.std.proofs.Common.{◌≡◌, ◌≢◌, ℕ, ◌≤◌, Bool, true, false, List, [], ◌∷◌, map, refl, sym, ap, ap₂, ◌∙◌}
use Rattle.std.proofs.Common.{subst, arith, get_or, cond, Option, Some, None, ltb}
use Rattle.std.proofs.lemmas.Bool.Decides.{nat_tests}
use Rattle.std.proofs.lemmas.List.Elements.{All-get_or}
use Rattle.std.specs.Prelude.{All, find}
use Rattle.validation_names.specs.Definitions.{Defined, as_defined}
use Rattle.cost_figures.specs.Limiting.{figure_of, limits_in_order}
use Rattle.cost_figures.specs.declared.figures.Figures.{Figures}
use Rattle.cost_figures.specs.declared.limits.Limit.{Limit}
use Rattle.cost_limits.specs.Limits.{IsWithin, IsExceeded}
use Rattle.cost_limits.specs.Measures.{Measure, AreMeasures, AreTwins, IsMeasureError}
use Rattle.cost_limits.specs.declared.limits.Exceeded.{Exceeded}
use Rattle.cost_limits.specs.declared.measures.MeasureError.{MeasureError}
use Rattle.cost_limits.specs.declared.measures.MeasureError.TheVariants.{SameName, Cycle, Undefined, Memory}
use Rattle.cost_limits.specs.declared.measures.MeasureOptions.{MeasureOptions}
use Rattle.document_checks.proofs.Measuring.{one_list, no_cycle, all_defined}

-- ---- the figures are one list

pairs : (ms ns : List Measure) → map (λ m. m.operation) ms ≡ map (λ m. m.operation) ns
    → map (λ m. m.figures) ms ≡ map (λ m. m.figures) ns → ms ≡ ns
pairs [] [] o f = refl
pairs [] (n ∷ ns) o f = absurd (let r : ⊥ = cc in r)
pairs (m ∷ ms) [] o f = absurd (let r : ⊥ = cc in r)
pairs (m ∷ ms) (n ∷ ns) o f =
    let operation : m.operation ≡ n.operation = cc in
    let figures : m.figures ≡ n.figures = cc in
    let operations_after : map (λ m. m.operation) ms ≡ map (λ m. m.operation) ns = cc in
    let figures_after : map (λ m. m.figures) ms ≡ map (λ m. m.figures) ns = cc in
    ap₂ (λ (x : Measure) (xs : List Measure). x ∷ xs) (λ i. record { operation = operation i; figures = figures i })
    (pairs ms ns operations_after figures_after)

pub one_measures : (options : MeasureOptions) (ds : List Defined) (ms ns : List Measure) → AreMeasures options ds ms
    → AreMeasures options ds ns → ms ≡ ns
one_measures options ds ms ns a b =
    pairs ms ns (a.operations_are ∙ sym b.operations_are) (one_list a.figures_are b.figures_are)

-- ---- with an error there are none

none_of_twins : (options : MeasureOptions) (ds : List Defined) (a b : Defined) (ms : List Measure)
    → AreMeasures options ds ms → AreTwins ds a b → ⊥
none_of_twins options ds a b ms m t =
    let s = t.is_second in
    omega (arith, ap number (sym s.first_is ∙ m.distinct t.second s.name s.second_is), s.apart)
  where
    number : Option ℕ → ℕ
    number (Some n) = n
    number None = 0

pub no_figures : (options : MeasureOptions) (ds : List Defined) (e : MeasureError) → e ≢ Memory
    → IsMeasureError options ds e → (ms : List Measure) → AreMeasures options ds ms → ⊥
no_figures options ds (SameName a b) other error ms m =
    none_of_twins options ds (as_defined a) (as_defined b) ms m error
no_figures options ds (Cycle span) other error ms m = no_cycle error.0 span m.figures_are error.1 error.2
no_figures options ds (Undefined span) other error ms m = all_defined error.0 span m.figures_are error.1 error.2
no_figures options ds Memory other error ms m = other refl

-- ---- limits

first_of : (p : Limit → Bool) (b : Bool) (k l : Limit) (more : Option Limit) → p k ≡ b → cond b (Some k) more ≡ Some l
    → (more ≡ Some l → p l ≡ true)
    → p l ≡ true
first_of p true k l more h f later = let same : k ≡ l = cc in subst (λ (m : Limit). p m ≡ true) same h
first_of p false k l more h f later = later f

found : (p : Limit → Bool) (ls : List Limit) (l : Limit) → find p ls ≡ Some l → p l ≡ true
found p [] l e = absurd (let r : ⊥ = cc in r)
found p (k ∷ ls) l e = first_of p (p k) k l (find p ls) refl e (found p ls l)

less : (m n : ℕ) → ltb m n ≡ true → n ≤ m → ⊥
less m n e le = grind (arith, nat_tests)

pub exceeds : (measures : List Measure) (limits : Figures) (e : Exceeded) → IsExceeded measures limits e
    → All (IsWithin limits) measures → ⊥
exceeds measures limits e x all =
    let one : IsWithin limits (get_or measures x.number x.measure) =
    All-get_or (IsWithin limits) measures x.number x.measure x.inside all in
    let m : IsWithin limits x.measure = subst (IsWithin limits) x.measure_is one in
    less (figure_of e.limit limits) (figure_of e.limit x.measure.figures)
    (found (λ l. ltb (figure_of l limits) (figure_of l x.measure.figures)) limits_in_order e.limit x.limit_is)
    (m e.limit)
