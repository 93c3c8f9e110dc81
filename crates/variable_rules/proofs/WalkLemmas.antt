-- What a walk from an operation finds, in the words of the definitions.
use Rattle.std.proofs.Common.{◌≡◌, ◌||◌, ℕ, suc, ◌+◌, ◌<◌, List, [], ◌∷◌, ◌++◌, length, take, get_or, cond}
use Rattle.std.proofs.Common.{Option, Some, None, Bool, true, false, not, bytes_eq, arith, refl, sym, ap, ◌∙◌}
use Rattle.std.proofs.Common.{◌≢◌, ◌≤◌, ◌⊎◌, inl, inr, ⊎_elim, zero}
use Rattle.std.proofs.lemmas.Bool.{cases_eq, cases_lt}
use Rattle.std.proofs.lemmas.List.{append-nil, take_more}
use Rattle.std.proofs.lemmas.List.Concat.{flat_map-append}
use Rattle.std.proofs.lemmas.List.Folds.{list_any-append, list_any_at}
use Rattle.std.proofs.lemmas.List.Sorted.{All-permutation, IsPermutation-sym, list_any-IsPermutation}
use Rattle.std.proofs.lemmas.List.Sorted.{sum_by-IsPermutation}
use Rattle.std.specs.List.{All, Contains, flat_map, list_any, sum_by}
use Rattle.std.specs.List.Sorted.{IsNonDecreasingBy, IsPermutation}
use Rattle.std.specs.declared.alloc.Global.{Global}
use Rattle.std.specs.declared.vec.Vec.{Vec}
use Rattle.directed_graph.specs.Graph.{Graph, row_of}
use Rattle.validation_names.specs.Mentions.{Named}
use Rattle.validation_names.specs.Names.{Entries, Name}
use Rattle.validation_names.specs.Sites.{Located}
use Rattle.validation_names.specs.declared.name_mentions.Mention.{Mention}
use Rattle.validation_rules.proofs.AddLemmas.{adds_rest, adds_then}
use Rattle.validation_rules.specs.Broken.{undefined_variables, undefined_variables_in, unknown, unused_variables}
use Rattle.validation_rules.specs.Broken.{variables_of}
use Rattle.validation_rules.specs.Graphs.{IsSpreadGraph}
use Rattle.validation_rules.specs.Parts.{Parts, at, has_item, is_declared, is_used, reached, site_at}
use Rattle.validation_rules.specs.Violations.{Adds, found}
use Rattle.validation_rules.specs.declared.violations.Rule.{Rule}
use Rattle.validation_rules.specs.declared.violations.Rule.TheVariants.{NoUndefinedVariables}
use Rattle.validation_rules.specs.declared.violations.Violations.{Violations}
use Rattle.variable_rules.proofs.KnownLemmas.{all_known, firsts_any, none_fails, none_kept, same_names}
use Rattle.variable_rules.proofs.ReachLemmas.{in_order_are, reached_inside}
use Rattle.variable_rules.proofs.RowLemmas.{capped_sum, sum_both, sum_none}
use Rattle.variable_rules.specs.Steps.{EndsAt, before, capped, is_used_up_at, steps_of, use_steps_in}
use Rattle.variable_rules.specs.Steps.{walk_steps_in}
use Rattle.variable_rules.specs.UsedNames.{AreFirsts, AreUsedNames, is_known, row_at}

-- those that are found are definitions
pub inside_reached :
    (ds : List Parts) (operation : ℕ) (numbers : List ℕ) → IsPermutation numbers (reached ds operation)
    → All (λ number. number < length ds) numbers
inside_reached ds operation numbers are =
    All-permutation (λ number. number < length ds) (reached ds operation) numbers
    (IsPermutation-sym numbers (reached ds operation) are)
    (reached_inside ds operation)

-- numbers that are read again, and within the rows
pub read_again : (xs ys zs : List ℕ) → ys ≡ xs → IsPermutation xs zs → IsPermutation ys zs
read_again xs ys zs same are = rw same are

pub inside_rows :
    (ds : List Parts) (rows : List (Vec Mention Global)) (operation : ℕ) (numbers : List ℕ) → AreUsedNames ds rows
    → IsPermutation numbers (reached ds operation) → All (λ number. number < length rows) numbers
inside_rows ds rows operation numbers names are = rw names.as_many (inside_reached ds operation numbers are)

-- ---- items whose names are not known, told in two ways
pub unknown_are :
    (rule : Rule) (one other : Option Located) (knows test : Name → Bool) (xs ys : List Named) → one ≡ other
    → ((q : Name) → knows q ≡ test q) → xs ≡ ys
    → unknown rule one knows xs ≡ unknown rule other test ys
unknown_are rule one other knows test xs ys same agree items = λ i. unknown rule (same i) (λ q. agree q i) (items i)

-- one item after another
pub flat_more :
    {A B : Type 0} (f : A → List B) (xs : List A) (i : ℕ) (d : A) → i < length xs
    → flat_map f (take (i + 1) xs) ≡ flat_map f (take i xs) ++ f (get_or xs i d)
flat_more f xs i d below =
    ap (flat_map f) (take_more xs i d below) ∙ flat_map-append f (take i xs) (get_or xs i d ∷ [])
    ∙ ap (λ ys. flat_map f (take i xs) ++ ys) (append-nil (f (get_or xs i d)))

-- an item of several rows
named_flat : (names_of : ℕ → List Named) (numbers : List ℕ) (q : Name)
    → has_item (flat_map names_of numbers) q ≡ list_any (λ number. has_item (names_of number) q) numbers
named_flat names_of [] q = refl
named_flat names_of (number ∷ numbers) q =
    list_any-append (λ (i : Named). bytes_eq i.name q) (names_of number) (flat_map names_of numbers)
    ∙ ap (λ b. has_item (names_of number) q || b) (named_flat names_of numbers q)

flat_none : {A B : Type 0} (f : A → List B) (xs : List A) → ((x : A) → Contains xs x → f x ≡ []) → flat_map f xs ≡ []
flat_none f [] none = refl
flat_none f (x ∷ xs) none =
    rw (none x (0, omega arith, refl)) (flat_none f xs (λ y (k, below, is). none y (suc k, omega arith, is)))

-- a row has the names that its definition uses
pub row_names : (ds : List Parts) (rows : List (Vec Mention Global)) → AreUsedNames ds rows → (number : ℕ) (q : Name)
    → has_item (row_at rows number) q ≡ has_item (at ds number).used q
row_names ds rows names number q =
    ap (λ items. has_item items q) (names.each number) ∙ same_names (at ds number).used q

-- the names that the definitions reached use
module _ {V : Type 0} (ds : List Parts) (rows : List (Vec Mention Global)) (operation : ℕ) (numbers : List ℕ)
    (known : Entries V) (firsts : List Named)
    (names : AreUsedNames ds rows) (are : IsPermutation numbers (reached ds operation))
    (found : AreFirsts known firsts (flat_map (row_at rows) numbers)) where
  -- those that are entered are those that it uses
  pub used_is : (q : Name) → is_known known q ≡ is_used ds operation q
  used_is q =
      found.known q ∙ named_flat (row_at rows) numbers q
      ∙ list_any-IsPermutation (λ number. has_item (row_at rows number) q) numbers (reached ds operation) are
      ∙ (λ i. list_any (λ number. row_names ds rows names number q i) (reached ds operation))

  -- where no first one is unknown, all names are declared
  all_declared : (knows : Name → Bool) → ((q : Name) → knows q ≡ is_declared ds operation q)
      → list_any (λ (i : Named). not (knows i.name)) firsts ≡ false
      → (number : ℕ) → Contains (reached ds operation) number
      → (q : Name) → has_item (at ds number).used q ≡ true → is_declared ds operation q ≡ true
  all_declared knows agree none number there q has =
      let used : is_used ds operation q ≡ true =
      list_any_at (λ n. has_item (at ds n).used q) (reached ds operation) there.0 number there.1 (rw there.2 has) in
      let first : has_item firsts q ≡ true =
      ap (λ items. has_item items q) found.are ∙ same_names (flat_map (row_at rows) numbers) q ∙ sym (found.known q)
      ∙ used_is q ∙ used in
      sym (agree q) ∙ all_known NoUndefinedVariables (Some (site_at ds operation)) knows firsts none q first

  -- then there is nothing to list
  pub none_undefined : (knows : Name → Bool) → ((q : Name) → knows q ≡ is_declared ds operation q)
      → list_any (λ (i : Named). not (knows i.name)) firsts ≡ false → undefined_variables ds operation ≡ []
  none_undefined knows agree none =
      flat_none (undefined_variables_in ds operation) (reached ds operation)
      (λ number there.
      none_kept NoUndefinedVariables (Some (site_at ds operation)) (is_declared ds operation) (at ds number).used
      (all_declared knows agree none number there))

  -- and no definition is read use by use
  pub no_use_steps : (knows : Name → Bool) → ((q : Name) → knows q ≡ is_declared ds operation q)
      → list_any (λ (i : Named). not (knows i.name)) firsts ≡ false
      → sum_by (use_steps_in ds operation) (reached ds operation) ≡ 0
  no_use_steps knows agree none =
      sum_none (use_steps_in ds operation) (reached ds operation)
      (λ number there.
      let e = none_fails NoUndefinedVariables (Some (site_at ds operation)) (is_declared ds operation)
      (at ds number).used (all_declared knows agree none number there) in
      rw e refl)

-- the steps of reading a definition use by use, as its row tells whether that is done
pub use_steps_are :
    (ds : List Parts) (rows : List (Vec Mention Global)) (operation number : ℕ) (knows : Name → Bool) (b : Bool)
    → AreUsedNames ds rows → ((q : Name) → knows q ≡ is_declared ds operation q)
    → list_any (λ (i : Named). not (knows i.name)) (row_at rows number) ≡ b
    → use_steps_in ds operation number ≡ cond b (length (at ds number).used) 0
use_steps_are ds rows operation number knows b names agree is =
    let used = (at ds number).used in
    let e : list_any (λ (i : Named). not (is_declared ds operation i.name)) used ≡ b =
    sym (firsts_any (λ q. not (is_declared ds operation q)) used)
    ∙ ap (list_any (λ (i : Named). not (is_declared ds operation i.name))) (sym (names.each number))
    ∙ (λ i. list_any (λ (x : Named). not (sym (agree x.name) i)) (row_at rows number)) ∙ is in
    rw e refl

-- ---- both rules
pub unused_alone : (ds : List Parts) (operation : ℕ) (old new : Violations) → undefined_variables ds operation ≡ []
    → Adds (unused_variables ds operation) old new → Adds (variables_of ds operation) old new
unused_alone ds operation old new none first = rw (none, append-nil (unused_variables ds operation)) first

pub adds_operation :
    (ds : List Parts) (operation : ℕ) (numbers sorted : List ℕ) (old mid new : Violations)
    → IsPermutation numbers (reached ds operation)
    → IsPermutation numbers sorted → IsNonDecreasingBy (λ k. k) sorted → Adds (unused_variables ds operation) old mid
    → Adds (flat_map (undefined_variables_in ds operation) sorted) mid new → Adds (variables_of ds operation) old new
adds_operation ds operation numbers sorted old mid new are same in_order first second =
    let is : sorted ≡ reached ds operation = in_order_are ds operation numbers sorted are same in_order in
    adds_then (unused_variables ds operation) (undefined_variables ds operation) old mid new first (rw is at second)

-- ---- steps
module _ (ds : List Parts) (rows : List (Vec Mention Global)) (graph : Graph) (operation : ℕ) (numbers : List ℕ)
    (names : AreUsedNames ds rows)
    (spreads : IsSpreadGraph ds graph) (are : IsPermutation numbers (reached ds operation)) where
  walk_is : sum_by (λ number. length (row_at rows number) + length (row_of graph number) + 1) numbers
      ≡ sum_by (walk_steps_in ds) (reached ds operation)
  walk_is =
      (λ i. sum_by (λ number. length (names.each number i) + length (spreads.edges number i) + 1) numbers)
      ∙ sym (sum_by-IsPermutation (walk_steps_in ds) numbers (reached ds operation) are)

  both : steps_of ds operation
      ≡ sum_by (walk_steps_in ds) (reached ds operation) + sum_by (use_steps_in ds operation) (reached ds operation)
  both = sum_both (walk_steps_in ds) (use_steps_in ds operation) (reached ds operation)

  pub walk_alone : (walk : ℕ)
      → walk ≡ capped (sum_by (λ number. length (row_at rows number) + length (row_of graph number) + 1) numbers)
      → sum_by (use_steps_in ds operation) (reached ds operation) ≡ 0
      → walk ≡ capped (steps_of ds operation)
  walk_alone walk is none =
      let sum : steps_of ds operation ≡ sum_by (walk_steps_in ds) (reached ds operation) =
      let b = both in omega arith in
      is ∙ ap capped (walk_is ∙ sym sum)

  pub walk_and_uses : (walk uses : ℕ) (sorted : List ℕ) → IsPermutation numbers sorted
      → walk ≡ capped (sum_by (λ number. length (row_at rows number) + length (row_of graph number) + 1) numbers)
      → uses ≡ capped (sum_by (use_steps_in ds operation) sorted)
      → capped (walk + uses) ≡ capped (steps_of ds operation)
  walk_and_uses walk uses sorted same is uses_are =
      let one = sum_by-IsPermutation (use_steps_in ds operation) numbers sorted same in
      let other = sum_by-IsPermutation (use_steps_in ds operation) numbers (reached ds operation) are in
      rw (is, uses_are, walk_is, one, ← other, both) (capped_sum _ _)

-- ---- where the steps are used up
tells : (b : Bool) → (b ≡ true) ⊎ (b ≡ false)
tells true = inl refl
tells false = inr refl

-- the first number at which a test holds, if there is one
first_end : (test : ℕ → Bool) (n : ℕ)
    → ((k : ℕ) → k < n → test k ≡ false)
    ⊎ ((end : ℕ) × ((end < n) × (test end ≡ true) × ((k : ℕ) → k < end → test k ≡ false)))
first_end test zero = inl (λ k below. absurd (omega arith))
first_end test (suc n) =
    ⊎_elim
    (λ (none : (k : ℕ) → k < n → test k ≡ false).
    ⊎_elim
    (λ (is : test n ≡ true). let last : n < suc n = omega arith in inr (n, (last, is, none)))
    (λ (is : test n ≡ false). inl (λ k below.
    ⊎_elim
    (λ (e : k ≡ n). rw e is)
    (λ (other : k ≢ n). let before : k < n = omega arith in none k before)
    (cases_eq k n)))
    (tells (test n)))
    (λ (found : (end : ℕ) × ((end < n) × (test end ≡ true) × ((k : ℕ) → k < end → test k ≡ false))).
    let below = found.1.0 in
    let inside : found.0 < suc n = omega arith in
    inr (found.0, (inside, found.1.1, found.1.2)))
    (first_end test n)

pub ends_somewhere : (steps : Option ℕ) (ds : List Parts) (operations : List ℕ)
    → (end : Option ℕ) × EndsAt steps ds operations end
ends_somewhere steps ds operations =
    ⊎_elim
    (λ (none : (k : ℕ) → k < length operations → is_used_up_at steps ds operations k ≡ false). (None, none))
    (λ (found : (end : ℕ) × ((end < length operations) × (is_used_up_at steps ds operations end ≡ true)
    × ((k : ℕ) → k < end → is_used_up_at steps ds operations k ≡ false))). (Some found.0, found.1))
    (first_end (is_used_up_at steps ds operations) (length operations))

pub ends_once : (steps : Option ℕ) (ds : List Parts) (operations : List ℕ) (one other : Option ℕ)
    → EndsAt steps ds operations one
    → EndsAt steps ds operations other → one ≡ other
ends_once steps ds operations None None first second = refl
ends_once steps ds operations None (Some k) first second =
    absurd (let e : false ≡ true = sym (first k second.0) ∙ second.1 in cc)
ends_once steps ds operations (Some j) None first second =
    absurd (let e : false ≡ true = sym (second j first.0) ∙ first.1 in cc)
ends_once steps ds operations (Some j) (Some k) first second =
    ⊎_elim
    (λ (less : j < k). absurd (let e : false ≡ true = sym (second.2 j less) ∙ first.1 in cc))
    (λ (le : k ≤ j).
    ⊎_elim
    (λ (less : k < j). absurd (let e : false ≡ true = sym (first.2 k less) ∙ second.1 in cc))
    (λ (other : j ≤ k). ap (λ n. Some n) (let e : j ≡ k = omega arith in e))
    (cases_lt k j))
    (cases_lt j k)

take_both : {A : Type 0} (n k : ℕ) (xs : List A) → n ≤ k → take n (take k xs) ≡ take n xs
take_both zero k xs le = refl
take_both (suc n) zero xs le = absurd (omega arith)
take_both (suc n) (suc k) [] le = refl
take_both (suc n) (suc k) (x ∷ xs) le = ap (λ ys. x ∷ ys) (take_both n k xs (omega arith))

-- A list that is full needs no more, wherever the steps are used up later.
pub adds_to_end :
    (steps : Option ℕ) (ds : List Parts) (operations : List ℕ) (n : ℕ) (end : Option ℕ) (old v : Violations)
    → v.most ≤ length (found v)
    → ((k : ℕ) → k < n → is_used_up_at steps ds operations k ≡ false) → EndsAt steps ds operations end
    → Adds (flat_map (variables_of ds) (take n operations)) old v
    → Adds (flat_map (variables_of ds) (before end operations)) old v
adds_to_end steps ds operations n None old v full going_on ends adds =
    adds_rest (variables_of ds) operations n old v full adds
adds_to_end steps ds operations n (Some k) old v full going_on ends adds =
    ⊎_elim
    (λ (less : k < n). absurd (let e : false ≡ true = sym (going_on k less) ∙ ends.1 in cc))
    (λ (le : n ≤ k).
    adds_rest (variables_of ds) (take k operations) n old v full (rw (take_both n k operations le) adds))
    (cases_lt k n)
