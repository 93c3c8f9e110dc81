-- Rows of names, and sums of steps.
use Rattle.std.proofs.Common.{◌≡◌, ◌≢◌, ℕ, suc, ◌+◌, ◌<◌, ◌≤◌, List, [], ◌∷◌, ◌++◌, length, map, get_or, arith, refl}
use Rattle.std.proofs.Common.{sym, ap, ◌∙◌, ⊎_elim}
use Rattle.std.proofs.Math.ListN.{get_or-map}
use Rattle.std.proofs.lemmas.Bool.{cases_eq, cases_lt}
use Rattle.std.proofs.lemmas.List.{get_or_append_left, get_or_default, get_or_past, get_or_push, length-append}
use Rattle.std.proofs.lemmas.List.{length-map, map-append}
use Rattle.std.proofs.lemmas.List.Sums.{sum_by-cons}
use Rattle.std.specs.List.{Contains, sum_by}
use Rattle.std.specs.declared.alloc.Global.{Global}
use Rattle.std.specs.declared.vec.Vec.{Vec}
use Rattle.validation_names.specs.Mentions.{Named}
use Rattle.validation_names.specs.declared.name_mentions.Mention.{Mention}
use Rattle.validation_rules.specs.Parts.{Parts, at, nothing}
use Rattle.variable_rules.specs.Steps.{capped}
use Rattle.variable_rules.specs.UsedNames.{AreUsedNames, firsts_of, items_of, row_at}

-- the rows of the first n definitions
pub record AreRows (ds : List Parts) (n : ℕ) (rows : List (Vec Mention Global)) : Type 0 where
  pub as_many : length rows ≡ n
  pub each : (k : ℕ) → k < n → row_at rows k ≡ firsts_of (at ds k).used

pub no_rows : (ds : List Parts) (rows : List (Vec Mention Global)) → rows ≡ [] → AreRows ds 0 rows
no_rows ds rows none = record {
  as_many = ap length none;
  each = λ k below. absurd (omega arith);
}

pub rows_more :
    (ds : List Parts) (n : ℕ) (old new : List (Vec Mention Global)) (row : Vec Mention Global) (used : List Named)
    → AreRows ds n old
    → new ≡ old ++ row ∷ [] → (at ds n).used ≡ used → items_of row ≡ firsts_of used → AreRows ds (n + 1) new
rows_more ds n old new row used are is same_used same = record {
  as_many = let l = ap length is in let m = length-append old (row ∷ []) in let a = are.as_many in omega arith;
  each = λ k below.
      ⊎_elim
      (λ (e : k ≡ n). rw (e, last, same_used) same)
      (λ (ne : k ≢ n). let less : k < n = omega arith in rw (earlier k less) (are.each k less))
      (cases_eq k n);
}
  where
    whole : map items_of new ≡ map items_of old ++ items_of row ∷ []
    whole = ap (map items_of) is ∙ map-append items_of old (row ∷ [])

    long : length (map items_of old) ≡ n
    long = length-map old items_of ∙ are.as_many

    last : row_at new n ≡ items_of row
    last = ap (λ xs. get_or xs n []) whole ∙ get_or_push (map items_of old) (items_of row) [] n long

    earlier : (k : ℕ) → k < n → row_at new k ≡ row_at old k
    earlier k less = ap (λ xs. get_or xs k []) whole
        ∙ get_or_append_left (map items_of old) (items_of row ∷ []) [] k (omega (arith, long))

pub rows_all : (ds : List Parts) (rows : List (Vec Mention Global)) → AreRows ds (length ds) rows → AreUsedNames ds rows
rows_all ds rows are = record {
  as_many = are.as_many;
  each = λ k.
      ⊎_elim
      (λ (below : k < length ds). are.each k below)
      (λ (above : length ds ≤ k). rw (no_row k above, no_use k above) refl)
      (cases_lt k (length ds));
}
  where
    no_row : (k : ℕ) → length ds ≤ k → row_at rows k ≡ []
    no_row k above = get_or_past (map items_of rows) k []
        (let l = length-map rows items_of in let a = are.as_many in omega arith)

    no_use : (k : ℕ) → length ds ≤ k → (at ds k).used ≡ []
    no_use k above = ap (λ (d : Parts). d.used) (get_or_past ds k nothing above)

-- the row that an index reads
pub row_read :
    (rows : List (Vec Mention Global)) (n : ℕ) (row : Vec Mention Global) → n < length rows → row ≡ get_or rows n row
    → row_at rows n ≡ items_of row
row_read rows n row below is =
    get_or_default (map items_of rows) n [] (items_of row) (rw length-map below) ∙ get_or-map items_of rows n row
    ∙ ap items_of (sym is)

-- ---- sums
pub sum_both : {A : Type 0} (f g : A → ℕ) (xs : List A) → sum_by (λ x. f x + g x) xs ≡ sum_by f xs + sum_by g xs
sum_both f g [] = refl
sum_both f g (x ∷ xs) =
    let rest = sum_both f g xs in
    let a = sum_by-cons (λ y. f y + g y) x xs in
    let b = sum_by-cons f x xs in
    let c = sum_by-cons g x xs in
    omega arith

pub sum_none : {A : Type 0} (f : A → ℕ) (xs : List A) → ((x : A) → Contains xs x → f x ≡ 0) → sum_by f xs ≡ 0
sum_none f [] none = refl
sum_none f (x ∷ xs) none =
    let first = none x (0, omega arith, refl) in
    let rest = sum_none f xs (λ y (k, below, is). none y (suc k, omega arith, is)) in
    let cons = sum_by-cons f x xs in
    omega arith

-- numbers up to the greatest `usize`
pub capped_sum : (m n : ℕ) → capped (capped m + capped n) ≡ capped (m + n)
capped_sum m n = omega arith
