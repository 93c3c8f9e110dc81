-- Rows of items, and their tables.
use Rattle.std.proofs.Common.{◌≡◌, ◌≢◌, ℕ, ◌+◌, ◌<◌, ◌≤◌, List, [], ◌∷◌, ◌++◌, length, map, get_or, set, true}
use Rattle.std.proofs.Common.{false, Some, eqb, suc, zero, refl, sym, ◌∙◌, ap, ⊎_elim, append-nil, arith}
use Rattle.std.proofs.lemmas.Bool.{cases_eq, cases_lt}
use Rattle.std.proofs.lemmas.Bool.Decides.{nat_tests}
use Rattle.std.proofs.lemmas.List.{get_or-map, get_or-set_other, get_or-set_same, get_or_append_left, get_or_push}
use Rattle.std.proofs.lemmas.List.{length-append}
use Rattle.std.proofs.lemmas.List.{length-map, length-set, map-set}
use Rattle.std.proofs.lemmas.Option.{slice_get-get_or, slice_get_within}
use Rattle.std.proofs.lemmas.Option.{get_or_from_slice_get}
use Rattle.std.specs.Prelude.{None, Option, option_and_then, option_map, slice_get}
use Rattle.std.specs.declared.alloc.Global.{Global}
use Rattle.std.specs.declared.vec.Vec.{Vec}
use Rattle.document_grammar.specs.declared.kind.SyntaxKind.{SyntaxKind}
use Rattle.document_grammar.specs.declared.kind.SyntaxKind.TheVariants.{ENUM_VALUES_DEFINITION, FIELDS_DEFINITION}
use Rattle.document_grammar.specs.declared.kind.SyntaxKind.TheVariants.{INPUT_FIELDS_DEFINITION}
use Rattle.validation_names.specs.Sites.{Located}
use Rattle.validation_names.specs.declared.sites.Site.{Site}
use Rattle.type_system.specs.Definitions.{items}
use Rattle.type_system.specs.Rows.{AddsItems, AreOf, AreOfRows, AreParts, AreRows, Rows, items_if}
use Rattle.type_system.specs.Rows.{located_row, nothing, row_at}
use Rattle.type_system.specs.Schemas.{as_with_arguments, entered, entered_site}
use Rattle.type_system.specs.Types.{TypeNumbers, first_field, first_named, is_part_of, items_of, part_of, with_those}
use Rattle.type_system.specs.declared.schema.TypeParts.{TypeParts}

-- ---- items that are added to a row
pub read_row : (rows : Rows) (number : ℕ) (row : Vec Site Global) → number < length rows → row ≡ get_or rows number row
    → located_row row ≡ row_at rows number
read_row rows number row inside is =
    ap located_row is ∙ sym (get_or-map located_row rows number row nothing inside)

same_number : (n k : ℕ) → n ≡ k → eqb n k ≡ true
same_number n k e = grind (arith, nat_tests)

other_number : (n k : ℕ) → k ≢ n → eqb n k ≡ false
other_number n k ne = grind (arith, nat_tests)

no_items : (numbers : TypeNumbers) (block : SyntaxKind) (d : Located) (xs : List Located) (k : ℕ)
    → is_part_of numbers k d ≡ false → xs ≡ xs ++ items_if (is_part_of numbers k d) block d
no_items numbers block d xs k none = rw none (sym (append-nil xs))

pub added : (numbers : TypeNumbers) (block : SyntaxKind) (d : Located) (old : Rows) (number : ℕ)
    (row : Vec Site Global)
    → part_of numbers d ≡ Some number → number < length old
    → located_row row ≡ row_at old number ++ items block d → AddsItems numbers block d old (set old number row)
added numbers block d old number row part inside is = record {
  as_many = length-set old number row;
  each = λ k below.
      ⊎_elim
      (λ (e : k ≡ number). rw (e, whole, same) (is ∙ rw (part, same_number number number refl) refl))
      (λ (ne : k ≢ number).
      rw (whole, get_or-set_other (map located_row old) number k (located_row row) nothing ne)
      (no_items numbers block d (row_at old k) k (rw part (other_number number k ne))))
      (cases_eq k number);
}
  where
    whole : map located_row (set old number row) ≡ set (map located_row old) number (located_row row)
    whole = map-set located_row old number row

    same : get_or (set (map located_row old) number (located_row row)) number nothing ≡ located_row row
    same = get_or-set_same (map located_row old) number (located_row row) nothing (rw length-map inside)

-- one definition more
pub rows_more :
    (numbers : TypeNumbers) (block : SyntaxKind) (ds more : List Located) (d : Located) (count : ℕ) (old new : Rows)
    → ((k : ℕ)
    → items_of numbers block more k ≡ items_of numbers block ds k ++ items_if (is_part_of numbers k d) block d)
    → AreRows (items_of numbers block ds) count old
    → AddsItems numbers block d old new → AreRows (items_of numbers block more) count new
rows_more numbers block ds more d count old new split are adds = record {
  as_many = adds.as_many ∙ are.as_many;
  each = λ k below.
      let inside : k < length old = let a = are.as_many in omega arith in
      adds.each k inside ∙ ap (λ xs. xs ++ items_if (is_part_of numbers k d) block d) (are.each k below)
      ∙ sym (split k);
}

-- ---- what each type has
-- a list in which each has a property by its number, with one more
each_more :
    {V : Type 0} (P : ℕ → V → Type 0) (n : ℕ) (xs : List V) (x : V) → length xs ≡ n
    → ((k : ℕ) (v : V) → slice_get xs k ≡ Some v → P k v) → P n x
    → (k : ℕ) (v : V) → slice_get (xs ++ x ∷ []) k ≡ Some v → P k v
each_more P n xs x long are last k v is =
    ⊎_elim (λ (less : k < length xs). are k v (same less ∙ is)) (λ (le : length xs ≤ k). at_end le)
    (cases_lt k (length xs))
  where
    within : k < length (xs ++ x ∷ [])
    within = slice_get_within (xs ++ x ∷ []) k v is

    same : k < length xs → slice_get xs k ≡ slice_get (xs ++ x ∷ []) k
    same less =
        slice_get-get_or xs k x less
        ∙ ap Some (sym (get_or_append_left xs (x ∷ []) x k less))
        ∙ sym (slice_get-get_or (xs ++ x ∷ []) k x within)

    at_end : length xs ≤ k → P k v
    at_end le =
        let l = length-append xs (x ∷ []) in
        let e : k ≡ n = omega (arith, l, within, long) in
        let last_is : v ≡ x = sym (get_or_from_slice_get (xs ++ x ∷ []) k v x is)
        ∙ get_or_push xs x x k (long ∙ sym e) in
        rw (last_is, e) last

-- what one type more has
pub parts_more :
    (numbers : TypeNumbers) (ds : List Located) (fields values inputs : Rows) (n : ℕ) (parts : List TypeParts)
    (own : TypeParts) (d : Located) → slice_get ds n ≡ Some d → AreOfRows numbers ds fields values inputs parts n
    → AreOf numbers d (row_at fields n) (row_at values n) (row_at inputs n) own
    → AreOfRows numbers ds fields values inputs (parts ++ own ∷ []) (n + 1)
parts_more numbers ds fields values inputs n parts own d here are last = record {
  as_many = let l = length-append parts (own ∷ []) in let m = are.as_many in omega (arith, l, m);
  each = λ k other p de pe.
      each_more
      (λ k p. (e : Located) → slice_get ds k ≡ Some e
      → AreOf numbers e (row_at fields k) (row_at values k) (row_at inputs k) p)
      n parts own are.as_many (λ k p pe e de. are.each k e p de pe)
      (λ e de. let both : Some d ≡ Some e = sym here ∙ de in let same : e ≡ d = cc in rw same last) k p pe other de;
}

-- Two lists are as long. Each of two functions says something of an element, or of none.
both_at :
    {R P D : Type 0} (F : Option P → R) (G : Option D → R) (xs : List P) (ys : List D) (k : ℕ)
    → length xs ≡ length ys → F None ≡ G None
    → ((p : P) (d : D) → slice_get xs k ≡ Some p → slice_get ys k ≡ Some d → F (Some p) ≡ G (Some d))
    → F (slice_get xs k) ≡ G (slice_get ys k)
both_at F G [] [] k long none some = none
both_at F G [] (y ∷ ys) k long none some = absurd (omega (arith, long))
both_at F G (x ∷ xs) [] k long none some = absurd (omega (arith, long))
both_at F G (x ∷ xs) (y ∷ ys) zero long none some = some x y refl refl
both_at F G (x ∷ xs) (y ∷ ys) (suc k) long none some = both_at F G xs ys k (omega (arith, long)) none some

pub parts_by_rows :
    (numbers : TypeNumbers) (ds : List Located) (count : ℕ) (fields values inputs : Rows) (parts : List TypeParts)
    → length ds ≡ count
    → AreRows (items_of numbers FIELDS_DEFINITION ds) count fields
    → AreRows (items_of numbers ENUM_VALUES_DEFINITION ds) count values
    → AreRows (items_of numbers INPUT_FIELDS_DEFINITION ds) count inputs
    → AreOfRows numbers ds fields values inputs parts count → AreParts numbers ds parts
parts_by_rows numbers ds count fields values inputs parts long fs vs is are = record {
  fields = λ k name.
      both_at (option_and_then (λ (p : TypeParts). entered p.fields name))
      (option_and_then (λ _. first_field numbers (items_of numbers FIELDS_DEFINITION ds k) name)) parts ds k same refl
      (λ p d pe de.
      (are.each k d p de pe).fields name ∙ ap (λ row. first_field numbers row name) (fs.each k (below k d de)));
  values = λ k name.
      both_at (option_and_then (λ (p : TypeParts). entered_site p.values name))
      (option_and_then (λ _. first_named (items_of numbers ENUM_VALUES_DEFINITION ds k) name)) parts ds k same refl
      (λ p d pe de. (are.each k d p de pe).values name ∙ ap (λ row. first_named row name) (vs.each k (below k d de)));
  inputs = λ k.
      both_at (option_map (λ (p : TypeParts). as_with_arguments p.input))
      (option_map (λ d. with_those numbers d (items_of numbers INPUT_FIELDS_DEFINITION ds k))) parts ds k same refl
      (λ p d pe de.
      ap Some ((are.each k d p de pe).input ∙ ap (with_those numbers d) (is.each k (below k d de))));
}
  where
    same : length parts ≡ length ds
    same = are.as_many ∙ sym long

    below : (k : ℕ) (d : Located) → slice_get ds k ≡ Some d → k < count
    below k d e = let inside = slice_get_within ds k d e in omega (arith, long, inside)
