-- Open documents by their names.
use Rattle.std.proofs.Common.{◌≡◌, ℕ, suc, zero, Bool, true, false, List, [], ◌∷◌, map, Option, Some, None, option_map}
use Rattle.std.proofs.Common.{nat_cmp, refl, sym, ap, ◌∙◌, ◌++◌, append_assoc, String, BTreeMap, BTreeSet, inl, inr}
use Rattle.std.proofs.Common.{string_bytes, string_cmp, subst, arith}
use Rattle.std.proofs.lemmas.List.Elements.{Contains-append_cases, Contains-append_left, Contains-append_right}
use Rattle.std.proofs.lemmas.Map.{update_other}
use Rattle.std.proofs.lemmas.Map.Text.{btree_map_updates_text, is_eq-slice_cmp}
use Rattle.std.proofs.lemmas.Map.Views.{All-found}
use Rattle.std.proofs.lemmas.Slice.Eq.{bytes_eq-Decides}
use Rattle.std.specs.BTreeMap.{IsOrdered, UpdatesBy, get_by_text, is_at, values}
use Rattle.std.specs.BTreeSet.{contains_text}
use Rattle.std.specs.Bool.{Decides}
use Rattle.std.specs.Cmp.Lexicographic.{slice_cmp}
use Rattle.std.specs.List.{All, Contains}
use Rattle.std.specs.Map.{lookup, values_of}
use Rattle.std.specs.Prelude.{◌↔◌, ◌⊎◌, cond, filter, is_some, not, unwrap_or}
use Rattle.std.specs.Str.{bytes_eq}
use Rattle.std.specs.String.{string_cmp_total}
use Rattle.gqlls_server.specs.Dialogue.{Updates}
use Rattle.gqlls_server.specs.State.{entries_beside, entries_that}
use Rattle.gqlls_server.specs.declared.documents.Document.{Document}

-- a test that decides a false fact is false
pub refuted : {P : Type 0} (r : Bool) → Decides r P → ¬ P → r ≡ false
refuted true d refutes = absurd (refutes (d.0 refl))
refuted false d refutes = refl

-- what a map has after a change at one name
pub updated : {A B : Type 0} (kept : Document → B) (uri key : List ℕ) (old new : BTreeMap (String A) Document)
    (document : Option Document) (value : Option B)
    → key ≡ uri → UpdatesBy string_cmp (λ k. slice_cmp nat_cmp key (string_bytes k)) old new document
    → option_map kept document ≡ value
    → Updates uri value (λ name. option_map kept (get_by_text old name))
    (λ name. option_map kept (get_by_text new name))
updated {B = B} kept uri key old new document value is updates has =
    let before : List ℕ → Option B = λ name. option_map kept (get_by_text old name) in
    let after : List ℕ → Option B = λ name. option_map kept (get_by_text new name) in
    let at : (u : List ℕ) → Type 0 = λ u. Updates u value before after in
    subst at is (record {
      this = ap (option_map kept) updates.1 ∙ has;
      others = λ name apart.
          let differs = refuted (bytes_eq key name) (bytes_eq-Decides key name) (λ e. apart (sym e)) in
          ap (option_map kept)
          (btree_map_updates_text key old new document updates name
          ∙ update_other bytes_eq (get_by_text old) key document name differs);
    })

-- ---- what all documents have

pub later : {A : Type 0} (x y : A) (xs : List A) → Contains xs y → Contains (x ∷ xs) y
later x y xs (k, below, is) = (suc k, omega arith, is)

module _ {K X B : Type 0} (kept : X → B) where
  -- at the first entry or later
  first_or_later : (entry : K × X) (entries : List (K × X)) (found : Option X) (b : B) (t : Bool)
      → (option_map kept found ≡ Some b → Contains (map kept (values_of entries)) b)
      → option_map kept (cond t (Some entry.1) found) ≡ Some b
      → Contains (kept entry.1 ∷ map kept (values_of entries)) b
  first_or_later entry entries found b true rest e = (0, omega arith, ap (λ (o : Option B). unwrap_or o b) e)
  first_or_later entry entries found b false rest e = later (kept entry.1) b (map kept (values_of entries)) (rest e)

  -- what a look-up finds is there
  found_among : (test : K → Bool) (entries : List (K × X)) (b : B) → option_map kept (lookup test entries) ≡ Some b
      → Contains (map kept (values_of entries)) b
  found_among test [] b e = absurd (let no : false ≡ true = ap is_some e in cc no)
  found_among test (entry ∷ entries) b e =
      first_or_later entry entries (lookup test entries) b (test entry.0) (λ found. found_among test entries b found) e

  -- what is there is an entry's
  entry_of : (P : K × X → Type 0) (entries : List (K × X)) (b : B) → All P entries
      → Contains (map kept (values_of entries)) b
      → (entry : K × X) × P entry × (kept entry.1 ≡ b)
  entry_of P [] b all (k, below, is) = absurd (omega arith)
  entry_of P (entry ∷ entries) b all (zero, below, is) = (entry, all 0 entry (omega arith), is)
  entry_of P (entry ∷ entries) b all (suc k, below, is) =
      entry_of P entries b (λ k d inside. all (suc k) d (omega arith)) (k, omega arith, is)

-- what is in one of two lists
pub in_either : {B : Type 0} (xs ys : List B) (b : B) {P Q : Type 0} → Contains xs b ↔ P → Contains ys b ↔ Q
    → Contains (xs ++ ys) b ↔ (P ⊎ Q)
in_either xs ys b p q = (
  λ there. elim (Contains-append_cases xs ys b there) [
    | inl one ↦ inl (p.0 one)
    | inr one ↦ inr (q.0 one)
  ],
  λ either. elim either [
    | inl one ↦ Contains-append_left xs ys b (p.1 one)
    | inr one ↦ Contains-append_right xs ys b (q.1 one)
  ],
)

-- the documents have just what is kept under some name
pub all_of : {A B : Type 0} (kept : Document → B) (documents : BTreeMap (String A) Document)
    → IsOrdered string_cmp documents → (b : B)
    → Contains (map kept (values documents)) b
    ↔ ((name : List ℕ) × (option_map kept (get_by_text documents name) ≡ Some b))
all_of {A = A} {B = B} kept documents ordered b = (
  λ there.
      let e = entry_of kept (λ (e : String A × Document). lookup (is_at (string_cmp e.0)) documents.entries ≡ Some e.1)
      documents.entries b
      (All-found string_cmp_total documents ordered) there in
      (string_bytes e.0.0, ap (option_map kept) e.1 ∙ ap (λ (x : B). Some x) e.2),
  λ some. found_among kept (is_at (λ k. slice_cmp nat_cmp some.0 (string_bytes k))) documents.entries b some.1,
)

-- ---- what some documents have

-- a function after another
pub map_twice : {A B C : Type 0} (g : B → C) (f : A → B) (xs : List A) → map g (map f xs) ≡ map (λ x. g (f x)) xs
map_twice g f [] = refl
map_twice {C = C} g f (x ∷ xs) = ap (λ (rest : List C). g (f x) ∷ rest) (map_twice g f xs)

-- what an option has
pub some_from : {X B : Type 0} (f : X → B) (o : Option X) (b : B) → option_map f o ≡ Some b
    → (x : X) × (o ≡ Some x) × (f x ≡ b)
some_from f None b e = absurd (let no : false ≡ true = ap is_some e in cc no)
some_from {B = B} f (Some x) b e = (x, refl, ap (λ (o : Option B). unwrap_or o b) e)

module _ {K X B : Type 0} (kept : K × X → B) (test : K × X → Bool) where
  -- what a look-up finds, where what it looks for passes
  among_passed : (entry : K × X) (passed : List (K × X)) (found : Option X) (x : X) (b : B) (is_it passes : Bool)
      → (is_it ≡ true → passes ≡ true)
      → (is_it ≡ true → entry.1 ≡ x → kept entry ≡ b) → (found ≡ Some x → Contains (map kept passed) b)
      → cond is_it (Some entry.1) found ≡ Some x → Contains (map kept (cond passes (entry ∷ passed) passed)) b
  among_passed entry passed found x b true true agree has rest e =
      (0, omega arith, has refl (ap (λ (o : Option X). unwrap_or o x) e))
  among_passed entry passed found x b true false agree has rest e = absurd (let no : false ≡ true = agree refl in cc no)
  among_passed entry passed found x b false true agree has rest e = later (kept entry) b (map kept passed) (rest e)
  among_passed entry passed found x b false false agree has rest e = rest e

  found_passed : (wanted : K → Bool) (x : X) (b : B) → ((entry : K × X) → wanted entry.0 ≡ true → test entry ≡ true)
      → ((entry : K × X) → wanted entry.0 ≡ true → entry.1 ≡ x → kept entry ≡ b) → (entries : List (K × X))
      → lookup wanted entries ≡ Some x → Contains (map kept (filter test entries)) b
  found_passed wanted x b agree has [] e = absurd (let no : false ≡ true = ap is_some e in cc no)
  found_passed wanted x b agree has (entry ∷ entries) e =
      among_passed entry (filter test entries) (lookup wanted entries) x b (wanted entry.0) (test entry)
      (agree entry) (has entry)
      (found_passed wanted x b agree has entries) e

  -- an entry that passes was added
  pub passed_more : (entry : K × X) (entries : List (K × X)) (found now all : List B) → test entry ≡ true
      → now ≡ found ++ kept entry ∷ []
      → found ++ map kept (filter test (entry ∷ entries)) ≡ all → now ++ map kept (filter test entries) ≡ all
  passed_more entry entries found now all passes added so_far =
      ap (λ (x : List B). x ++ map kept (filter test entries)) added
      ∙ append_assoc found (kept entry ∷ []) (map kept (filter test entries))
      ∙ ap (λ (b : Bool). found ++ map kept (cond b (entry ∷ filter test entries) (filter test entries))) (sym passes)
      ∙ so_far

  -- an entry that doesn't was left out
  pub passed_over : (entry : K × X) (entries : List (K × X)) (found all : List B) → test entry ≡ false
      → found ++ map kept (filter test (entry ∷ entries)) ≡ all → found ++ map kept (filter test entries) ≡ all
  passed_over entry entries found all fails so_far =
      ap (λ (b : Bool). found ++ map kept (cond b (entry ∷ filter test entries) (filter test entries))) (sym fails)
      ∙ so_far

  -- the entry that has it
  abbrev Passed : (K × X → Type 0) → B → Type 0
  Passed P b = (entry : K × X) × P entry × (test entry ≡ true) × (kept entry ≡ b)

  passed_at : (P : K × X → Type 0) (entry : K × X) (passed : List (K × X)) (b : B) (passes : Bool)
      → test entry ≡ passes → P entry
      → (Contains (map kept passed) b → Passed P b)
      → Contains (map kept (cond passes (entry ∷ passed) passed)) b → Passed P b
  passed_at P entry passed b true is has rest (zero, below, here) = (entry, has, is, here)
  passed_at P entry passed b true is has rest (suc k, below, there) = rest (k, omega arith, there)
  passed_at P entry passed b false is has rest there = rest there

  passed_of : (P : K × X → Type 0) (entries : List (K × X)) (b : B) → All P entries
      → Contains (map kept (filter test entries)) b → Passed P b
  passed_of P [] b all (k, below, is) = absurd (omega arith)
  passed_of P (entry ∷ entries) b all there =
      passed_at P entry (filter test entries) b (test entry) refl (all 0 entry (omega arith))
      (passed_of P entries b (λ k d inside. all (suc k) d (omega arith))) there

-- a test that is not passed is false
pub fails : (b : Bool) → not b ≡ true → b ≡ false
fails true h = sym h
fails false h = refl

-- the documents whose names pass a test have just what is kept under such names
pub all_passed : {A B : Type 0} (kept : List ℕ → Document → B) (passes : List ℕ → Bool)
    (documents : BTreeMap (String A) Document)
    → IsOrdered string_cmp documents → (b : B)
    → Contains (map (λ (entry : String A × Document). kept (string_bytes entry.0) entry.1)
    (entries_that passes documents)) b
    ↔ ((name : List ℕ) × (document : Document) × (passes name ≡ true) × (get_by_text documents name ≡ Some document)
    × (kept name document ≡ b))
all_passed {A = A} {B = B} kept passes documents ordered b = (
  λ there.
      let e = passed_of (λ (e : String A × Document). kept (string_bytes e.0) e.1)
      (λ (e : String A × Document). passes (string_bytes e.0))
      (λ (e : String A × Document). lookup (is_at (string_cmp e.0)) documents.entries ≡ Some e.1) documents.entries b
      (All-found string_cmp_total documents ordered) there in
      (string_bytes e.0.0, e.0.1, e.2, e.1, e.3),
  λ some.
      let same : (e : String A × Document) → is_at (λ k. slice_cmp nat_cmp some.0 (string_bytes k)) e.0 ≡ true
      → some.0 ≡ string_bytes e.0 =
      λ e found. (bytes_eq-Decides some.0 (string_bytes e.0)).0
      (sym (is_eq-slice_cmp some.0 (string_bytes e.0)) ∙ found) in
      found_passed (λ (e : String A × Document). kept (string_bytes e.0) e.1)
      (λ (e : String A × Document). passes (string_bytes e.0))
      (is_at (λ k. slice_cmp nat_cmp some.0 (string_bytes k))) some.1 b
      (λ e found. ap passes (sym (same e found)) ∙ some.2)
      (λ e found is. ap (λ (n : List ℕ). kept n e.1) (sym (same e found)) ∙ ap (kept some.0) is ∙ some.4)
      documents.entries some.3,
)

-- the documents but some have just what is kept under the other names
pub all_beside : {A B C : Type 0} (kept : Document → B) (own : BTreeSet (String C))
    (documents : BTreeMap (String A) Document) (is_own : List ℕ → Bool)
    → ((name : List ℕ) → contains_text own name ≡ is_own name) → IsOrdered string_cmp documents → (b : B)
    → Contains (map (λ (entry : String A × Document). kept entry.1) (entries_beside own documents)) b
    ↔ ((name : List ℕ) × (is_own name ≡ false) × (option_map kept (get_by_text documents name) ≡ Some b))
all_beside {B = B} kept own documents is_own is ordered b =
    let beside = all_passed (λ name. kept) (λ name. not (contains_text own name)) documents ordered b in (
      λ there.
          let e = beside.0 there in (
            e.0,
            sym (is e.0) ∙ fails (contains_text own e.0) e.2,
            ap (option_map kept) e.3
                ∙ ap (λ (x : B). Some x) e.4,
          ),
      λ some.
          let e = some_from kept (get_by_text documents some.0) b some.2 in
          beside.1 (some.0, e.0, ap not (is some.0 ∙ some.1), e.1, e.2),
    )
