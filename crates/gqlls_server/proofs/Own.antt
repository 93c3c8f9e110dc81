-- The files of open documents.
use Rattle.std.proofs.Common.{◌≡◌, ◌≢◌, ◌∙◌, ℕ, Bool, true, false, List, [], ◌∷◌, Option, Some, None, nat_cmp, BTreeMap}
use Rattle.std.proofs.Common.{BTreeSet, String, refl, string_cmp, sym, ap, subst, map, inl, inr}
use Rattle.std.proofs.lemmas.Bool.{cases_Bool}
use Rattle.std.proofs.lemmas.Map.Made.{is_some-lookup}
use Rattle.std.proofs.lemmas.Map.Text.{btree_set_updates_text, is_eq-slice_cmp}
use Rattle.std.proofs.lemmas.Slice.Eq.{bytes_eq-Decides}
use Rattle.std.specs.BTreeMap.{get_by_text, is_at, keys}
use Rattle.std.specs.BTreeSet.{UpdatesBy, contains_text}
use Rattle.std.specs.Cmp.Lexicographic.{slice_cmp}
use Rattle.std.specs.List.{list_any}
use Rattle.std.specs.Prelude.{◌||◌, ◌⊎◌, bytes_eq, cond, is_some, option_map, string_bytes, unwrap_or}
use Rattle.editor_validation.specs.Fragments.{Fragments}
use Rattle.file_uris.specs.Uris.{normalized}
use Rattle.gqlls_server.specs.Dialogue.{AreOthers, IsOwn, Updates}
use Rattle.gqlls_server.specs.State.{AreBeside, is_of, is_own, names_in, names_of}
use Rattle.gqlls_server.specs.declared.documents.Document.{Document}

-- ---- tests of texts

one_of : (a b : Bool) → (a || b) ≡ true → (a ≡ true) ⊎ (b ≡ true)
one_of true b h = inl refl
one_of false b h = inr h

first : (a b : Bool) → a ≡ true → (a || b) ≡ true
first true b h = refl
first false b h = absurd (let no : false ≡ true = h in cc no)

second : (a b : Bool) → b ≡ true → (a || b) ≡ true
second true b h = refl
second false b h = h

-- a text among some that passes a test
found : (test : List ℕ → Bool) (names : List (List ℕ)) → list_any test names ≡ true
    → (name : List ℕ) × (list_any (bytes_eq name) names ≡ true) × (test name ≡ true)
found test [] h = absurd (let no : false ≡ true = h in cc no)
found test (name ∷ names) h = elim (one_of (test name) (list_any test names) h) [
  | inl here ↦ (name, first _ _ ((bytes_eq-Decides name name).1 refl), here)
  | inr later ↦ let rest = found test names later in (rest.0, second _ _ rest.1, rest.2)
]

passes : (test : List ℕ → Bool) (name : List ℕ) (names : List (List ℕ))
    → list_any (bytes_eq name) names ≡ true → test name ≡ true
    → list_any test names ≡ true
passes test name [] h passed = absurd (let no : false ≡ true = h in cc no)
passes test name (one ∷ names) h passed = elim (one_of (bytes_eq name one) (list_any (bytes_eq name) names) h) [
  | inl here ↦ first _ _ (subst (λ (x : List ℕ). test x ≡ true) ((bytes_eq-Decides name one).0 here) passed)
  | inr later ↦ second _ _ (passes test name names later passed)
]

-- ---- open documents

pub some_of : {X Y : Type 0} (f : X → Y) (o : Option X) → is_some (option_map f o) ≡ is_some o
some_of f None = refl
some_of f (Some x) = refl

same_keys : {A : Type 0} (uri : List ℕ) (ks : List (String A))
    → list_any (is_at (λ k. slice_cmp nat_cmp uri (string_bytes k))) ks ≡ list_any (bytes_eq uri) (map string_bytes ks)
same_keys uri [] = refl
same_keys uri (k ∷ ks) =
    ap (λ (b : Bool). b || list_any (is_at (λ k. slice_cmp nat_cmp uri (string_bytes k))) ks)
    (is_eq-slice_cmp uri (string_bytes k))
    ∙ ap (λ (b : Bool). bytes_eq uri (string_bytes k) || b) (same_keys uri ks)

-- a document is open just where its name is among those of the open ones
open_by : {A : Type 0} (documents : BTreeMap (String A) Document) (uri : List ℕ)
    → is_some (names_in documents uri) ≡ list_any (bytes_eq uri) (map string_bytes (keys documents))
open_by documents uri =
    some_of names_of (get_by_text documents uri) ∙ is_some-lookup _ documents.entries ∙ same_keys uri (keys documents)

-- ---- their files

named : (own : Option (List ℕ)) (name : List ℕ) → unwrap_or (option_map (λ uri. bytes_eq uri name) own) false ≡ true
    → own ≡ Some name
named None name h = absurd (let no : false ≡ true = h in cc no)
named (Some uri) name h = ap (λ (x : List ℕ). Some x) ((bytes_eq-Decides uri name).0 h)

names : (own : Option (List ℕ)) (name : List ℕ) → own ≡ Some name
    → unwrap_or (option_map (λ uri. bytes_eq uri name) own) false ≡ true
names own name is = ap (λ (o : Option (List ℕ)). unwrap_or (option_map (λ uri. bytes_eq uri name) o) false) is
    ∙ (bytes_eq-Decides name name).1 refl

swapped : (t c r : Bool) → ((t || c) || r) ≡ (c || (t || r))
swapped true true r = refl
swapped true false r = refl
swapped false c r = refl

-- one text more was looked at
pub one_more : (test : List ℕ → Bool) (before after : Bool) (name : List ℕ) (names : List (List ℕ)) (all : Bool)
    → after ≡ (test name || before)
    → (before || list_any test (name ∷ names)) ≡ all → (after || list_any test names) ≡ all
one_more test before after name names all adds so_far =
    ap (λ (b : Bool). b || list_any test names) adds ∙ swapped (test name) before (list_any test names) ∙ so_far

either_of : (b c : Bool) → cond b true c ≡ (b || c)
either_of true c = refl
either_of false c = refl

-- a set of files has one more
pub adds_own : {A : Type 0} (uri key : List ℕ) (old new : BTreeSet (String A)) → normalized uri ≡ Some key
    → UpdatesBy string_cmp (λ k. slice_cmp nat_cmp key (string_bytes k)) old new true → (name : List ℕ)
    → contains_text new name ≡ (is_of name uri || contains_text old name)
adds_own uri key old new is updates name =
    btree_set_updates_text key old new true updates name ∙ either_of (bytes_eq key name) (contains_text old name)
    ∙ ap (λ (o : Option (List ℕ)). unwrap_or (option_map (λ own. bytes_eq own name) o) false || contains_text old name)
    (sym is)

module _ {A : Type 0} (uri : List ℕ) (value : Fragments) (documents : BTreeMap (String A) Document)
    (new : List ℕ → Option Fragments)
    (adds : Updates uri (Some value) (names_in documents) new) where
  -- this document is open, and those that were
  stays_open : (other : List ℕ) → is_some (names_in documents other) ≡ true → is_some (new other) ≡ true
  stays_open other was = elim (cases_Bool (bytes_eq other uri)) [
    | inl same ↦ ap (λ (u : List ℕ). is_some (new u)) ((bytes_eq-Decides other uri).0 same) ∙ ap is_some adds.this
    | inr differs ↦ ap is_some
        (adds.others other (λ same. let no : false ≡ true = sym differs ∙ (bytes_eq-Decides other uri).1 same in cc no))
        ∙ was
  ]

  own_is : (name : List ℕ) → is_own uri documents name ≡ true → IsOwn new name
  own_is name h = elim (one_of (is_of name uri) (list_any (is_of name) (map string_bytes (keys documents))) h) [
    | inl this ↦ (uri, ap is_some adds.this, named (normalized uri) name this)
    | inr other ↦
        let one = found (is_of name) (map string_bytes (keys documents)) other in
        (one.0, stays_open one.0 (open_by documents one.0 ∙ one.1), named (normalized one.0) name one.2)
  ]

  pub is_own_by : (name : List ℕ) → IsOwn new name → is_own uri documents name ≡ true
  is_own_by name (other, opened, is) = elim (cases_Bool (bytes_eq other uri)) [
    | inl same ↦
        first _ _ (subst (λ (u : List ℕ). is_of name u ≡ true) ((bytes_eq-Decides other uri).0 same)
        (names (normalized other) name is))
    | inr differs ↦
        let stays = adds.others other
        (λ same. let no : false ≡ true = sym differs ∙ (bytes_eq-Decides other uri).1 same in cc no) in
        second _ _ (passes (is_of name) other (map string_bytes (keys documents))
        (sym (open_by documents other) ∙ ap is_some (sym stays) ∙ opened)
        (names (normalized other) name is))
  ]

  pub not_own : (name : List ℕ) → (own : Bool) → own ≡ is_own uri documents name → ¬ IsOwn new name → own ≡ false
  not_own name true is others = absurd (others (own_is name (sym is)))
  not_own name false is others = refl

  -- what all documents have before this one is added, the others have after it
  pub beside : (files : List ℕ → Option Fragments) (others : List Fragments) → names_in documents uri ≡ None
      → AreBeside (names_in documents) files (is_own uri documents) others → AreOthers uri new files others
  beside files others none all = λ fragments. (
    λ there. elim ((all fragments).0 there) [
      | inl some ↦
          let apart : some.0 ≢ uri =
          λ same. (let no : false ≡ true = ap is_some (sym none ∙ ap (names_in documents) (sym same) ∙ some.1) in
          cc no) in
          inl (some.0, apart, adds.others some.0 apart ∙ some.1)
      | inr file ↦
          let apart : ¬ IsOwn new file.0 =
          λ own. (let no : false ≡ true = sym file.1 ∙ is_own_by file.0 own in cc no) in
          inr (file.0, apart, file.2)
    ],
    λ either. elim either [
      | inl other ↦ (all fragments).1 (inl (other.0, sym (adds.others other.0 other.1) ∙ other.2))
      | inr file ↦ (all fragments).1 (inr (file.0, not_own file.0 (is_own uri documents file.0) refl file.1, file.2))
    ],
  )
