-- The documents that are known.
use Rattle.std.proofs.Common.{◌≡◌, ◌≢◌, ◌++◌, ◌∙◌, ℕ, suc, zero, Bool, true, false, List, ◌∷◌, Option, Some, None}
use Rattle.std.proofs.Common.{BTreeMap, BTreeSet, String, ap, arith, inl, inr, map, refl, string_bytes, string_cmp}
use Rattle.std.proofs.Common.{subst, sym}
use Rattle.std.proofs.lemmas.Bool.{and_parts, cases_Bool}
use Rattle.std.proofs.lemmas.List.{map-append}
use Rattle.std.proofs.lemmas.List.Elements.{All-append, All-filter, All-map, All-weaker, filter_passes}
use Rattle.std.proofs.lemmas.List.Elements.{Contains-append_cases, Contains-append_left, Contains-append_right}
use Rattle.std.proofs.lemmas.List.Kept.{AllPairs-cons, AllPairs-filter}
use Rattle.std.proofs.lemmas.Map.Views.{All-found}
use Rattle.std.proofs.lemmas.Slice.Eq.{bytes_eq-Decides}
use Rattle.std.specs.BTreeMap.{IsOrdered, get_by_text}
use Rattle.std.specs.BTreeSet.{contains_text}
use Rattle.std.specs.List.{All, AllPairs, Contains}
use Rattle.std.specs.Prelude.{◌↔◌, ◌&&◌, bytes_eq, is_some, not, option_map, unwrap_or}
use Rattle.std.specs.String.{string_cmp_total}
use Rattle.gqlls_server.proofs.Distinct.{names_differ, pairs_append, pairs_map}
use Rattle.gqlls_server.proofs.Maps.{all_passed, fails, later, map_twice, some_from}
use Rattle.gqlls_server.proofs.Own.{is_own_by, not_own, some_of}
use Rattle.gqlls_server.specs.Dialogue.{IsOwn, Updates}
use Rattle.gqlls_server.specs.Files.{OpenFile}
use Rattle.gqlls_server.specs.Renaming.{AreKnown, AreParsed, IsKnown, KnownFile, named}
use Rattle.gqlls_server.specs.State.{entries_that, entry_of, file_of, files, is_other, is_own, is_stored, names_in}
use Rattle.gqlls_server.specs.State.{names_of}
use Rattle.gqlls_server.specs.declared.documents.Document.{Document}

-- the first, or a later one
one_or_more : {B : Type 0} (x : B) (xs : List B) (b : B) {P : Type 0} → (x ≡ b → P) → (Contains xs b → P)
    → Contains (x ∷ xs) b → P
one_or_more x xs b first more (zero, below, is) = first is
one_or_more x xs b first more (suc k, below, is) = more (k, omega arith, is)

-- ---- what is not there

none_from : {X Y : Type 0} (f : X → Y) (o : Option X) → is_some o ≡ false → option_map f o ≡ None
none_from f None h = refl
none_from f (Some x) h = absurd (let no : true ≡ false = h in cc no)

neither : (a b : Bool) → a ≡ false → b ≡ false → (not a && not b) ≡ true
neither false false one two = refl
neither true b one two = absurd (let no : true ≡ false = one in cc no)
neither false true one two = absurd (let no : true ≡ false = two in cc no)

module _ {A C D : Type 0} (uri : List ℕ) (document : Document) (opened : BTreeMap (String A) Document)
    (stored : BTreeMap (String C) Document)
    (own : BTreeSet (String D)) (is_open : get_by_text opened uri ≡ Some document)
    (own_is : (name : List ℕ) → contains_text own name ≡ is_own uri opened name) (ordered : IsOrdered string_cmp opened)
    (stored_ordered : IsOrdered string_cmp stored) where
  abbrev Named : Type 0
  Named = List ℕ × OpenFile

  abbrev at : List ℕ → Document → Named
  at name document = (name, file_of document)

  abbrev in_opened : List Named
  in_opened = map (λ (entry : String A × Document). at (string_bytes entry.0) entry.1)
      (entries_that (is_other uri) opened)

  abbrev in_stored : List Named
  in_stored = map (λ (entry : String C × Document). at (string_bytes entry.0) entry.1)
      (entries_that (is_stored own opened) stored)

  -- what a map has under a name
  has_file : {E : Type 0} (documents : BTreeMap (String E) Document) (name : List ℕ) (one : Document) (b : Named)
      → get_by_text documents name ≡ Some one
      → at name one ≡ b → files documents b.0 ≡ Some b.1
  has_file documents name one b found is =
      subst (λ (b : Named). files documents b.0 ≡ Some b.1) is (ap (option_map file_of) found)

  -- ---- which files are some document's own

  adds : Updates uri (Some (names_of document)) (names_in opened) (names_in opened)
  adds = record { this = ap (option_map names_of) is_open; others = λ name apart. refl }

  same_open : (name : List ℕ) → is_some (files opened name) ≡ is_some (names_in opened name)
  same_open name = some_of file_of (get_by_text opened name) ∙ sym (some_of names_of (get_by_text opened name))

  owned : (name : List ℕ) → IsOwn (files opened) name → is_own uri opened name ≡ true
  owned name is = is_own_by uri (names_of document) opened (names_in opened) adds name
      (is.0, sym (same_open is.0) ∙ is.1, is.2)

  unowned : (name : List ℕ) → ¬ IsOwn (files opened) name → is_own uri opened name ≡ false
  unowned name none =
      not_own uri (names_of document) opened (names_in opened) adds name (is_own uri opened name) refl
      (λ is. none (is.0, same_open is.0 ∙ is.1, is.2))

  -- a file counts whose name no open document has, and that is no one's own
  stored_by : (name : List ℕ) → files opened name ≡ None → ¬ IsOwn (files opened) name
      → is_stored own opened name ≡ true
  stored_by name closed none =
      neither (contains_text own name) (is_some (get_by_text opened name)) (own_is name ∙ unowned name none)
      (sym (some_of file_of (get_by_text opened name)) ∙ ap is_some closed)

  not_open : (name : List ℕ) → is_stored own opened name ≡ true → is_some (get_by_text opened name) ≡ false
  not_open name h =
      fails (is_some (get_by_text opened name))
      (and_parts (not (contains_text own name)) (not (is_some (get_by_text opened name))) h).1

  no_own : (name : List ℕ) → is_stored own opened name ≡ true → ¬ IsOwn (files opened) name
  no_own name h = λ is.
      (let no : false ≡ true =
      sym (fails (contains_text own name)
      (and_parts (not (contains_text own name)) (not (is_some (get_by_text opened name))) h).0)
      ∙ own_is name ∙ owned name is in cc no)

  -- ---- all of them

  all : (name : List ℕ) (file : OpenFile)
      → Contains (at uri document ∷ (in_opened ++ in_stored)) (name, file)
      ↔ IsKnown (files opened) (files stored) name file
  all name file =
      let opened_is = all_passed at (is_other uri) opened ordered (name, file) in
      let stored_is = all_passed at (is_stored own opened) stored stored_ordered (name, file) in (
        one_or_more (at uri document) (in_opened ++ in_stored) (name, file)
            (λ is. inl (has_file opened uri document (name, file) is_open is))
            (λ more. elim (Contains-append_cases in_opened in_stored (name, file) more) [
              | inl one ↦ let e = opened_is.0 one in inl (has_file opened e.0 e.1 (name, file) e.3 e.4)
              | inr one ↦
                  let e = stored_is.0 one in
                  let counts = subst (λ (n : List ℕ). is_stored own opened n ≡ true)
                  (ap (λ (b : Named). b.0) e.4) e.2 in
                  inr (
                    none_from file_of (get_by_text opened name) (not_open name counts),
                    no_own name counts,
                    has_file stored e.0 e.1 (name, file) e.3 e.4,
                  )
            ]),
        λ either. elim either [
          | inl opens ↦
              elim (cases_Bool (bytes_eq name uri)) [
                | inl same ↦
                    let is : name ≡ uri = (bytes_eq-Decides name uri).0 same in
                    let one : Some (file_of document) ≡ Some file =
                    sym (ap (option_map file_of) is_open) ∙ ap (files opened) (sym is) ∙ opens in (
                      0,
                      omega arith,
                      ap (λ (n : List ℕ). (n, file_of document)) (sym is)
                          ∙ ap (λ (o : Option OpenFile). (name, unwrap_or o file)) one,
                    )
                | inr apart ↦
                    let e = some_from file_of (get_by_text opened name) file opens in
                    later _ _ _ (Contains-append_left in_opened in_stored (name, file)
                    (opened_is.1 (name, e.0, ap not apart, e.1, ap (λ (f : OpenFile). (name, f)) e.2)))
              ]
          | inr stays ↦
              let e = some_from file_of (get_by_text stored name) file stays.2 in
              later _ _ _ (Contains-append_right in_opened in_stored (name, file)
              (stored_is.1 (name, e.0, stored_by name stays.0 stays.1, e.1, ap (λ (f : OpenFile). (name, f)) e.2)))
        ],
      )

  -- ---- none of them twice

  abbrev Differ : KnownFile → KnownFile → Type 0
  Differ one other = one.0 ≢ other.0

  abbrev others_opened : List KnownFile
  others_opened = map entry_of (entries_that (is_other uri) opened)

  abbrev others_stored : List KnownFile
  others_stored = map entry_of (entries_that (is_stored own opened) stored)

  found_open : (name : List ℕ) (other : List ℕ) (one : Document) → get_by_text opened name ≡ Some one
      → is_stored own opened other ≡ true → name ≢ other
  found_open name other one found counts = λ same.
      (let no : false ≡ true = sym (not_open other counts)
      ∙ ap (λ (n : List ℕ). is_some (get_by_text opened n)) (sym same) ∙ ap is_some found in cc no)

  from_stored : (name : List ℕ) (one : Document) → get_by_text opened name ≡ Some one
      → All (λ (other : KnownFile). name ≢ other.0) others_stored
  from_stored name one found =
      All-map (λ (other : KnownFile). name ≢ other.0) entry_of (entries_that (is_stored own opened) stored)
      (All-weaker (λ (e : String C × Document). is_stored own opened (string_bytes e.0) ≡ true)
      (λ (e : String C × Document). name ≢ string_bytes e.0)
      (λ e counts. found_open name (string_bytes e.0) one found counts) (entries_that (is_stored own opened) stored)
      (filter_passes (λ (e : String C × Document). is_stored own opened (string_bytes e.0)) stored.entries))

  other_than : (name : List ℕ) → is_other uri name ≡ true → uri ≢ name
  other_than name h = λ same.
      (let no : false ≡ true = sym (fails (bytes_eq name uri) h) ∙ (bytes_eq-Decides name uri).1 (sym same) in cc no)

  from_opened : All (λ (other : KnownFile). uri ≢ other.0) others_opened
  from_opened =
      All-map (λ (other : KnownFile). uri ≢ other.0) entry_of (entries_that (is_other uri) opened)
      (All-weaker (λ (e : String A × Document). is_other uri (string_bytes e.0) ≡ true)
      (λ (e : String A × Document). uri ≢ string_bytes e.0)
      (λ e h. other_than (string_bytes e.0) h) (entries_that (is_other uri) opened)
      (filter_passes (λ (e : String A × Document). is_other uri (string_bytes e.0)) opened.entries))

  across : All (λ (one : KnownFile). All (Differ one) others_stored) others_opened
  across =
      All-map (λ (one : KnownFile). All (Differ one) others_stored) entry_of (entries_that (is_other uri) opened)
      (All-weaker (λ (e : String A × Document). get_by_text opened (string_bytes e.0) ≡ Some e.1)
      (λ (e : String A × Document). All (Differ (entry_of e)) others_stored)
      (λ e found. from_stored (string_bytes e.0) e.1 found)
      (entries_that (is_other uri) opened)
      (All-filter (λ (e : String A × Document). is_other uri (string_bytes e.0))
      (λ (e : String A × Document). get_by_text opened (string_bytes e.0) ≡ Some e.1)
      opened.entries (All-found string_cmp_total opened ordered)))

  among_opened : AllPairs Differ others_opened
  among_opened =
      pairs_map Differ entry_of (entries_that (is_other uri) opened)
      (AllPairs-filter (λ (a b : String A × Document). string_bytes a.0 ≢ string_bytes b.0)
      (λ (e : String A × Document). is_other uri (string_bytes e.0))
      opened.entries (names_differ opened.entries ordered))

  among_stored : AllPairs Differ others_stored
  among_stored =
      pairs_map Differ entry_of (entries_that (is_stored own opened) stored)
      (AllPairs-filter (λ (a b : String C × Document). string_bytes a.0 ≢ string_bytes b.0)
      (λ (e : String C × Document). is_stored own opened (string_bytes e.0)) stored.entries
      (names_differ stored.entries stored_ordered))

  distinct : AllPairs Differ ((uri, document) ∷ (others_opened ++ others_stored))
  distinct =
      AllPairs-cons Differ (uri, document) (others_opened ++ others_stored)
      (All-append (λ (other : KnownFile). uri ≢ other.0) others_opened others_stored from_opened
      (from_stored uri document is_open))
      (pairs_append Differ others_opened others_stored among_opened among_stored across)

  -- these are the documents that are known
  pub are_known : (known : List KnownFile) → known ≡ (uri, document) ∷ (others_opened ++ others_stored)
      → AreParsed known
      → AreKnown (files opened) (files stored) ((uri, document) ∷ (others_opened ++ others_stored))
  are_known known is parsed = record {
    parsed = subst AreParsed is parsed;
    distinct = distinct;
    all = λ name file.
        let same : map named (others_opened ++ others_stored) ≡ in_opened ++ in_stored =
        map-append named others_opened others_stored
        ∙ ap (λ (x : List Named). x ++ map named others_stored)
        (map_twice named entry_of (entries_that (is_other uri) opened))
        ∙ ap (λ (x : List Named). in_opened ++ x)
        (map_twice named entry_of (entries_that (is_stored own opened) stored)) in
        subst (λ (x : List Named). Contains (at uri document ∷ x) (name, file)
        ↔ IsKnown (files opened) (files stored) name file) (sym same) (all name file);
  }
