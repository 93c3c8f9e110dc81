-- Tables of which ends of a path pass a test, one entry after another.
use Rattle.std.proofs.Common.{◌≡◌, ℕ, zero, suc, ◌+◌, ◌-◌, ◌<◌, ◌≤◌, ◌≢◌, Bool, true, false, List, [], ◌∷◌, length}
use Rattle.std.proofs.Common.{drop, get_or, set, map, ◌⊎◌, refl, sym, ap, ◌∙◌, subst, arith, inl, inr, get_or-set_other}
use Rattle.std.proofs.Common.{get_or-set_same, below_more, ◌&&◌, ◌||◌, not}
use Rattle.std.proofs.Math.Bool.{and-false}
use Rattle.std.proofs.lemmas.Bool.{cases_eq, cases_lt, eq-eqb, ne_eqb}
use Rattle.std.proofs.lemmas.Bool.Decides.{nat_tests}
use Rattle.std.proofs.lemmas.List.{at_drop_all, at_drop_more, drop-drop, drop_more, length-drop}
use Rattle.std.specs.Prelude.{◌==◌}
use Rattle.ignore_rules.specs.Fits.{Sign, byte, one, one_of, none_of, many, folders, nothing, takes, after_byte}
use Rattle.ignore_rules.specs.Fits.{after_bytes, after_slash, after_sign, fits}
use Rattle.ignore_rules.specs.Tables.{IsClear, IsWindow}
use Rattle.ignore_rules.specs.declared.fit_table.Window.{Window}

-- The entries below i are the answers of the test, the others as they were.
pub record IsUp (test : List ℕ → Bool) (path : List ℕ) (i : ℕ) (old table : List Bool) : Type 0 where
  pub lower : (k : ℕ) → k < i → get_or table k false ≡ test (drop k path)
  pub upper : (k : ℕ) → i ≤ k → get_or table k false ≡ get_or old k false

-- The entries from i on are the answers of the test, the others as they were.
pub record IsDown (test : List ℕ → Bool) (path : List ℕ) (i : ℕ) (old table : List Bool) : Type 0 where
  pub lower : (k : ℕ) → k < i → get_or table k false ≡ get_or old k false
  pub upper : (k : ℕ) → i ≤ k → k ≤ length path → get_or table k false ≡ test (drop k path)
  pub beyond : (k : ℕ) → length path < k → get_or table k false ≡ get_or old k false

module _ (test : List ℕ → Bool) (path : List ℕ) (i : ℕ) (old table : List Bool) (value : Bool) where
  -- one entry more from the beginning
  pub one_up : i < length table → value ≡ test (drop i path) → IsUp test path i old table
      → IsUp test path (i + 1) old (set table i value)
  one_up within is split = record {
    lower = below_more (λ k. get_or (set table i value) k false ≡ test (drop k path)) i
        (λ k low. let other : k ≢ i = omega arith in rw get_or-set_other (split.lower k low))
        (rw get_or-set_same is);
    upper = λ k high. let other : k ≢ i = omega arith in rw get_or-set_other (split.upper k (omega arith));
  }

  -- one more from the end
  pub one_down : i < length table → i ≤ length path → value ≡ test (drop i path) → IsDown test path (i + 1) old table
      → IsDown test path i old (set table i value)
  one_down within inside is split = record {
    lower = λ k low. let other : k ≢ i = omega arith in rw get_or-set_other (split.lower k (omega arith));
    upper = λ k high inside.
        elim (cases_eq k i) [
          | inl same ↦ subst (λ (n : ℕ). get_or (set table i value) n false ≡ test (drop n path)) (sym same)
              (rw get_or-set_same is)
          | inr other ↦ rw get_or-set_other (split.upper k (omega arith) inside)
        ];
    beyond = λ k high. let other : k ≢ i = omega arith in rw get_or-set_other (split.beyond k high);
  }

-- what an entry is, by the next one
pub byte_entry : (sign : Sign) (test : List ℕ → Bool) (path : List ℕ) (i : ℕ) → i < length path
    → (takes sign (get_or path i 0) && test (drop (i + 1) path)) ≡ after_byte sign test (drop i path)
byte_entry sign test path i within = sym (at_drop_more (after_byte sign test) path i 0 within)

pub many_entry : (test : List ℕ → Bool) (path : List ℕ) (i : ℕ) → i < length path
    → (test (drop i path) || (not (get_or path i 0 == 47) && after_bytes test (drop (i + 1) path)))
    ≡ after_bytes test (drop i path)
many_entry test path i within =
    rw (drop_more path i 0 within) refl

pub slash_entry : (test : List ℕ → Bool) (path : List ℕ) (i : ℕ) → i < length path
    → ((get_or path i 0 == 47 && test (drop (i + 1) path)) || after_slash test (drop (i + 1) path))
    ≡ after_slash test (drop i path)
slash_entry test path i within = sym (at_drop_more (after_slash test) path i 0 within)

-- no end of the path passes the test
abbrev pub NonePasses : (List ℕ → Bool) → List ℕ → Type 0
NonePasses test path = (k : ℕ) → k ≤ length path → test (drop k path) ≡ false

pub none_below : (test : List ℕ → Bool) (b : ℕ) (path : List ℕ) → NonePasses test (b ∷ path) → NonePasses test path
none_below test b path none k inside = none (suc k) (omega arith)

-- none from a place on
pub none_from : (test : List ℕ → Bool) (path : List ℕ) (i : ℕ)
    → ((k : ℕ) → i ≤ k → k ≤ length path → test (drop k path) ≡ false) → i ≤ length path
    → NonePasses test (drop i path)
none_from test path i none within k inside =
    ap test (drop-drop k i path) ∙ none (i + k) (omega arith) (omega (arith, length-drop i path))

pub none_bytes : (test : List ℕ → Bool) (path : List ℕ) → NonePasses test path → after_bytes test path ≡ false
none_bytes test [] none = none 0 (omega arith)
none_bytes test (b ∷ path) none =
    let here = none 0 (omega arith) in let below = none_bytes test path (none_below test b path none) in
    grind (arith, nat_tests)

pub none_slash : (test : List ℕ → Bool) (path : List ℕ) → NonePasses test path → after_slash test path ≡ false
none_slash test [] none = refl
none_slash test (b ∷ path) none =
    let here = none 1 (omega arith) in let below = none_slash test path (none_below test b path none) in
    grind (arith, nat_tests)

pub none_folders : (test : List ℕ → Bool) (path : List ℕ) → NonePasses test path → after_sign folders test path ≡ false
none_folders test path none = let here = none 0 (omega arith) in let below = none_slash test path none in
    grind (arith, nat_tests)

pub none_byte : (sign : Sign) (test : List ℕ → Bool) (path : List ℕ) → NonePasses test path
    → after_byte sign test path ≡ false
none_byte sign test [] none = refl
none_byte sign test (b ∷ path) none = let here = none 1 (omega arith) in grind (arith, nat_tests)

pub none_sign : (sign : Sign) (test : List ℕ → Bool) (path : List ℕ) → NonePasses test path
    → after_sign sign test path ≡ false
none_sign (byte b) test path none = none_byte (byte b) test path none
none_sign one test path none = none_byte one test path none
none_sign (one_of ranges) test path none = none_byte (one_of ranges) test path none
none_sign (none_of ranges) test path none = none_byte (none_of ranges) test path none
none_sign many test path none = none_bytes test path none
none_sign folders test path none = none_folders test path none
none_sign nothing test path none = none_byte nothing test path none

-- nothing fits with more signs where nothing fits
pub none_fits : {X : Type 0} (view : X → Sign) (signs : List X) (path : List ℕ) (i : ℕ)
    → NonePasses (fits (map view (drop i signs))) path → NonePasses (fits (map view signs)) path
none_fits view [] path i none = λ k inside.
    sym (ap (λ signs. fits (map view signs) (drop k path)) (at_drop_all (λ rest. rest) [] i (omega arith)))
    ∙ none k inside
none_fits view (sign ∷ signs) path zero none = none
none_fits view (sign ∷ signs) path (suc i) none = λ k inside.
    none_sign (view sign) (fits (map view signs)) (drop k path)
    (none_from (fits (map view signs)) path k (λ n from within. none_fits view signs path i none n within) inside)

-- the table of a window that has nothing
pub none_in : (test : List ℕ → Bool) (path : List ℕ) (window : Window) (table : List Bool)
    → IsWindow test path window table → window.end ≤ window.first
    → NonePasses test path
none_in test path window table is empty k inside =
    sym (is.answers k inside)
    ∙ elim (cases_lt k window.first) [ inl low ↦ is.within.before k low | inr high ↦ is.within.from k (omega arith) ]

pub same_none : (test other : List ℕ → Bool) (path : List ℕ) (window : Window) (table : List Bool)
    → IsWindow test path window table
    → NonePasses test path → NonePasses other path → IsWindow other path window table
same_none test other path window table is none none' = record {
  answers = λ k inside. is.answers k inside ∙ none k inside ∙ sym (none' k inside);
  within = is.within;
}

-- A sign for one byte is put before ends that begin outside of the window, of which none passes.
module _ (sign : Sign) (test : List ℕ → Bool) (path : List ℕ) (window : Window) (old : List Bool) where
  pub no_byte : IsWindow test path window old → (k : ℕ) → k ≤ length path
      → (k + 1 < window.first) ⊎ (window.end ≤ k + 1)
      → after_byte sign test (drop k path) ≡ false
  no_byte is k inside outside =
      elim (cases_lt k (length path)) [
        | inl low ↦
            let next : test (drop (k + 1) path) ≡ false =
            sym (is.answers (k + 1) (omega arith))
            ∙ elim outside [ inl below ↦ is.within.before (k + 1) below | inr above ↦ is.within.from (k + 1) above ] in
            sym (byte_entry sign test path k low) ∙ ap (λ it. takes sign (get_or path k 0) && it) next
            ∙ and-false (takes sign (get_or path k 0))
        | inr high ↦ at_drop_all (after_byte sign test) path k high
      ]

  -- before the window's place for the sign, all is as it was
  pub byte_first : (first : ℕ) → first ≡ window.first - 1 → window.end ≤ length path + 1 → window.first < window.end
      → IsWindow test path window old
      → IsUp (after_byte sign test) path first old old
  byte_first first at end some is = record {
    lower = λ k low. is.within.before k (omega arith) ∙ sym (no_byte is k (omega arith) (inl (omega arith)));
    upper = λ k high. refl;
  }

  -- after the last place
  pub byte_last : (table : List Bool) (first end : ℕ) → first ≡ window.first - 1 → end + 1 ≡ window.end
      → window.end ≤ length path + 1
      → window.first < window.end → length path < length table → IsWindow test path window old
      → IsUp (after_byte sign test) path end old table
      → IsWindow (after_byte sign test) path (record { first = first; end = end }) (set table end false)
  byte_last table first end at last inside some room is split =
      let whole = one_up (after_byte sign test) path end old table false (omega arith)
      (sym (no_byte is end (omega arith) (inr (omega arith)))) split in
      record {
        answers = λ k within.
            elim (cases_lt k (end + 1)) [
              | inl low ↦ whole.lower k low
              | inr high ↦ whole.upper k high ∙ is.within.from k (omega arith)
                  ∙ sym (no_byte is k within (inr (omega arith)))
            ];
        within = record {
          before = λ k low. whole.lower k (omega arith) ∙ no_byte is k (omega arith) (inl (omega arith));
          from = λ k high.
              elim (cases_eq k end) [
                | inl same ↦ subst (λ (n : ℕ). get_or (set table end false) n false ≡ false) (sym same)
                    (let within : end < length table = omega arith in rw get_or-set_same refl)
                | inr other ↦ whole.upper k (omega arith) ∙ is.within.from k (omega arith)
              ];
        };
      }

-- Other signs than those for one byte begin at the end of the window.
module _ (test : List ℕ → Bool) (path : List ℕ) (window : Window) (old : List Bool) where
  pub down_first : (after : (List ℕ → Bool) → List ℕ → Bool) (i : ℕ)
      → ((q : List ℕ) → NonePasses test q → after test q ≡ false) → (after test [] ≡ test [])
      → i ≤ length path → (i ≡ window.end) ⊎ ((i ≡ length path) × (window.end ≡ i + 1)) → IsWindow test path window old
      → IsDown (after test) path i old old
  down_first after i none last within at is = record {
    lower = λ k low. refl;
    upper = λ k high inside.
        elim at [
          | inl end ↦
              is.within.from k (omega arith)
              ∙ sym (none (drop k path)
              (none_from test path k (λ n from below. sym (is.answers n below) ∙ is.within.from n (omega arith))
              inside))
          | inr end ↦
              let all : length path ≤ k = omega (arith, end.0) in
              is.answers k inside ∙ at_drop_all test path k all ∙ sym last ∙ sym (at_drop_all (after test) path k all)
        ];
    beyond = λ k high. refl;
  }

-- What is left below the first place that passes.
pub none_before : (test : List ℕ → Bool) (path : List ℕ) (i : ℕ) → i < length path
    → after_bytes test (drop (suc i) path) ≡ false
    → ((k : ℕ) → k ≤ i → test (drop k path) ≡ false) → after_bytes test path ≡ false
none_before test [] i within next none = absurd (omega arith)
none_before test (b ∷ path) zero within next none = let here = none 0 (omega arith) in grind (arith, nat_tests)
none_before test (b ∷ path) (suc i) within next none =
    let here = none 0 (omega arith) in
    let below : after_bytes test path ≡ false =
    none_before test path i (omega arith) next (λ k low. none (suc k) (omega arith)) in grind (arith, nat_tests)

-- the table of no signs
pub first_table : (path : List ℕ) (table : List Bool) → length path < length table → IsClear table
    → IsWindow (fits []) path (record { first = length path; end = length path + 1 }) (set table (length path) true)
first_table path table room clear = record {
  answers = λ k inside.
      elim (cases_lt k (length path)) [
        | inl low ↦
            let other : k ≢ length path = omega arith in
            rw get_or-set_other (clear k
            ∙ sym (ne_eqb (length (drop k path)) 0 (λ none. omega (arith, length-drop k path, none))))
        | inr high ↦
            let same : k ≡ length path = omega arith in
            subst (λ (n : ℕ). get_or (set table (length path) true) n false ≡ (length (drop n path) == 0)) (sym same)
            (rw get_or-set_same (sym
            (eq-eqb (length (drop (length path) path)) 0 (omega (arith, length-drop (length path) path)))))
      ];
  within = record {
    before = λ k low. let other : k ≢ length path = omega arith in rw get_or-set_other (clear k);
    from = λ k high. let other : k ≢ length path = omega arith in rw get_or-set_other (clear k);
  };
}

-- one sign more
pub fits_more : {X : Type 0} (view : X → Sign) (signs : List X) (i : ℕ) (x : X) (path : List ℕ) (window : Window)
    (table : List Bool) → i < length signs
    → x ≡ get_or signs i x
    → IsWindow (after_sign (view x) (fits (map view (drop (i + 1) signs)))) path window table
    → IsWindow (fits (map view (drop i signs))) path window table
fits_more {X = X} view signs i x path window table within is all = record {
  answers = λ k inside.
      all.answers k inside ∙ ap (λ (y : X). after_sign (view y) (fits (map view (drop (i + 1) signs))) (drop k path)) is
      ∙ sym (at_drop_more (λ rest. fits (map view rest) (drop k path)) signs i x within);
  within = all.within;
}

-- nothing passes up to a place after which nothing is left
pub none_up_to : (test : List ℕ → Bool) (path : List ℕ) (i k : ℕ) → i < length path → k ≤ i
    → after_bytes test (drop (i + 1) path) ≡ false
    → ((n : ℕ) → n ≤ i → test (drop n path) ≡ false) → after_bytes test (drop k path) ≡ false
none_up_to test path i k within low next none =
    none_before test (drop k path) (i - k) (omega (arith, length-drop k path))
    (let at : k + suc (i - k) ≡ i + 1 = omega arith in
    ap (after_bytes test) (drop-drop (suc (i - k)) k path) ∙ ap (λ (n : ℕ). after_bytes test (drop n path)) at ∙ next)
    (λ n from. ap test (drop-drop n k path) ∙ none (k + n) (omega arith))

-- a whole table, from its end down
pub down_all : (test passes : List ℕ → Bool) (path : List ℕ) (window : Window) (old table : List Bool)
    → window.end ≤ length path + 1
    → IsWindow test path window old → IsDown passes path 0 old table
    → ((k : ℕ) → window.end ≤ k → k ≤ length path → passes (drop k path) ≡ false)
    → IsWindow passes path (record { first = 0; end = window.end }) table
down_all test passes path window old table inside is split none = record {
  answers = λ k within. split.upper k (omega arith) within;
  within = record {
    before = λ k low. absurd (omega arith);
    from = λ k high.
        elim (cases_lt (length path) k) [
          | inl beyond ↦ split.beyond k beyond ∙ is.within.from k high
          | inr within ↦ split.upper k (omega arith) within ∙ none k high within
        ];
  };
}

-- and one that ends before the window, since nothing is left
pub down_to : (test : List ℕ → Bool) (path : List ℕ) (window : Window) (i : ℕ) (old table : List Bool)
    → window.end ≤ length path + 1 → i < window.first
    → i < length path → get_or table (i + 1) false ≡ false
    → IsWindow test path window old → IsDown (after_bytes test) path (i + 1) old table
    → ((k : ℕ) → window.end ≤ k → k ≤ length path → after_bytes test (drop k path) ≡ false)
    → IsWindow (after_bytes test) path (record { first = i + 1; end = window.end }) table
down_to test path window i old table inside low within left is split none =
    let next : after_bytes test (drop (i + 1) path) ≡ false =
    sym (split.upper (i + 1) (omega arith) (omega arith)) ∙ left in
    let none_here : (k : ℕ) → k ≤ i → test (drop k path) ≡ false =
    λ k under. sym (is.answers k (omega arith)) ∙ is.within.before k (omega arith) in
    let before : (k : ℕ) → k < i + 1 → get_or table k false ≡ false =
    λ k under. split.lower k under ∙ is.within.before k (omega arith) in
    record {
      answers = λ k there.
          elim (cases_lt k (i + 1)) [
            | inl under ↦ before k under ∙ sym (none_up_to test path i k within (omega arith) next none_here)
            | inr over ↦ split.upper k over there
          ];
      within = record {
        before = before;
        from = λ k high.
            elim (cases_lt (length path) k) [
              | inl beyond ↦ split.beyond k beyond ∙ is.within.from k high
              | inr there ↦
                  elim (cases_lt k (i + 1)) [
                    | inl under ↦ before k under
                    | inr over ↦ split.upper k over (omega arith) ∙ none k high (omega arith)
                  ]
            ];
      };
    }

-- no end from the window's end on passes with signs that take any bytes
pub none_after : (after : (List ℕ → Bool) → List ℕ → Bool)
    → (test : List ℕ → Bool) (path : List ℕ) (window : Window) (old : List Bool)
    → ((q : List ℕ) → NonePasses test q → after test q ≡ false) → IsWindow test path window old
    → (k : ℕ) → window.end ≤ k → k ≤ length path → after test (drop k path) ≡ false
none_after after test path window old none is k high inside =
    none (drop k path) (none_from test path k
    (λ n from below. sym (is.answers n below) ∙ is.within.from n (omega arith)) inside)
