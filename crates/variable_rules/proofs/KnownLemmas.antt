-- Names that are entered, and items whose names are not.
use Rattle.std.proofs.Common.{◌≡◌, ◌||◌, List, [], ◌∷◌, ◌++◌, Bool, true, false, not, cond, is_some}
use Rattle.std.proofs.Common.{Option, Some, None, unwrap_or, bytes_eq, refl, sym, ap, subst, ◌∙◌}
use Rattle.std.proofs.lemmas.Bool.{or_parts, or_right}
use Rattle.std.proofs.lemmas.List.Folds.{list_any-append}
use Rattle.std.proofs.lemmas.List.Sums.{fold-append}
use Rattle.std.proofs.lemmas.Slice.Eq.{bytes_eq-Decides}
use Rattle.std.specs.List.{fold, list_any}
use Rattle.validation_names.specs.Mentions.{Named}
use Rattle.validation_names.specs.Names.{Entries, Enters, Name, entry_of}
use Rattle.validation_names.specs.Sites.{Located}
use Rattle.validation_rules.specs.Broken.{unknown}
use Rattle.validation_rules.specs.Parts.{has_item}
use Rattle.validation_rules.specs.declared.violations.Rule.{Rule}
use Rattle.variable_rules.specs.UsedNames.{AddsNames, AreFirsts, add_first, firsts_of, is_known}

-- ---- tests
or_false : (x : Bool) → (x || false) ≡ x
or_false true = refl
or_false false = refl

or_assoc : (x y z : Bool) → ((x || y) || z) ≡ (x || (y || z))
or_assoc true y z = refl
or_assoc false y z = refl

or_second : (x y : Bool) → (x || y) ≡ true → x ≡ false → y ≡ true
or_second true y has none = absurd (let e : true ≡ false = none in cc)
or_second false y has none = has

-- ---- one name more
is_some_then : {V : Type 0} (o : Option V) (v : V) (b : Bool) → is_some (cond b (Some v) o) ≡ (is_some o || b)
is_some_then None v true = refl
is_some_then None v false = refl
is_some_then (Some w) v true = refl
is_some_then (Some w) v false = refl

known_more :
    {V : Type 0} (old new : Entries V) (name : Name) (value : V) → Enters old new name value → (q : Name)
    → is_known new q ≡ (is_known old q || bytes_eq name q)
known_more old new name value enters q =
    rw (enters q) (is_some_then (entry_of old q) (unwrap_or (entry_of old name) value) (bytes_eq name q))

pub named_push : (items : List Named) (item : Named) (q : Name)
    → has_item (items ++ item ∷ []) q ≡ (has_item items q || bytes_eq item.name q)
named_push items item q =
    list_any-append (λ (i : Named). bytes_eq i.name q) items (item ∷ [])
    ∙ ap (λ b. has_item items q || b) (or_false (bytes_eq item.name q))

pub adds_none : {V : Type 0} (entries : Entries V) → AddsNames entries entries []
adds_none entries q = sym (or_false (is_known entries q))

pub adds_more :
    {V : Type 0} (old mid new : Entries V) (items : List Named) (item : Named) (value : V) → AddsNames old mid items
    → Enters mid new item.name value
    → AddsNames old new (items ++ item ∷ [])
adds_more old mid new items item value before enters q =
    known_more mid new item.name value enters q ∙ ap (λ b. b || bytes_eq item.name q) (before q)
    ∙ or_assoc (is_known old q) (has_item items q) (bytes_eq item.name q)
    ∙ ap (λ b. is_known old q || b) (sym (named_push items item q))

pub not_known : {V : Type 0} (entries : Entries V) → entries.entries ≡ [] → (q : Name) → is_known entries q ≡ false
not_known entries empty q = rw empty refl

pub known_alone : {V : Type 0} (empty known : Entries V) (items : List Named) → empty.entries ≡ []
    → AddsNames empty known items → (q : Name)
    → is_known known q ≡ has_item items q
known_alone empty known items none adds q = adds q ∙ ap (λ b. b || has_item items q) (not_known empty none q)

-- ---- the first item of each name
pub firsts_push : (items : List Named) (item : Named)
    → firsts_of (items ++ item ∷ []) ≡ add_first (firsts_of items) item
firsts_push items item = fold-append add_first [] items (item ∷ [])

-- a name that one of the items has
again : (items : List Named) (item : Named) (q : Name) (b : Bool) → bytes_eq item.name q ≡ b
    → has_item items item.name ≡ true
    → has_item items q ≡ (has_item items q || b)
again items item q true e has =
    let same : item.name ≡ q = (bytes_eq-Decides item.name q).0 e in
    let now : has_item items q ≡ true = subst (λ name. has_item items name ≡ true) same has in
    now ∙ sym (or_right (has_item items q) true refl)
again items item q false e has = sym (or_false (has_item items q))

-- one item more, whether its name is there or not
add_first_named : (items : List Named) (item : Named) (q : Name) (b : Bool) → has_item items item.name ≡ b
    → has_item (cond b items (items ++ item ∷ [])) q ≡ (has_item items q || bytes_eq item.name q)
add_first_named items item q true has = again items item q (bytes_eq item.name q) refl has
add_first_named items item q false has = named_push items item q

first_named : (items : List Named) (item : Named) (q : Name)
    → has_item (add_first items item) q ≡ (has_item items q || bytes_eq item.name q)
first_named items item q = add_first_named items item q (has_item items item.name) refl

named_from : (before items : List Named) (q : Name)
    → has_item (fold add_first before items) q ≡ (has_item before q || has_item items q)
named_from before [] q = sym (or_false (has_item before q))
named_from before (item ∷ items) q =
    named_from (add_first before item) items q ∙ ap (λ b. b || has_item items q) (first_named before item q)
    ∙ or_assoc (has_item before q) (bytes_eq item.name q) (has_item items q)

-- the firsts have the names of all
pub same_names : (items : List Named) (q : Name) → has_item (firsts_of items) q ≡ has_item items q
same_names items q = named_from [] items q

pub no_firsts : {V : Type 0} (known : Entries V) (firsts : List Named) → known.entries ≡ [] → firsts ≡ []
    → AreFirsts known firsts []
no_firsts known firsts empty none = record { known = not_known known empty; are = none }

known_push :
    {V : Type 0} (old new : Entries V) (items : List Named) (item : Named) (value : V)
    → ((q : Name) → is_known old q ≡ has_item items q) → Enters old new item.name value
    → (q : Name) → is_known new q ≡ has_item (items ++ item ∷ []) q
known_push old new items item value are enters q =
    known_more old new item.name value enters q ∙ ap (λ b. b || bytes_eq item.name q) (are q)
    ∙ sym (named_push items item q)

-- whether the name of an item was entered, as the firsts tell it
was_first : {V : Type 0} (old : Entries V) (firsts items : List Named) (name : Name) → AreFirsts old firsts items
    → has_item (firsts_of items) name ≡ is_known old name
was_first old firsts items name are = same_names items name ∙ sym (are.known name)

pub first_more :
    {V : Type 0} (old new : Entries V) (firsts items : List Named) (item : Named) (value : V)
    → AreFirsts old firsts items
    → Enters old new item.name value → is_known old item.name ≡ false
    → AreFirsts new (firsts ++ item ∷ []) (items ++ item ∷ [])
first_more old new firsts items item value are enters was = record {
  known = known_push old new items item value are.known enters;
  are =
      let new_name : has_item (firsts_of items) item.name ≡ false =
      was_first old firsts items item.name are ∙ was in
      let added : add_first (firsts_of items) item ≡ firsts_of items ++ item ∷ [] = rw new_name refl in
      ap (λ xs. xs ++ item ∷ []) are.are ∙ sym (firsts_push items item ∙ added);
}

pub first_again :
    {V : Type 0} (old new : Entries V) (firsts items : List Named) (item : Named) (value : V)
    → AreFirsts old firsts items
    → Enters old new item.name value → is_known old item.name ≡ true → AreFirsts new firsts (items ++ item ∷ [])
first_again old new firsts items item value are enters was = record {
  known = known_push old new items item value are.known enters;
  are =
      let there : has_item (firsts_of items) item.name ≡ true =
      was_first old firsts items item.name are ∙ was in
      let kept : add_first (firsts_of items) item ≡ firsts_of items = rw there refl in
      are.are ∙ sym (firsts_push items item ∙ kept);
}

-- ---- no name of some items is unknown
module _ (rule : Rule) (other : Option Located) (knows : Name → Bool) where
  not_false : (b : Bool) → not b ≡ false → b ≡ true
  not_false true e = refl
  not_false false e = sym e

  pub all_known : (items : List Named) → list_any (λ (i : Named). not (knows i.name)) items ≡ false → (q : Name)
      → has_item items q ≡ true
      → knows q ≡ true
  all_known [] none q has = absurd (let e : false ≡ true = has in cc)
  all_known (item ∷ items) none q has =
      let both = or_parts (not (knows item.name)) (list_any (λ (i : Named). not (knows i.name)) items) none in
      at_first (bytes_eq item.name q) refl has (not_false (knows item.name) both.0)
      (λ later. all_known items both.1 q later)
    where
      at_first : (b : Bool) → bytes_eq item.name q ≡ b → (b || has_item items q) ≡ true → knows item.name ≡ true
          → (has_item items q ≡ true → knows q ≡ true) → knows q ≡ true
      at_first true same has known rest =
          let e : item.name ≡ q = (bytes_eq-Decides item.name q).0 same in
          subst (λ name. knows name ≡ true) e known
      at_first false same has known rest = rest has

  pub none_kept : (items : List Named) → ((q : Name) → has_item items q ≡ true → knows q ≡ true)
      → unknown rule other knows items ≡ []
  none_kept [] all = refl
  none_kept (item ∷ items) all =
      let here : has_item (item ∷ items) item.name ≡ true =
      ap (λ b. b || has_item items item.name) ((bytes_eq-Decides item.name item.name).1 refl) in
      let e : knows item.name ≡ true = all item.name here in
      let rest : unknown rule other knows items ≡ [] =
      none_kept items (λ q has. all q (or_right (bytes_eq item.name q) (has_item items q) has)) in
      rw e rest

  pub none_fails : (items : List Named) → ((q : Name) → has_item items q ≡ true → knows q ≡ true)
      → list_any (λ (i : Named). not (knows i.name)) items ≡ false
  none_fails [] all = refl
  none_fails (item ∷ items) all =
      let here : has_item (item ∷ items) item.name ≡ true =
      ap (λ b. b || has_item items item.name) ((bytes_eq-Decides item.name item.name).1 refl) in
      let e : knows item.name ≡ true = all item.name here in
      let rest = none_fails items (λ q has. all q (or_right (bytes_eq item.name q) (has_item items q) has)) in
      rw (e, rest) refl

  pub none_unknown : (items : List Named)
      → list_any (λ (i : Named). not (knows i.name)) (firsts_of items) ≡ false
      → unknown rule other knows items ≡ []
  none_unknown items none =
      none_kept items (λ q has. all_known (firsts_of items) none q (same_names items q ∙ has))

-- ---- a test of names, of which the firsts tell as much as all
module _ (test : Name → Bool) where
  -- the first of two items with one name fails if the second does
  asked_first :
      (first item : Name) (b c rest : Bool) → bytes_eq first item ≡ b → test first ≡ c → test item ≡ true
      → (b ≡ false → rest ≡ true)
      → (c || rest) ≡ true
  asked_first first item b true rest same is fails later = refl
  asked_first first item true false rest same is fails later =
      let e : first ≡ item = (bytes_eq-Decides first item).0 same in
      let f : test item ≡ false = subst (λ name. test name ≡ false) e is in
      absurd (let g : false ≡ true = sym f ∙ fails in cc)
  asked_first first item false false rest same is fails later = later refl

  -- an item fails, and one before it has its name
  asked_before : (before : List Named) (item : Named) → has_item before item.name ≡ true → test item.name ≡ true
      → list_any (λ (i : Named). test i.name) before ≡ true
  asked_before [] item has fails = absurd (let e : false ≡ true = has in cc)
  asked_before (first ∷ before) item has fails =
      asked_first first.name item.name (bytes_eq first.name item.name) (test first.name) _ refl refl fails
      (λ other. asked_before before item (or_second (bytes_eq first.name item.name) _ has other) fails)

  add_first_any : (before : List Named) (item : Named) (b : Bool) → has_item before item.name ≡ b
      → list_any (λ (i : Named). test i.name) (cond b before (before ++ item ∷ []))
      ≡ (list_any (λ (i : Named). test i.name) before || test item.name)
  add_first_any before item false has =
      list_any-append (λ (i : Named). test i.name) before (item ∷ [])
      ∙ ap (λ b. list_any (λ (i : Named). test i.name) before || b) (or_false (test item.name))
  add_first_any before item true has = by_test (test item.name) refl
    where
      by_test : (b : Bool) → test item.name ≡ b
          → list_any (λ (i : Named). test i.name) before
          ≡ (list_any (λ (i : Named). test i.name) before || b)
      by_test true is = let e = asked_before before item has is in rw e refl
      by_test false is = sym (or_false (list_any (λ (i : Named). test i.name) before))

  any_from : (before items : List Named)
      → list_any (λ (i : Named). test i.name) (fold add_first before items)
      ≡ (list_any (λ (i : Named). test i.name) before || list_any (λ (i : Named). test i.name) items)
  any_from before [] = sym (or_false (list_any (λ (i : Named). test i.name) before))
  any_from before (item ∷ items) =
      any_from (add_first before item) items
      ∙ ap (λ b. b || list_any (λ (i : Named). test i.name) items)
      (add_first_any before item (has_item before item.name) refl)
      ∙ or_assoc (list_any (λ (i : Named). test i.name) before) (test item.name)
      (list_any (λ (i : Named). test i.name) items)

  pub firsts_any : (items : List Named)
      → list_any (λ (i : Named). test i.name) (firsts_of items) ≡ list_any (λ (i : Named). test i.name) items
  firsts_any items = any_from [] items
