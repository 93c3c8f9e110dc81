-- Names, and what is entered under them.
use Rattle.std.specs.BTreeMap.{BTreeMap, get_by}
use Rattle.std.specs.Cmp.Lexicographic.{slice_cmp}
use Rattle.std.specs.List.{position}
use Rattle.std.specs.Ordering.{nat_cmp}
use Rattle.std.specs.Prelude.{◌≡◌, ℕ, List, Bool, false, Option, Some, None, is_some, true, unwrap_or, if◌then◌else◌}
use Rattle.std.specs.Prelude.{bytes_eq}
use denote.Ref.{Bor}

-- the bytes of a name
abbrev pub Name : Type 0
Name = List ℕ

abbrev pub Entries : Type 0 → Type 0
Entries V = BTreeMap (Bor (List ℕ)) V

-- what is entered under a name
abbrev pub entry_of : {V : Type 0} → Entries V → Name → Option V
entry_of entries name = get_by (λ (k : Bor (List ℕ)). slice_cmp nat_cmp name k.now) entries

abbrev pub HasEntry : {V : Type 0} → Entries V → Name → Type 0
HasEntry entries name = is_some (entry_of entries name) ≡ true

-- The value is entered under the name if there was none before. The other entries are as they were.
abbrev pub Enters : {V : Type 0} → Entries V → Entries V → Name → V → Type 0
Enters old new name value =
    (q : Name) → entry_of new q
    ≡ (if bytes_eq name q then Some (unwrap_or (entry_of old name) value) else entry_of old q)

abbrev pub has_name : Name → Option Name → Bool
has_name name None = false
has_name name (Some other) = bytes_eq other name

-- the number of the first one with a name
abbrev pub first_number : List (Option Name) → Name → Option ℕ
first_number names name = position (has_name name) names

-- Under each name is the number of the first one with that name.
abbrev pub AreFirstNumbers : Entries ℕ → List (Option Name) → Type 0
AreFirstNumbers entries names = (name : Name) → entry_of entries name ≡ first_number names name
