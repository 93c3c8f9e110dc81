-- Items with names, one after another.
use Rattle.std.proofs.Common.{◌≡◌, ℕ, ◌+◌, ◌<◌, ◌≤◌, List, [], length, map, take, get_or, Option, Some}
use Rattle.std.proofs.Common.{None, arith, rules, sym, ◌∙◌, ap}
use Rattle.std.proofs.Math.ListN.{get_or-map}
use Rattle.std.proofs.lemmas.List.{get_or_default, length-map, length-take, map-append, take_more}
use Rattle.std.proofs.lemmas.List.Quantifiers.{position-Some}
use Rattle.std.specs.Prelude.{IfSome}
use Rattle.validation_names.proofs.Numbers.{named_more}
use Rattle.validation_names.specs.Mentions.{Named, as_named}
use Rattle.validation_names.specs.Names.{AreFirstNumbers, Entries, Enters, Name, first_number, has_name}
use Rattle.validation_names.specs.declared.name_mentions.Mention.{Mention}
use Rattle.validation_rules.specs.Parts.{item_at, names}

abbrev pub no_item : Named
no_item = item_at [] 0

pub item_read : (items : List Mention) (n : ℕ) (m : Mention) → n < length items → m ≡ get_or items n m
    → item_at (map as_named items) n ≡ as_named m
item_read items n m below is =
    get_or_default (map as_named items) n no_item (as_named m) (rw length-map below) ∙ get_or-map as_named items n m
    ∙ ap as_named (sym is)

names_long : (items : List Named) (n : ℕ) → n ≤ length items → n ≡ length (names (take n items))
names_long items n le = rw (length-map, length-take) (omega arith)

pub names_more :
    (old new : Entries ℕ) (items : List Named) (n : ℕ) → n < length items → AreFirstNumbers old (names (take n items))
    → Enters old new (item_at items n).name n → AreFirstNumbers new (names (take (n + 1) items))
names_more old new items n below are enters =
    rw (take_more items n no_item below, map-append)
    (named_more old new (names (take n items)) (item_at items n).name n are (names_long items n (omega arith)) enters)

-- the first of a name among the first n has a number below n
pub below_of : (items : List Named) (n : ℕ) (name : Name) (first : Option ℕ) → n ≤ length items
    → first_number (names (take n items)) name ≡ first
    → IfSome first (λ k. k < n)
below_of items n name None le is = search rules
below_of items n name (Some k) le is =
    let long = names_long items n le in
    let below = (position-Some (has_name name) (names (take n items)) k (Some name) is).0 in
    omega arith
