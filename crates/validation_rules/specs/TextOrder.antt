-- The order of the text, for breaches of rules.
use Rattle.std.specs.List.{Contains, filter}
use Rattle.std.specs.List.Sorted.{IsPermutation, IsSortedBy, ties}
use Rattle.std.specs.Option.{option_cmp}
use Rattle.std.specs.Ordering.{is_lt, nat_cmp, ordering_then}
use Rattle.std.specs.Prelude.{◌≡◌, ℕ, Bool, List, Option, option_map}
use Rattle.std.specs.declared.cmp.Ordering.{Ordering}
use Rattle.validation_names.specs.Sites.{Located}
use Rattle.validation_rules.specs.RuleNumbers.{rule_number}
use Rattle.validation_rules.specs.Violations.{Breach}

-- a place in the order of the text: its document, and its place there
abbrev pub SiteKey : Type 0
SiteKey = ℕ × ℕ

abbrev pub site_key : Located → SiteKey
site_key site = (site.document, site.place.index)

-- a breach in that order: its place, then its rule, and then the other party
abbrev pub TextKey : Type 0
TextKey = SiteKey × ℕ × Option SiteKey

abbrev pub text_key : Breach → TextKey
text_key b = (site_key b.site, rule_number b.rule, option_map site_key b.other)

abbrev pub site_order : SiteKey → SiteKey → Ordering
site_order x y = ordering_then (nat_cmp x.0 y.0) (nat_cmp x.1 y.1)

-- by the first numbers that differ; no other party is before any
abbrev pub text_order : TextKey → TextKey → Ordering
text_order x y = ordering_then (ordering_then (site_order x.0 y.0) (nat_cmp x.1 y.1)) (option_cmp site_order x.2 y.2)

-- a breach comes before another
abbrev pub comes_before : Breach → Breach → Bool
comes_before a b = is_lt (text_order (text_key a) (text_key b))

-- The second list has the breaches of the first in the order of the text. Those that this order does not tell apart are
-- in the order that they had.
pub record IsInTextOrder (breaches ordered : List Breach) : Type 0 where
  pub same : IsPermutation breaches ordered
  pub sorted : IsSortedBy comes_before ordered
  pub stable : (b : Breach) → Contains breaches b
      → filter (ties comes_before b) ordered ≡ filter (ties comes_before b) breaches
