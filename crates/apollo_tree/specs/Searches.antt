-- What a search through the trees that follow one another in a table finds.
use Rattle.std.specs.List.{filter}
use Rattle.std.specs.Prelude.{◌≡◌, ◌<◌, ℕ, List, map, get_or, Bool, true, Option, MatchOption}
use Rattle.document_grammar.specs.Forests.{Forest}
use Rattle.document_grammar.specs.declared.kind.SyntaxKind.{SyntaxKind}
use Rattle.apollo_tree.specs.Blank.{none_there}
use Rattle.apollo_tree.specs.Children.{span_heads, IsSpan}
use Rattle.apollo_tree.specs.Order.{Place}
use Rattle.apollo_tree.specs.Records.{forest}
use Rattle.apollo_tree.specs.Table.{IsTable}
use Rattle.apollo_tree.specs.Taken.{takes_place}
use Rattle.apollo_tree.specs.declared.record.Record.{Record}
use Rattle.apollo_tree.specs.declared.search.Found.{Found}

abbrev pub takes_record : (Bool → SyntaxKind → Bool) → Record → Bool
takes_record takes r = takes r.is_node r.kind

-- the trees of a span that the test takes
abbrev pub taken_places : (Bool → SyntaxKind → Bool) → Forest → List Record → ℕ → ℕ → List Place
taken_places takes whole rs from to =
    filter (takes_place takes) (map (λ i. record { whole = whole; index = i }) (span_heads rs from to))

-- none of the trees before a place is one of them
abbrev pub PassesOver : (Bool → SyntaxKind → Bool) → List Record → ℕ → ℕ → ℕ → Type 0
PassesOver takes rs from at to =
    (s : List ℕ) → IsTable rs s
    → taken_places takes (forest s rs) rs from to ≡ taken_places takes (forest s rs) rs at to

-- the first tree of a span that the test takes: where its record is, and the record
pub record IsFirst (takes : Bool → SyntaxKind → Bool) (rs : List Record) (from to : ℕ) (found : Found) : Type 0 where
  pub inside : found.index < to
  pub span : IsSpan rs found.index to
  pub there : found.row ≡ get_or rs found.index none_there
  pub taken : takes_record takes found.row ≡ true
  pub passed : PassesOver takes rs from found.index to

-- what a search through a span gives: the first tree that the test takes, or nothing when it takes none
abbrev pub GivesFound : (Bool → SyntaxKind → Bool) → List Record → ℕ → ℕ → Option Found → Type 0
GivesFound takes rs from to result = MatchOption result (PassesOver takes rs from to to) (IsFirst takes rs from to)
