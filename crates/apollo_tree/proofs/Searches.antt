-- A search along a span for the first tree that a test takes.
use Rattle.std.proofs.Common.{◌≡◌, ℕ, ◌+◌, ◌-◌, ◌<◌, ◌≤◌, List, [], ◌∷◌, length, take, drop, get_or, map, refl, sym, ap}
use Rattle.std.proofs.Common.{◌∙◌, cond, Bool, true, false, arith}
use Rattle.std.proofs.lemmas.List.{length-map}
use Rattle.std.specs.List.{filter}
use Rattle.document_grammar.specs.declared.kind.SyntaxKind.{SyntaxKind}
use Rattle.apollo_tree.proofs.Parts.{spot}
use Rattle.apollo_tree.proofs.Places.{node_is, kind-is}
use Rattle.apollo_tree.proofs.Spans.{IsStep, step}
use Rattle.apollo_tree.proofs.Widening.{packed-there}
use Rattle.apollo_tree.specs.Blank.{none_there}
use Rattle.apollo_tree.specs.Children.{heads, tiled, span_heads, IsSpan}
use Rattle.apollo_tree.specs.Forms.{readable}
use Rattle.apollo_tree.specs.Order.{Place, kind_at}
use Rattle.apollo_tree.specs.Records.{forest}
use Rattle.apollo_tree.specs.References.{table_place}
use Rattle.apollo_tree.specs.Searches.{takes_record, taken_places, PassesOver, IsFirst}
use Rattle.apollo_tree.specs.Table.{IsTable}
use Rattle.apollo_tree.specs.Taken.{takes_place}
use Rattle.apollo_tree.specs.declared.node.Table.{Table}
use Rattle.apollo_tree.specs.declared.record.Record.{Record}
use Rattle.apollo_tree.specs.declared.search.Found.{Found}

-- a record passes the test as its element does
element-test : (takes : Bool → SyntaxKind → Bool) (rs : List Record) (s : List ℕ) → IsTable rs s
    → (i : ℕ) → i < length rs
    → takes_place takes (spot (forest s rs) i) ≡ takes_record takes (get_or rs i none_there)
element-test takes rs s t i h =
    ap (λ b. takes b (kind_at (spot (forest s rs) i))) (sym (node_is rs s t i h none_there))
    ∙ ap (takes (get_or rs i none_there).is_node) (sym (kind-is rs s t i h none_there))

abbrev pub rest_from : Table → ℕ → ℕ → List Place
rest_from table at to = map (table_place table) (span_heads (readable table.records) at to)

-- the trees from a place on are whole, and none before it is taken
pub record IsSearched (takes : Bool → SyntaxKind → Bool) (rs : List Record) (from at to : ℕ) : Type 0 where
  pub span : IsSpan rs at to
  pub passed : PassesOver takes rs from at to

pub begins : (takes : Bool → SyntaxKind → Bool) (rs : List Record) (from to : ℕ) → IsSpan rs from to
    → IsSearched takes rs from from to
begins takes rs from to h = record { span = h; passed = λ s t. refl }

-- one step, over records in some form
module _ {P : Type 0} (f : P → Record) (ps : List P) (takes : Bool → SyntaxKind
    → Bool) (from at to : ℕ) (h : IsSearched takes (map f ps) from at to) (lt : at < to) (p : P)
    (is : p ≡ get_or ps at p) (r : Record) (e : r ≡ f p) where
  there : r ≡ get_or (map f ps) at none_there
  there = e ∙ packed-there f (map f ps) ps at refl p is (omega (arith, h.span.inside, length-map ps f))

  one : IsStep (map f ps) at to r.size
  one = step (map f ps) at to h.span lt r.size (ap (λ (x : Record). x.size) there)

  pub fits : at + r.size ≤ to
  fits = one.rest.order

  pub moves : 0 < r.size
  moves = one.moves

  pub goes-on : takes_record takes r ≡ false → IsSearched takes (map f ps) from (at + r.size) to
  goes-on n = record {
    span = one.rest;
    passed = λ s t.
        let rs = map f ps in
        let rest = taken_places takes (forest s rs) rs (at + r.size) to in
        let left = element-test takes rs s t at one.here ∙ ap (takes_record takes) (sym there) ∙ n in
        h.passed s t
        ∙ ap (λ is. filter (takes_place takes) (map (λ i. record { whole = forest s rs; index = i }) is)) one.heads
        ∙ ap (λ b. cond b (spot (forest s rs) at ∷ rest) rest) left;
  }

  -- what the search gives where the test takes the record
  pub first : takes_record takes r ≡ true → IsFirst takes (map f ps) from to (record { index = at; row = r })
  first e = record { inside = lt; span = h.span; there = there; taken = e; passed = h.passed }

-- and where none was left
pub no-first : (takes : Bool → SyntaxKind → Bool) (rs : List Record) (from at to : ℕ)
    → IsSearched takes rs from at to → to ≤ at
    → PassesOver takes rs from to to
no-first takes rs from at to h n =
    λ s t. h.passed s t ∙ ap (λ i. taken_places takes (forest s rs) rs i to) (omega (arith, h.span.order))

-- ---- a table's trees, after the one that is found
module _ (takes : Bool → SyntaxKind → Bool) (table : Table) (from to : ℕ) (found : Found)
    (h : IsFirst takes (readable table.records) from to found) where
  abbrev rs : List Record
  rs = readable table.records

  pub after : IsStep rs found.index to found.row.size
  after = step rs found.index to h.span h.inside found.row.size (ap (λ (r : Record). r.size) h.there)

  pub found-kind : found.row.kind ≡ kind_at (table_place table found.index)
  found-kind = ap (λ (r : Record). r.kind) h.there
      ∙ kind-is rs table.text.now table.is_table found.index after.here none_there

  pub found-taken : takes_place takes (table_place table found.index) ≡ true
  found-taken = element-test takes rs table.text.now table.is_table found.index after.here
      ∙ ap (takes_record takes) (sym h.there) ∙ h.taken

  pub found-first : filter (takes_place takes) (rest_from table from to) ≡ table_place table found.index
      ∷ filter (takes_place takes) (rest_from table (found.index + found.row.size) to)
  found-first =
      let rest = filter (takes_place takes) (rest_from table (found.index + found.row.size) to) in
      h.passed table.text.now table.is_table
      ∙ ap (λ is. filter (takes_place takes) (map (table_place table) is)) after.heads
      ∙ ap (λ b. cond b (table_place table found.index ∷ rest) rest) found-taken

-- and where none is found
pub end-span : (rs : List Record) (from to : ℕ) → IsSpan rs from to → IsSpan rs to to
end-span rs from to h =
    let n : to - to ≡ 0 = omega arith in
    record { order = omega arith; inside = h.inside; trees = ap (λ n. tiled 0 (take n (drop to rs))) n }

pub none-left : (takes : Bool → SyntaxKind → Bool) (table : Table) (to : ℕ)
    → filter (takes_place takes) (rest_from table to to) ≡ []
none-left takes table to =
    let n : to - to ≡ 0 = omega arith in
    ap (λ n. filter (takes_place takes)
    (map (table_place table) (heads 0 to (take n (drop to (readable table.records)))))) n
