-- The promise of a parse and the laws of reading back and of one derivation, put together.
use Rattle.std.proofs.Common.{◌≡◌, ℕ, true, List, [], ap, subst}
use Rattle.std.specs.List.{All}
use Rattle.apollo_parser.specs.Accessors.{accessors}
use Rattle.apollo_parser.specs.Children.{is_node_place}
use Rattle.apollo_parser.specs.Derivation.{Fits, document}
use Rattle.apollo_parser.specs.Forests.{Forest}
use Rattle.apollo_parser.specs.Numbered.{tree_of}
use Rattle.apollo_parser.specs.Order.{Place}
use Rattle.apollo_parser.specs.Parsed.{Parsed}
use Rattle.apollo_parser.specs.Placed.{bare}
use Rattle.apollo_parser.specs.Promise.{Promise}
use Rattle.apollo_parser.specs.ReadingBack.{FitsRow, ReadsAt, place}
use Rattle.apollo_parser.specs.Roots.{one_node}
use Rattle.apollo_parser.specs.Sentence.{Sentence}
use Rattle.apollo_parser.specs.Tree.{Tree}

-- the promise for the text and the limit that the parser has
pub same-text : {source other : List ℕ} {r q k : ℕ} {t : Parsed} → other ≡ source → q ≡ r → Promise other q k t
    → Promise source r k t
same-text {source = source} {q = q} {k = k} {t = t} s d p =
    subst (λ (x : ℕ). Promise source x k t) d (subst (λ (x : List ℕ). Promise x q k t) s p)

module _ {source : List ℕ} {r k : ℕ} {t : Parsed} (p : Promise source r k t) where
  pub reads-back : ((q : Place) → FitsRow q → All (ReadsAt q) accessors)
      → ((whole : Forest) → one_node whole ≡ true → Fits (bare (tree_of whole)) → (i : ℕ)
      → is_node_place (place whole i) ≡ true → FitsRow (place whole i))
      → t.errors ≡ [] → (i : ℕ) → is_node_place (place t.tree i) ≡ true → All (ReadsAt (place t.tree i)) accessors
  reads-back reads fits none i h =
      let (kids, is) = p.one_document in
      let sentence = (p.sound none).0 in
      reads (place t.tree i) (fits t.tree (ap one_node is) sentence.derivation.1 i h)

  pub one-tree : ((text : List ℕ) (u v : Tree) → Sentence text u document → Sentence text v document → u ≡ v)
      → t.errors ≡ [] → (u : Tree)
      → Sentence source u document → bare (tree_of t.tree) ≡ u
  one-tree one none u s = one source (bare (tree_of t.tree)) u (p.sound none).0 s
