-- Documents that are judged together, and where something is in them.
use Rattle.std.specs.List.{filter}
use Rattle.std.specs.Prelude.{ℕ, suc, List, [], ◌∷◌, ◌++◌, map}
use Rattle.apollo_tree.specs.Below.{at_or_below}
use Rattle.apollo_tree.specs.Children.{child_nodes, is_node_place}
use Rattle.apollo_tree.specs.Order.{Place}
use Rattle.apollo_tree.specs.References.{node_place}
use Rattle.validation_names.specs.declared.sites.Site.{Site}

-- the number of a document, from 0 on, and a place in its tree
pub record Located : Type 0 where
  pub document : ℕ
  pub place : Place

abbrev pub located : ℕ → Place → Located
located document place = record { document = document; place = place }

abbrev pub as_located : Site → Located
as_located s = located s.document (node_place s.node)

-- the nodes at and below an element
abbrev pub nodes : Place → List Place
nodes root = filter is_node_place (at_or_below root)

-- What is found in each of some documents, by their roots, in the order of the documents. The first has the number n.
abbrev pub in_documents_from : (Place → List Place) → ℕ → List Place → List Located
in_documents_from places n [] = []
in_documents_from places n (document ∷ documents) =
    map (located n) (places document) ++ in_documents_from places (suc n) documents

abbrev pub in_documents : (Place → List Place) → List Place → List Located
in_documents places documents = in_documents_from places 0 documents

-- the top-level definitions of some documents, and all their nodes
abbrev pub all_definitions : List Place → List Located
all_definitions documents = in_documents child_nodes documents

abbrev pub all_nodes : List Place → List Located
all_nodes documents = in_documents nodes documents
