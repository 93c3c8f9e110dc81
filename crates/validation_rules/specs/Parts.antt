-- What the rules ask of operations and fragments: their names, and the names that they mention.
use Rattle.std.specs.List.{filter, filter_map, list_any, range_with_len}
use Rattle.std.specs.Prelude.{ℕ, List, [], ◌∷◌, length, map, Bool, true, false, Option, None, Some, is_none, is_some}
use Rattle.std.specs.Prelude.{bytes_eq, slice_index_or}
use Rattle.document_grammar.specs.Forests.{none}
use Rattle.apollo_tree.specs.Order.{Place}
use Rattle.directed_graph.specs.Reach.{has_vertex, within}
use Rattle.validation_names.specs.Definitions.{Defined, as_defined, defined, fragment_names}
use Rattle.validation_names.specs.Mentions.{Named, as_named, mentions}
use Rattle.validation_names.specs.Names.{Name, first_number}
use Rattle.validation_names.specs.Sites.{Located, located}
use Rattle.validation_names.specs.declared.executables.DefinitionKind.TheVariants.{Operation, Fragment}
use Rattle.validation_names.specs.declared.name_mentions.MentionKind.TheVariants.{Spread, Declared, Used}
use Rattle.validation_rules.specs.declared.definition_parts.DefinitionParts.{DefinitionParts}

-- an operation or a fragment with the fragments that it spreads, and the variables that it declares and uses
pub record Parts : Type 0 where
  pub definition : Defined
  pub spreads : List Named
  pub declared : List Named
  pub used : List Named

abbrev pub as_parts : DefinitionParts → Parts
as_parts d = record {
  definition = as_defined d.definition;
  spreads = map as_named d.spreads.items;
  declared = map as_named d.declared.items;
  used = map as_named d.used.items;
}

-- those of a definition in its tree
abbrev pub parts_of : Defined → Parts
parts_of d = record {
  definition = d;
  spreads = mentions Spread d.site;
  declared = mentions Declared d.site;
  used = mentions Used d.site;
}

-- the operations and fragments of some documents, by their roots
abbrev pub parts_in : List Place → List Parts
parts_in documents = map parts_of (defined documents)

abbrev pub definitions : List Parts → List Defined
definitions ds = map (λ d. d.definition) ds

abbrev pub nowhere : Located
nowhere = located 0 (record { whole = none; index = 0 })

abbrev pub nothing : Parts
nothing = record {
  definition = record { kind = Fragment; site = nowhere; name = None };
  spreads = [];
  declared = [];
  used = [];
}

-- the definition with a number
abbrev pub at : List Parts → ℕ → Parts
at ds number = slice_index_or ds number nothing

abbrev pub site_at : List Parts → ℕ → Located
site_at ds number = (at ds number).definition.site

abbrev pub is_operation : Parts → Bool
is_operation d = elim d.definition.kind [ Operation ↦ true | Fragment ↦ false ]

-- the numbers of all definitions, and of the operations
abbrev pub numbers : List Parts → List ℕ
numbers ds = range_with_len 0 (length ds)

abbrev pub operations : List Parts → List ℕ
operations ds = filter (λ number. is_operation (at ds number)) (numbers ds)

abbrev pub is_anonymous : Parts → Bool
is_anonymous d = is_none d.definition.name

-- the first fragment with a name
abbrev pub fragment_named : List Parts → Name → Option ℕ
fragment_named ds name = first_number (fragment_names (definitions ds)) name

-- the fragments that a definition spreads, in order
abbrev pub targets : List Parts → ℕ → List ℕ
targets ds number = filter_map (λ (s : Named). fragment_named ds s.name) (at ds number).spreads

-- The definition is one of these, or one of these spreads it, directly or through other fragments.
abbrev pub reaches : List Parts → List ℕ → ℕ → Bool
reaches ds starts number = has_vertex (within (targets ds) (length ds) starts) number

-- ---- items with names
abbrev pub item_at : List Named → ℕ → Named
item_at items number = slice_index_or items number (record { site = nowhere; name = [] })

abbrev pub names : List Named → List (Option Name)
names items = map (λ (i : Named). Some i.name) items

-- whether one of the items has the name
abbrev pub has_item : List Named → Name → Bool
has_item items name = list_any (λ (i : Named). bytes_eq i.name name) items

-- ---- what rules say of definitions
-- whether a fragment of the name is defined
abbrev pub is_fragment_name : List Parts → Name → Bool
is_fragment_name ds name = is_some (fragment_named ds name)

-- whether the operation declares the variable
abbrev pub is_declared : List Parts → ℕ → Name → Bool
is_declared ds operation name = has_item (at ds operation).declared name

-- the definitions that an operation reaches, and itself, in order
abbrev pub reached : List Parts → ℕ → List ℕ
reached ds operation = filter (reaches ds (operation ∷ [])) (numbers ds)

-- whether the operation uses the variable, in itself or in a fragment that it reaches
abbrev pub is_used : List Parts → ℕ → Name → Bool
is_used ds operation name = list_any (λ number. has_item (at ds number).used name) (reached ds operation)
