-- The operations and fragments of documents that are judged together (GraphQL October 2021, section 2.2).
use Rattle.std.specs.List.{filter_map}
use Rattle.std.specs.Prelude.{List, map, if◌then◌else◌, Option, Some, None, option_map}
use denote.Ref.{Bor}
use Rattle.document_grammar.specs.Numbers.{is_kind}
use Rattle.document_grammar.specs.declared.kind.SyntaxKind.TheVariants.{FRAGMENT_NAME, FRAGMENT_DEFINITION}
use Rattle.document_grammar.specs.declared.kind.SyntaxKind.TheVariants.{OPERATION_DEFINITION}
use Rattle.apollo_tree.specs.Order.{Place, kind_at}
use Rattle.validation_names.specs.Mentions.{Named, name_of, name_in}
use Rattle.validation_names.specs.Names.{Name}
use Rattle.validation_names.specs.Sites.{Located, all_definitions, as_located}
use Rattle.validation_names.specs.declared.executables.DefinitionKind.{DefinitionKind}
use Rattle.validation_names.specs.declared.executables.DefinitionKind.TheVariants.{Operation, Fragment}
use Rattle.validation_names.specs.declared.executables.ExecutableDefinition.{ExecutableDefinition}

-- an operation or a fragment: where it is, and its name, which an operation may lack
pub record Defined : Type 0 where
  pub kind : DefinitionKind
  pub site : Located
  pub name : Option Name

abbrev pub as_defined : ExecutableDefinition → Defined
as_defined d = record {
  kind = d.kind;
  site = as_located d.site;
  name = option_map (λ (n : Bor (List _)). n.now) d.name;
}

-- the operation or fragment that an element is
abbrev pub defined_at : Located → Option Defined
defined_at site =
    if is_kind OPERATION_DEFINITION (kind_at site.place)
    then Some (record { kind = Operation; site = site; name = name_of site.place })
    else (if is_kind FRAGMENT_DEFINITION (kind_at site.place)
    then Some (record { kind = Fragment; site = site; name = name_in FRAGMENT_NAME site.place })
    else None)

-- those of some documents, by their roots, in order
abbrev pub defined : List Place → List Defined
defined documents = filter_map defined_at (all_definitions documents)

-- the name of an operation
abbrev pub operation_name : Defined → Option Name
operation_name d = elim d.kind [ Operation ↦ d.name | Fragment ↦ None ]

-- the name of a fragment
abbrev pub fragment_name : Defined → Option Name
fragment_name d = elim d.kind [ Operation ↦ None | Fragment ↦ d.name ]

abbrev pub fragment_names : List Defined → List (Option Name)
fragment_names ds = map fragment_name ds

abbrev pub name_as : DefinitionKind → Defined → Option Name
name_as Operation d = operation_name d
name_as Fragment d = fragment_name d

abbrev pub named : DefinitionKind → Defined → Option Named
named kind d = option_map (λ name. record { site = d.site; name = name }) (name_as kind d)

-- the operations or the fragments that have a name
abbrev pub named_definitions : DefinitionKind → List Defined → List Named
named_definitions kind ds = filter_map (named kind) ds
