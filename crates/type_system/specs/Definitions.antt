-- Definitions of a type system, and what is in them (GraphQL October 2021, section 3).
use Rattle.std.specs.List.{filter, find, flat_map}
use Rattle.std.specs.Prelude.{List, [], ◌∷◌, map, Bool, false, not, ◌&&◌, Option, Some, None, is_some, option_map}
use Rattle.std.specs.Prelude.{option_and_then, if◌then◌else◌, bytes_eq, codes}
use Rattle.document_grammar.specs.declared.kind.SyntaxKind.{SyntaxKind}
use Rattle.document_grammar.specs.declared.kind.SyntaxKind.TheVariants.{DEFAULT_VALUE, LIST_TYPE, NAMED_TYPE}
use Rattle.document_grammar.specs.declared.kind.SyntaxKind.TheVariants.{NON_NULL_TYPE}
use Rattle.document_grammar.specs.declared.kind.SyntaxKind.TheVariants.{OPERATION_TYPE, ROOT_OPERATION_TYPE_DEFINITION}
use Rattle.apollo_tree.specs.Children.{child_nodes}
use Rattle.apollo_tree.specs.Order.{Place, text_at}
use Rattle.apollo_cst_core.specs.Kinds.{is_of, is_of_one}
use Rattle.validation_names.specs.Mentions.{name_of}
use Rattle.validation_names.specs.Names.{Name, has_name}
use Rattle.validation_names.specs.OwnNames.{own_name}
use Rattle.validation_names.specs.Sites.{Located, located, nodes}
use Rattle.type_system.specs.Operations.{word_of}
use Rattle.type_system.specs.declared.kinds.OperationType.{OperationType}
use Rattle.type_system.specs.declared.kinds.OperationType.TheVariants.{Query, Mutation, Subscription}
use Rattle.type_system.specs.declared.kinds.TheConstants.{TYPE_REFERENCES}

-- the name under which an element of one of these kinds defines something
abbrev pub named_as : List SyntaxKind → Located → Option Name
named_as kinds d = if is_of_one kinds d.place then name_of d.place else None

abbrev pub is_named : Name → Located → Bool
is_named name d = has_name name (own_name d.place)

-- What is in the blocks of a kind in a definition. For example, the fields of a type are in its FIELDS_DEFINITION.
abbrev pub items : SyntaxKind → Located → List Located
items block d = map (located d.document) (flat_map child_nodes (filter (is_of block) (child_nodes d.place)))

-- what is in a node
abbrev pub children : Located → List Located
children d = map (located d.document) (child_nodes d.place)

-- ---- 2.11: types that definitions refer to
abbrev pub type_reference : Place → Option Place
type_reference p = find (is_of_one TYPE_REFERENCES) (child_nodes p)

-- the named type in a reference, whatever lists and `!` are round it
abbrev pub named_in : Place → Option Name
named_in reference = option_and_then name_of (find (is_of NAMED_TYPE) (nodes reference))

abbrev pub named_type : Place → Option Name
named_type p = option_and_then named_in (type_reference p)

abbrev pub is_non_null : Option Place → Bool
is_non_null None = false
is_non_null (Some reference) = is_of NON_NULL_TYPE reference

-- the type without its `!`; and in a list, whether it has one or not, the type of its items
abbrev pub nullable : Place → Option Place
nullable reference = if is_of NON_NULL_TYPE reference then type_reference reference else Some reference

abbrev pub item_in : Place → Option Place
item_in reference = if is_of LIST_TYPE reference then type_reference reference else None

abbrev pub item_type : Place → Option Place
item_type reference = option_and_then item_in (nullable reference)

abbrev pub has_default : Place → Bool
has_default p = is_some (find (is_of_one (DEFAULT_VALUE ∷ [])) (child_nodes p))

-- 5.4.2.1 and 5.6.4: an argument or an input field has to be given if its type is non-null and it has no default value
abbrev pub is_required : Located → Bool
is_required d = is_some (name_of d.place) && (is_non_null (type_reference d.place) && not (has_default d.place))

-- ---- 2.3 and 3.3.1: operations and their roots
abbrev pub operation_word : Place → Option Name
operation_word p = option_map text_at (find (is_of_one (OPERATION_TYPE ∷ [])) (child_nodes p))

-- an operation without a word is a query
abbrev pub type_of_word : Option Name → OperationType
type_of_word None = Query
type_of_word (Some word) =
    if bytes_eq word (codes "mutation")
    then Mutation
    else (if bytes_eq word (codes "subscription") then Subscription else Query)

abbrev pub operation_type : Place → OperationType
operation_type p = type_of_word (operation_word p)

-- what gives the root type of such operations
abbrev pub is_root : OperationType → Located → Bool
is_root operation d =
    is_of ROOT_OPERATION_TYPE_DEFINITION d.place && has_name (word_of operation) (operation_word d.place)
