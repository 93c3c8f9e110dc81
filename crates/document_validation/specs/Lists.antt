-- Lists in a tree whose items have to have different names, and which definitions are executable.
use Rattle.std.specs.List.{filter_map, list_any}
use Rattle.std.specs.Prelude.{List, Bool, true, false, not, ◌&&◌, ◌||◌, Option, Some, None, [], ◌∷◌, map, option_map}
use Rattle.std.specs.Prelude.{if◌then◌else◌}
use Rattle.document_grammar.specs.Numbers.{is_kind}
use Rattle.document_grammar.specs.declared.kind.SyntaxKind.TheVariants.{ARGUMENTS, ARGUMENTS_DEFINITION}
use Rattle.document_grammar.specs.declared.kind.SyntaxKind.TheVariants.{ENUM_VALUES_DEFINITION, FIELDS_DEFINITION}
use Rattle.document_grammar.specs.declared.kind.SyntaxKind.TheVariants.{FRAGMENT_DEFINITION, INPUT_FIELDS_DEFINITION}
use Rattle.document_grammar.specs.declared.kind.SyntaxKind.TheVariants.{OBJECT_VALUE, OPERATION_DEFINITION}
use Rattle.document_grammar.specs.declared.kind.SyntaxKind.TheVariants.{IMPLEMENTS_INTERFACES, UNION_MEMBER_TYPES}
use Rattle.document_grammar.specs.declared.kind.SyntaxKind.TheVariants.{VARIABLE_DEFINITIONS}
use Rattle.apollo_tree.specs.Children.{child_nodes}
use Rattle.apollo_tree.specs.Order.{Place, kind_at}
use Rattle.validation_names.specs.Mentions.{Named}
use Rattle.validation_names.specs.OwnNames.{own_name}
use Rattle.validation_names.specs.Sites.{Located, located}
use Rattle.document_validation.specs.declared.lists.DocumentKind.{DocumentKind}
use Rattle.document_validation.specs.declared.lists.DocumentKind.TheVariants.{Executable, TypeSystem}
use Rattle.document_validation.specs.declared.lists.NamedList.{NamedList}
use Rattle.document_validation.specs.declared.lists.NamedList.TheVariants.{Arguments, ObjectFields, Variables}
use Rattle.document_validation.specs.declared.lists.NamedList.TheVariants.{FieldDefinitions, InputFieldDefinitions}
use Rattle.document_validation.specs.declared.lists.NamedList.TheVariants.{ArgumentDefinitions, EnumValues}
use Rattle.document_validation.specs.declared.lists.NamedList.TheVariants.{UnionMembers, Interfaces}

-- the list that an element is
abbrev pub list_of : Place → Option NamedList
list_of p =
    if is_kind ARGUMENTS (kind_at p)
    then Some Arguments
    else (if is_kind OBJECT_VALUE (kind_at p)
    then Some ObjectFields
    else (if is_kind VARIABLE_DEFINITIONS (kind_at p)
    then Some Variables
    else (if is_kind FIELDS_DEFINITION (kind_at p)
    then Some FieldDefinitions
    else (if is_kind INPUT_FIELDS_DEFINITION (kind_at p)
    then Some InputFieldDefinitions
    else (if is_kind ARGUMENTS_DEFINITION (kind_at p)
    then Some ArgumentDefinitions
    else (if is_kind ENUM_VALUES_DEFINITION (kind_at p)
    then Some EnumValues
    else (if is_kind UNION_MEMBER_TYPES (kind_at p)
    then Some UnionMembers
    else (if is_kind IMPLEMENTS_INTERFACES (kind_at p)
    then Some Interfaces
    else None))))))))

-- an item of such a list
abbrev pub item_of : Located → Option Named
item_of site = option_map (λ name. record { site = site; name = name }) (own_name site.place)

-- the items of a list that have a name, as each has in a tree without errors
abbrev pub items_of : Located → List Named
items_of site = filter_map item_of (map (located site.document) (child_nodes site.place))

-- ---- 5.1.1: a document has only executable definitions
abbrev pub is_executable : Place → Bool
is_executable p = is_kind OPERATION_DEFINITION (kind_at p) || is_kind FRAGMENT_DEFINITION (kind_at p)

abbrev pub has_item : List Place → Bool
has_item [] = false
has_item (p ∷ ps) = true

-- What a document is judged as: as one of the type system if it has definitions, and none of them is an operation or a
-- fragment.
abbrev pub document_kind : Place → DocumentKind
document_kind document =
    if has_item (child_nodes document) && not (list_any is_executable (child_nodes document))
    then TypeSystem
    else Executable
