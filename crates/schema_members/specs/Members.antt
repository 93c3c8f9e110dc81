-- The definitions of documents, and their members (GraphQL, October 2021, sections 3.6 to 3.13).
use Rattle.std.specs.List.{filter, find, flat_map, list_any}
use Rattle.std.specs.Prelude.{ℕ, Bool, false, ◌&&◌, ◌||◌, if◌then◌else◌, List, [], ◌∷◌, bytes_eq}
use Rattle.std.specs.Prelude.{Option, Some, None, option_and_then, option_map, unwrap_or}
use Rattle.document_grammar.specs.declared.kind.SyntaxKind.TheVariants.{ENUM_VALUE, ENUM_VALUE_DEFINITION}
use Rattle.document_grammar.specs.declared.kind.SyntaxKind.TheVariants.{FIELD_DEFINITION, IMPLEMENTS_INTERFACES}
use Rattle.document_grammar.specs.declared.kind.SyntaxKind.TheVariants.{INPUT_VALUE_DEFINITION}
use Rattle.document_grammar.specs.declared.kind.SyntaxKind.TheVariants.{INTERFACE_TYPE_DEFINITION}
use Rattle.document_grammar.specs.declared.kind.SyntaxKind.TheVariants.{INTERFACE_TYPE_EXTENSION, NAME}
use Rattle.apollo_tree.specs.Above.{at_or_above}
use Rattle.apollo_tree.specs.Children.{child_nodes}
use Rattle.apollo_tree.specs.Order.{Place, parent_place, range_at, text_at}
use Rattle.apollo_tree.specs.References.{node_place}
use Rattle.apollo_tree.specs.declared.node.SyntaxNode.{SyntaxNode}
use Rattle.apollo_cst_core.specs.Kinds.{is_of, is_of_one}
use Rattle.schema_members.specs.declared.definitions.TheConstants.{MEMBERS, TYPES}

-- ---- names

-- the node that is the name in a definition or in a mention of one; the name in the definition of an enum's value is
-- the value
abbrev pub name_node : Place → Option Place
name_node place = find (is_of_one (NAME ∷ ENUM_VALUE ∷ [])) (child_nodes place)

-- its text, empty where there is none
abbrev pub name_at : Place → List ℕ
name_at place = unwrap_or (option_map text_at (name_node place)) []

-- where the name begins, or without one what it would be of
abbrev pub name_start : Place → ℕ
name_start place = (range_at (unwrap_or (name_node place) place)).0

-- ---- members

-- the members in a block of a definition
abbrev pub members_of_block : Place → List Place
members_of_block block = filter (is_of_one MEMBERS) (child_nodes block)

-- the members of a definition: the fields or values of a type, the arguments of a field or a directive
abbrev pub members_in : Place → List Place
members_in definition = flat_map members_of_block (child_nodes definition)

-- the member that a name defines: the field, the argument or the input field that it is in, or the definition of the
-- value that it is in
abbrev pub defined_in : Place → Option Place
defined_in node =
    if is_of FIELD_DEFINITION node || is_of INPUT_VALUE_DEFINITION node then Some node
    else if is_of ENUM_VALUE node then option_and_then
    (λ value. if is_of ENUM_VALUE_DEFINITION value then Some value else None) (parent_place node) else None

-- ---- interfaces

-- whether a definition is of an interface, or says that its type implements one (section 3.7)
abbrev pub has_interface : Place → Bool
has_interface definition =
    is_of_one (INTERFACE_TYPE_DEFINITION ∷ INTERFACE_TYPE_EXTENSION ∷ []) definition
    || list_any (is_of IMPLEMENTS_INTERFACES) (child_nodes definition)

-- whether it is such a definition of a type with a name
abbrev pub is_interface_named : List ℕ → Place → Bool
is_interface_named name definition =
    is_of_one TYPES definition && (bytes_eq (name_at definition) name && has_interface definition)

-- whether a document has one
abbrev pub has_interface_named : List ℕ → Place → Bool
has_interface_named name root = list_any (is_interface_named name) (child_nodes root)

-- whether a node is in the definition of a type of which a document has such a definition
abbrev pub is_shared_in : List SyntaxNode → Place → Bool
is_shared_in roots node =
    unwrap_or (option_map (λ type. list_any (λ root. has_interface_named (name_at type) (node_place root)) roots)
    (find (is_of_one TYPES) (at_or_above node)))
    false
