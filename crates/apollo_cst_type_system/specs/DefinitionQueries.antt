-- What the calls of `Definition` give: the name, the kind in words, and which sort of definition it is.
use Rattle.std.specs.Prelude.{ℕ, List, Bool, true, false, Option, Some, None, codes}
use Rattle.document_grammar.specs.Numbers.{is_kind}
use Rattle.document_grammar.specs.declared.kind.SyntaxKind.TheVariants.{NAME, FRAGMENT_NAME}
use Rattle.apollo_tree.specs.Order.{Place}
use Rattle.apollo_tree.specs.References.{node_place}
use Rattle.apollo_cst_core.specs.Cast.{cast_children, first_of}
use Rattle.apollo_cst_type_system.specs.Definition.{definition_node}
use Rattle.apollo_cst_type_system.specs.declared.document.Definition.{Definition}
use Rattle.apollo_cst_type_system.specs.declared.document.Definition.TheVariants.{OperationDefinition}
use Rattle.apollo_cst_type_system.specs.declared.document.Definition.TheVariants.{FragmentDefinition}
use Rattle.apollo_cst_type_system.specs.declared.document.Definition.TheVariants.{DirectiveDefinition, SchemaDefinition}
use Rattle.apollo_cst_type_system.specs.declared.document.Definition.TheVariants.{ScalarTypeDefinition}
use Rattle.apollo_cst_type_system.specs.declared.document.Definition.TheVariants.{ObjectTypeDefinition}
use Rattle.apollo_cst_type_system.specs.declared.document.Definition.TheVariants.{InterfaceTypeDefinition}
use Rattle.apollo_cst_type_system.specs.declared.document.Definition.TheVariants.{UnionTypeDefinition}
use Rattle.apollo_cst_type_system.specs.declared.document.Definition.TheVariants.{EnumTypeDefinition}
use Rattle.apollo_cst_type_system.specs.declared.document.Definition.TheVariants.{InputObjectTypeDefinition}
use Rattle.apollo_cst_type_system.specs.declared.document.Definition.TheVariants.{SchemaExtension, ScalarTypeExtension}
use Rattle.apollo_cst_type_system.specs.declared.document.Definition.TheVariants.{ObjectTypeExtension}
use Rattle.apollo_cst_type_system.specs.declared.document.Definition.TheVariants.{InterfaceTypeExtension}
use Rattle.apollo_cst_type_system.specs.declared.document.Definition.TheVariants.{UnionTypeExtension, EnumTypeExtension}
use Rattle.apollo_cst_type_system.specs.declared.document.Definition.TheVariants.{InputObjectTypeExtension}

-- the first child NAME of an element
abbrev pub name_at : Place → Option Place
name_at p = first_of (cast_children (is_kind NAME) p)

-- the same of an element that may be missing
abbrev name_in : Option Place → Option Place
name_in None = None
name_in (Some p) = name_at p

-- a schema has no name; a fragment's name is in its FRAGMENT_NAME
abbrev pub definition_name : Definition → Option Place
definition_name (SchemaDefinition n) = None
definition_name (SchemaExtension n) = None
definition_name (FragmentDefinition n) =
    name_in (first_of (cast_children (is_kind FRAGMENT_NAME) (node_place n.syntax)))
definition_name d = name_at (node_place (definition_node d))

-- operations and fragments
abbrev pub is_executable : Definition → Bool
is_executable (OperationDefinition n) = true
is_executable (FragmentDefinition n) = true
is_executable _ = false

-- the seven extensions
abbrev pub is_extension : Definition → Bool
is_extension (SchemaExtension n) = true
is_extension (ScalarTypeExtension n) = true
is_extension (ObjectTypeExtension n) = true
is_extension (InterfaceTypeExtension n) = true
is_extension (UnionTypeExtension n) = true
is_extension (EnumTypeExtension n) = true
is_extension (InputObjectTypeExtension n) = true
is_extension _ = false

-- the name of the struct
abbrev pub kind_name : Definition → List ℕ
kind_name (OperationDefinition n) = codes "OperationDefinition"
kind_name (FragmentDefinition n) = codes "FragmentDefinition"
kind_name (DirectiveDefinition n) = codes "DirectiveDefinition"
kind_name (SchemaDefinition n) = codes "SchemaDefinition"
kind_name (ScalarTypeDefinition n) = codes "ScalarTypeDefinition"
kind_name (ObjectTypeDefinition n) = codes "ObjectTypeDefinition"
kind_name (InterfaceTypeDefinition n) = codes "InterfaceTypeDefinition"
kind_name (UnionTypeDefinition n) = codes "UnionTypeDefinition"
kind_name (EnumTypeDefinition n) = codes "EnumTypeDefinition"
kind_name (InputObjectTypeDefinition n) = codes "InputObjectTypeDefinition"
kind_name (SchemaExtension n) = codes "SchemaExtension"
kind_name (ScalarTypeExtension n) = codes "ScalarTypeExtension"
kind_name (ObjectTypeExtension n) = codes "ObjectTypeExtension"
kind_name (InterfaceTypeExtension n) = codes "InterfaceTypeExtension"
kind_name (UnionTypeExtension n) = codes "UnionTypeExtension"
kind_name (EnumTypeExtension n) = codes "EnumTypeExtension"
kind_name (InputObjectTypeExtension n) = codes "InputObjectTypeExtension"
