-- What holds at a place in an operation or a fragment, by the types of a schema.
use Rattle.std.specs.List.{find}
use Rattle.std.specs.Option.{option_or}
use Rattle.std.specs.Prelude.{ℕ, List, [], ◌∷◌, Bool, false, Option, Some, None, option_map, option_and_then}
use Rattle.std.specs.Prelude.{if◌then◌else◌}
use denote.Ref.{Bor}
use Rattle.document_grammar.specs.declared.kind.SyntaxKind.{SyntaxKind}
use Rattle.document_grammar.specs.declared.kind.SyntaxKind.TheVariants.{DIRECTIVE, ENUM_TYPE_DEFINITION, FIELD}
use Rattle.document_grammar.specs.declared.kind.SyntaxKind.TheVariants.{FRAGMENT_DEFINITION}
use Rattle.document_grammar.specs.declared.kind.SyntaxKind.TheVariants.{INLINE_FRAGMENT, INPUT_OBJECT_TYPE_DEFINITION}
use Rattle.document_grammar.specs.declared.kind.SyntaxKind.TheVariants.{LIST_VALUE, OBJECT_VALUE}
use Rattle.document_grammar.specs.declared.kind.SyntaxKind.TheVariants.{OPERATION_DEFINITION}
use Rattle.document_grammar.specs.declared.kind.SyntaxKind.TheVariants.{TYPE_CONDITION, VARIABLE_DEFINITION}
use Rattle.apollo_tree.specs.Above.{at_or_above}
use Rattle.apollo_tree.specs.Children.{child_nodes}
use Rattle.apollo_tree.specs.Order.{Place, parent_place}
use Rattle.apollo_tree.specs.References.{node_place}
use Rattle.apollo_cst_core.specs.Kinds.{is_of, is_of_one}
use Rattle.validation_names.specs.Mentions.{name_of}
use Rattle.validation_names.specs.Names.{Name}
use Rattle.validation_names.specs.Sites.{Located, as_located}
use Rattle.type_system.specs.Definitions.{item_type, named_in, named_type, operation_type, type_reference}
use Rattle.type_system.specs.Schemas.{as_with_arguments}
use Rattle.type_system.specs.Types.{Typed, Types, WithArguments, has_number}
use Rattle.type_system.specs.declared.kinds.OperationType.TheVariants.{Query}
use Rattle.type_system.specs.declared.kinds.TheConstants.{COMPOSITE_TYPES, INPUT_TYPES, LEAF_TYPES}
use Rattle.type_system.specs.declared.schema.DefinitionWithArguments.{DefinitionWithArguments}
use Rattle.query_validation.specs.declared.contexts.Context as declared
use Rattle.query_validation.specs.declared.contexts.TheConstants.{WITH_VALUES}
use Rattle.query_validation.specs.declared.contexts.Wanted as declared_wanted

-- The type that a value is to have: the reference to it, the number of the named type in it, and the definition of the
-- argument or the input field. A variable's default value has none in the schema.
pub record Wanted : Type 0 where
  pub reference : Place
  pub type : Option ℕ
  pub definition : Option Located

pub record Context : Type 0 where
  -- the number of the composite type from which fields are selected, if it is known
  pub parent : Option ℕ
  -- what arguments are given to, if it is known: a field, a directive, or an input object with its fields
  pub definition : Option WithArguments
  -- the type that a value is to have, if it is known
  pub wanted : Option Wanted

abbrev pub nothing : Context
nothing = record { parent = None; definition = None; wanted = None }

-- the first definition of a type, if it is known
abbrev pub type_definition : Types → Option ℕ → Option Located
type_definition T number = option_and_then T.definition_at number

abbrev pub is_defined_as : List SyntaxKind → Option Located → Bool
is_defined_as kinds None = false
is_defined_as kinds (Some d) = is_of_one kinds d.place

-- an object, an interface or a union; a scalar or an enum
abbrev pub is_composite : Types → Option ℕ → Bool
is_composite T number = is_defined_as COMPOSITE_TYPES (type_definition T number)

abbrev pub is_leaf : Types → Option ℕ → Bool
is_leaf T number = is_defined_as LEAF_TYPES (type_definition T number)

-- 3.4.2: a scalar, an enum or an input object
abbrev pub is_input : Types → Option ℕ → Bool
is_input T number = is_defined_as INPUT_TYPES (type_definition T number)

abbrev pub is_enum : Types → Option ℕ → Bool
is_enum T number = is_defined_as (ENUM_TYPE_DEFINITION ∷ []) (type_definition T number)

abbrev pub is_input_object : Types → Option ℕ → Bool
is_input_object T number = is_defined_as (INPUT_OBJECT_TYPE_DEFINITION ∷ []) (type_definition T number)

-- the name of a type
abbrev pub type_name : Types → Option ℕ → Option Name
type_name T number = option_and_then (λ (d : Located). name_of d.place) (type_definition T number)

abbrev pub composite : Types → Option ℕ → Option ℕ
composite T number = if is_composite T number then number else None

abbrev pub type_named_in : Types → Option Name → Option ℕ
type_named_in T name = option_and_then T.type_named name

-- 2.8.1: the type in the condition of a fragment
abbrev pub condition : Place → Option Name
condition p = option_and_then named_type (find (is_of_one (TYPE_CONDITION ∷ [])) (child_nodes p))

-- 5.3.1: A field that may be selected from a type: its own, `__typename` (4.1), and in the root of queries `__schema`
-- and `__type` (4.2).
abbrev pub root_field : Types → ℕ → Name → Option WithArguments
root_field T owner name = if has_number owner (T.root Query) then T.query_field name else None

abbrev pub field_of : Types → ℕ → Name → Option WithArguments
field_of T owner name = option_or (T.field_named owner name) (option_or (T.each_field name) (root_field T owner name))

-- the definition of a field that is selected in a context
abbrev pub field_at : Types → Context → Place → Option WithArguments
field_at T around p = option_and_then (λ owner. option_and_then (field_of T owner) (name_of p)) around.parent

abbrev pub directive_at : Types → Place → Option WithArguments
directive_at T p = option_and_then T.directive_named (name_of p)

-- the type of a definition
abbrev pub type_of : Option WithArguments → Option ℕ
type_of d = option_and_then (λ (w : WithArguments). w.definition.type) d

-- in an inline fragment: the type of its condition, or without one the type around it
abbrev pub inline : Types → Context → Option Name → Option ℕ
inline T around None = around.parent
inline T around (Some name) = composite T (T.type_named name)

abbrev pub selects_from : Option ℕ → Context
selects_from number = record { parent = number; definition = None; wanted = None }

-- ---- values

-- an argument of a definition, or a field of an input object
abbrev pub argument_of : Option WithArguments → Option Name → Option Typed
argument_of None name = None
argument_of (Some d) name = option_and_then d.argument_named name

-- a type, if it is an input type
abbrev pub input_only : Types → Wanted → Option Wanted
input_only T w = if is_input T w.type then Some w else None

-- the type of an argument or an input field that is given
abbrev pub wanted_by : Typed → Option Wanted
wanted_by d = option_map
    (λ reference. record { reference = reference; type = d.type; definition = Some d.site })
    (type_reference d.site.place)

abbrev pub wanted_in : Types → Context → Place → Option Wanted
wanted_in T around p = option_and_then (input_only T)
    (option_and_then wanted_by (argument_of around.definition (name_of p)))

-- 2.10 and 5.6.1: the default value of a variable has the variable's type
abbrev pub type_of_variable : Types → Place → Option Wanted
type_of_variable T p = option_map
    (λ reference. record { reference = reference; type = type_named_in T (named_in reference); definition = None })
    (type_reference p)

abbrev pub wanted_of_variable : Types → Place → Option Wanted
wanted_of_variable T p = option_and_then (input_only T) (type_of_variable T p)

-- 3.11: what is in a list has the type of its items
abbrev pub wanted_item : Wanted → Option Wanted
wanted_item w = option_map
    (λ item. record { reference = item; type = w.type; definition = w.definition })
    (item_type w.reference)

-- 3.10: what an input object is given
abbrev pub input_of : Types → Wanted → Option WithArguments
input_of T w = if is_input_object T w.type then option_and_then T.input_at w.type else None

-- the context in a value, an argument, or the definition of a variable, by the context around it
abbrev pub gives : Context → Option WithArguments → Option Wanted → Context
gives around definition wanted = record { parent = around.parent; definition = definition; wanted = wanted }

abbrev pub step_in_value : Types → Context → Place → Context
step_in_value T around p =
    if is_of OBJECT_VALUE p
    then gives around (option_and_then (input_of T) around.wanted) None
    else (if is_of LIST_VALUE p
    then gives around None (option_and_then wanted_item around.wanted)
    else (if is_of VARIABLE_DEFINITION p
    then gives around None (wanted_of_variable T p)
    else gives around around.definition (wanted_in T around p)))

-- ---- fields and directives
abbrev pub in_field : Types → Option WithArguments → Context
in_field T definition = record { parent = composite T (type_of definition); definition = definition; wanted = None }

abbrev pub step_in_selection : Types → Context → Place → Context
step_in_selection T around p =
    if is_of FIELD p
    then in_field T (field_at T around p)
    else (if is_of DIRECTIVE p
    then record { parent = around.parent; definition = directive_at T p; wanted = None }
    else (if is_of INLINE_FRAGMENT p
    then selects_from (inline T around (condition p))
    else (if is_of FRAGMENT_DEFINITION p
    then selects_from (composite T (type_named_in T (condition p)))
    else (if is_of OPERATION_DEFINITION p
    then selects_from (composite T (T.root (operation_type p)))
    else around))))

-- The context inside a node, by the context around it.
abbrev pub step : Types → Context → Place → Context
step T around p = if is_of_one WITH_VALUES p then step_in_value T around p else step_in_selection T around p

-- the same of the first of some places, each of which is a child of the next
abbrev pub inside : Types → List Place → Context
inside T [] = nothing
inside T (p ∷ above) = step T (inside T above) p

abbrev pub inside_parent : Types → Option Place → Context
inside_parent T None = nothing
inside_parent T (Some parent) = inside T (at_or_above parent)

-- What holds around a place.
abbrev pub around : Types → Place → Context
around T p = inside_parent T (parent_place p)

abbrev pub as_definition : Option (Bor DefinitionWithArguments) → Option WithArguments
as_definition d = option_map (λ (x : Bor DefinitionWithArguments). as_with_arguments x.now) d

abbrev pub as_wanted : declared_wanted.Wanted → Wanted
as_wanted w = record {
  reference = node_place w.reference;
  type = w.type_number;
  definition = option_map as_located w.definition;
}

abbrev pub as_context : declared.Context → Context
as_context c = record {
  parent = c.parent;
  definition = as_definition c.definition;
  wanted = option_map as_wanted c.wanted;
}
