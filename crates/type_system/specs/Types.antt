-- What documents define together (GraphQL October 2021, section 3): types and their fields, arguments, directives, and
-- the root types of operations. A type may get fields from its definition and from its extensions. Where a name is
-- defined twice, the first definition counts.
use Rattle.std.specs.List.{filter, find, flat_map, list_any}
use Rattle.std.specs.Option.{option_or}
use Rattle.std.specs.Prelude.{ℕ, List, map, Bool, false, ◌==◌, Option, Some, None, option_map, option_and_then}
use Rattle.std.specs.Prelude.{if◌then◌else◌, slice_get}
use Rattle.document_grammar.specs.declared.kind.SyntaxKind.{SyntaxKind}
use Rattle.document_grammar.specs.declared.kind.SyntaxKind.TheVariants.{ARGUMENTS_DEFINITION, ENUM_VALUES_DEFINITION}
use Rattle.document_grammar.specs.declared.kind.SyntaxKind.TheVariants.{FIELDS_DEFINITION, INPUT_FIELDS_DEFINITION}
use Rattle.document_grammar.specs.declared.kind.SyntaxKind.TheVariants.{SCHEMA_DEFINITION}
use Rattle.apollo_tree.specs.Order.{Place}
use Rattle.apollo_cst_core.specs.Kinds.{is_of, is_of_one}
use Rattle.validation_names.specs.Names.{Name, first_number, has_name}
use Rattle.validation_names.specs.Sites.{Located, all_definitions}
use Rattle.type_system.specs.Definitions.{children, is_named, is_required, is_root, items, named_as, named_type}
use Rattle.type_system.specs.Operations.{default_root_name}
use Rattle.type_system.specs.declared.kinds.OperationType.{OperationType}
use Rattle.type_system.specs.declared.kinds.TheConstants.{DIRECTIVES, SCHEMAS, TYPES, TYPE_PARTS}
use Rattle.type_system.specs.declared.standard.TheConstants.{EACH_TYPE, QUERY_ROOT}

-- 3.4: A type is known by the number of the first definition of its name, among all definitions.
abbrev pub TypeNumbers : Type 0
TypeNumbers = Name → Option ℕ

abbrev pub type_names : List Located → List (Option Name)
type_names ds = map (named_as TYPES) ds

abbrev pub type_in : List Located → TypeNumbers
type_in ds name = first_number (type_names ds) name

-- a definition with a type, for example an argument's, and the number of its named type, if the name is defined
pub record Typed : Type 0 where
  pub site : Located
  pub type : Option ℕ

abbrev pub typed : TypeNumbers → Located → Typed
typed numbers d = record { site = d; type = option_and_then numbers (named_type d.place) }

-- a definition with arguments: of a field, which has a type too, or of a directive. Those of an input object are its
-- fields.
pub record WithArguments : Type 0 where
  pub definition : Typed
  -- the first argument with a name
  pub argument_named : Name → Option Typed
  -- those that have to be given
  pub required : List Located

-- the first of some definitions with a name
abbrev pub first_named : List Located → Name → Option Located
first_named ds name = find (is_named name) ds

abbrev pub with_those : TypeNumbers → Located → List Located → WithArguments
with_those numbers d arguments = record {
  definition = typed numbers d;
  argument_named = λ name. option_map (typed numbers) (first_named arguments name);
  required = filter is_required arguments;
}

-- 3.6.1 and 3.13
abbrev pub with_arguments : TypeNumbers → Located → WithArguments
with_arguments numbers d = with_those numbers d (items ARGUMENTS_DEFINITION d)

-- ---- 3.6 and 3.7: fields of types, and 3.6.3 and 3.7.1: those that extensions add
-- the type that a definition or an extension is about
abbrev pub part_of : TypeNumbers → Located → Option ℕ
part_of numbers d = option_and_then numbers (named_as TYPE_PARTS d)

abbrev pub has_number : ℕ → Option ℕ → Bool
has_number number None = false
has_number number (Some other) = other == number

abbrev pub is_part_of : TypeNumbers → ℕ → Located → Bool
is_part_of numbers number d = has_number number (part_of numbers d)

-- what the definitions and the extensions of a type have in blocks of a kind
abbrev pub items_of : TypeNumbers → SyntaxKind → List Located → ℕ → List Located
items_of numbers block ds number = flat_map (items block) (filter (is_part_of numbers number) ds)

abbrev pub first_field : TypeNumbers → List Located → Name → Option WithArguments
first_field numbers fields name = option_map (with_arguments numbers) (first_named fields name)

abbrev pub field_in : TypeNumbers → List Located → ℕ → Name → Option WithArguments
field_in numbers ds number name =
    option_and_then (λ _. first_field numbers (items_of numbers FIELDS_DEFINITION ds number) name) (slice_get ds number)

-- 3.9 and 3.9.1: the values of an enum
abbrev pub value_in : TypeNumbers → List Located → ℕ → Name → Option Located
value_in numbers ds number name =
    option_and_then (λ _. first_named (items_of numbers ENUM_VALUES_DEFINITION ds number) name) (slice_get ds number)

-- 3.10 and 3.10.1: An input object is given its fields, as a field is given its arguments.
abbrev pub input_in : TypeNumbers → List Located → ℕ → Option WithArguments
input_in numbers ds number =
    option_map (λ d. with_those numbers d (items_of numbers INPUT_FIELDS_DEFINITION ds number)) (slice_get ds number)

-- ---- 4.1 and 4.2: fields that need no definition
-- The standard gives them no type to be in. Here they are in extensions of types that are not defined.
abbrev pub is_named_as : List SyntaxKind → Name → Located → Bool
is_named_as kinds name d = has_name name (named_as kinds d)

abbrev pub meta_fields : List Located → Name → List Located
meta_fields ds owner = flat_map (items FIELDS_DEFINITION) (filter (is_named_as TYPE_PARTS owner) ds)

-- ---- 3.13: directives
abbrev pub directives_in : List Located → List Located
directives_in ds = filter (λ (d : Located). is_of_one DIRECTIVES d.place) ds

-- ---- 3.3.1: root types: those that the definition of a schema and its extensions give; without a definition also
-- those with the default names
abbrev pub roots_in : List Located → List Located
roots_in ds = flat_map children (filter (λ (d : Located). is_of_one SCHEMAS d.place) ds)

abbrev pub has_schema : List Located → Bool
has_schema ds = list_any (λ (d : Located). is_of SCHEMA_DEFINITION d.place) ds

abbrev pub given_root : List Located → OperationType → Option Name
given_root roots operation = option_and_then (λ (r : Located). named_type r.place) (find (is_root operation) roots)

abbrev pub default_root : Bool → OperationType → Option Name
default_root has_schema operation = if has_schema then None else Some (default_root_name operation)

abbrev pub root_by : TypeNumbers → List Located → Bool → OperationType → Option ℕ
root_by numbers roots has_schema operation =
    option_and_then numbers (option_or (given_root roots operation) (default_root has_schema operation))

abbrev pub root_in : TypeNumbers → List Located → OperationType → Option ℕ
root_in numbers ds operation = root_by numbers (roots_in ds) (has_schema ds) operation

-- ---- what rules ask of a schema
pub record Types : Type 0 where
  -- the number of a type, and the first definition of a type with a number
  pub type_named : TypeNumbers
  pub definition_at : ℕ → Option Located
  -- a field of the type with a number
  pub field_named : ℕ → Name → Option WithArguments
  -- a value of the enum with a number, and what is given to the input object with a number
  pub value_named : ℕ → Name → Option Located
  pub input_at : ℕ → Option WithArguments
  -- 4.1: a field of each type from which fields are selected: `__typename`
  pub each_field : Name → Option WithArguments
  -- 4.2: a field of the root of queries: `__schema` or `__type`
  pub query_field : Name → Option WithArguments
  pub directive_named : Name → Option WithArguments
  -- the root type of operations
  pub root : OperationType → Option ℕ

-- what some definitions make, by the numbers of their types
abbrev pub types_by : TypeNumbers → List Located → Types
types_by numbers ds = record {
  type_named = numbers;
  definition_at = slice_get ds;
  field_named = field_in numbers ds;
  value_named = value_in numbers ds;
  input_at = input_in numbers ds;
  each_field = first_field numbers (meta_fields ds EACH_TYPE.now);
  query_field = first_field numbers (meta_fields ds QUERY_ROOT.now);
  directive_named = first_field numbers (directives_in ds);
  root = root_in numbers ds;
}

abbrev pub types_in : List Located → Types
types_in ds = types_by (type_in ds) ds

-- what some documents define, by their roots
abbrev pub types_of : List Place → Types
types_of documents = types_in (all_definitions documents)
