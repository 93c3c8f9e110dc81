-- The messages about values (section 5.6), in the words of graphql-js 16. A value is written as the text has it.
use Rattle.std.specs.Prelude.{[], ◌++◌, ◌&&◌, ◌||◌, codes, bytes_eq, Option, Some, None, if◌then◌else◌}
use Rattle.document_grammar.specs.declared.kind.SyntaxKind.TheVariants.{ENUM_VALUE, INT_VALUE, LIST_VALUE, NULL_VALUE}
use Rattle.document_grammar.specs.declared.kind.SyntaxKind.TheVariants.{OBJECT_FIELD, OBJECT_VALUE}
use Rattle.apollo_tree.specs.Order.{Place, text_at}
use Rattle.apollo_cst_core.specs.Kinds.{is_of}
use Rattle.validation_names.specs.Names.{Name}
use Rattle.validation_names.specs.OwnNames.{name_at, or_nothing}
use Rattle.validation_names.specs.Sites.{Located}
use Rattle.type_system.specs.Definitions.{nullable}
use Rattle.type_system.specs.Types.{Types}
use Rattle.query_validation.specs.Contexts.{Wanted, around, is_enum, is_input_object, type_name}
use Rattle.query_validation.specs.Texts.{Text, defined_name, text_of_reference, type_of_definition, type_text}

-- the name of the type that is wanted
abbrev pub wanted_name : Types → Wanted → Name
wanted_name T w = or_nothing (type_name T w.type)

abbrev pub not_expected : Text → Text → Text
not_expected of value = codes "Expected value of type \"" ++ of ++ codes "\", found " ++ value ++ codes "."

-- 3.9: an enum
abbrev pub no_such_value : Text → Name → Text
no_such_value value of = codes "Value \"" ++ value ++ codes "\" does not exist in \"" ++ of ++ codes "\" enum."

abbrev pub no_enum_value : Name → Text → Text
no_enum_value of value = codes "Enum \"" ++ of ++ codes "\" cannot represent non-enum value: " ++ value ++ codes "."

abbrev pub not_of_enum : Name → Place → Text
not_of_enum of p = if is_of ENUM_VALUE p then no_such_value (text_at p) of else no_enum_value of (text_at p)

-- 3.5: what a scalar does not take
abbrev pub no_integer : Place → Text
no_integer p = if is_of INT_VALUE p then codes "non 32-bit signed integer value" else codes "non-integer value"

abbrev pub not_taken : Name → Place → Text
not_taken of p =
    if bytes_eq of (codes "Int")
    then no_integer p
    else (if bytes_eq of (codes "Float")
    then codes "non numeric value"
    else (if bytes_eq of (codes "String")
    then codes "a non string value"
    else (if bytes_eq of (codes "Boolean")
    then codes "a non boolean value"
    else codes "a non-string and non-integer value")))

abbrev pub not_of_scalar : Name → Place → Text
not_of_scalar of p = of ++ codes " cannot represent " ++ not_taken of p ++ codes ": " ++ text_at p

-- 5.6.1: at a list, graphql-js says the type without its `!`
abbrev pub expected_type : Wanted → Place → Text
expected_type w p =
    if is_of LIST_VALUE p then text_of_reference (nullable w.reference) else type_text w.reference

abbrev pub is_not_expected : Types → Wanted → Place → Text
is_not_expected T w p =
    if is_of NULL_VALUE p || is_input_object T w.type
    then not_expected (expected_type w p) (text_at p)
    else (if is_enum T w.type then not_of_enum (wanted_name T w) p else not_of_scalar (wanted_name T w) p)

-- 5.6.2: the name, and the input object's
abbrev pub no_such_field : Name → Name → Text
no_such_field name of = codes "Field \"" ++ name ++ codes "\" is not defined by type \"" ++ of ++ codes "\"."

-- 5.6.4: the input object, its field, and the field's type
abbrev pub missing_field : Name → Name → Text → Text
missing_field of name type =
    codes "Field \"" ++ of ++ codes "." ++ name ++ codes "\" of required type \"" ++ type
    ++ codes "\" was not provided."

abbrev pub wrong_literal : Types → Option Wanted → Place → Option Located → Text
wrong_literal T None p d = []
wrong_literal T (Some w) p d =
    if is_of OBJECT_VALUE p && is_input_object T w.type
    then missing_field (wanted_name T w) (defined_name d) (type_of_definition d)
    else is_not_expected T w p

abbrev pub wrong_value : Types → Place → Option Located → Text
wrong_value T p d =
    if is_of OBJECT_FIELD p
    then no_such_field (name_at p) (defined_name d)
    else wrong_literal T (around T p).wanted p d
