-- The children of each kind of node, in order (GraphQL October 2021, sections 2 and 3); ignored leaves are not among
-- them. This is the second profile, which is this project's own: descriptions may come before operations with a
-- keyword, fragment definitions and variable definitions. The kinds whose DIRECTIVES are constant, and the rules on
-- names, words and braces, are in `Derivation`.
use Rattle.std.specs.Prelude.{ℕ, List, [], ◌∷◌, cond, eqb}
use Rattle.document_grammar.specs.Choices.{Definitions, Selections, Values, Types, DirectiveLocations}
use Rattle.document_grammar.specs.Kinds.{BANG, DOLLAR, AMP, SPREAD, COLON, EQ, AT, L_PAREN, R_PAREN, L_BRACK, R_BRACK}
use Rattle.document_grammar.specs.Kinds.{L_CURLY, R_CURLY, PIPE, IDENT, INT, FLOAT, STRING, query_KW, mutation_KW}
use Rattle.document_grammar.specs.Kinds.{subscription_KW, fragment_KW, on_KW, true_KW, false_KW, null_KW, extend_KW}
use Rattle.document_grammar.specs.Kinds.{schema_KW, scalar_KW, type_KW, interface_KW, union_KW, enum_KW, input_KW}
use Rattle.document_grammar.specs.Kinds.{directive_KW, implements_KW, repeatable_KW, DOCUMENT, OPERATION_DEFINITION}
use Rattle.document_grammar.specs.Kinds.{OPERATION_TYPE, SELECTION_SET, FIELD, ALIAS, NAME, FRAGMENT_SPREAD}
use Rattle.document_grammar.specs.Kinds.{INLINE_FRAGMENT, FRAGMENT_DEFINITION, FRAGMENT_NAME, TYPE_CONDITION}
use Rattle.document_grammar.specs.Kinds.{ARGUMENTS, ARGUMENT, DIRECTIVES, DIRECTIVE, VARIABLE_DEFINITIONS}
use Rattle.document_grammar.specs.Kinds.{VARIABLE_DEFINITION, VARIABLE, DEFAULT_VALUE, INT_VALUE, FLOAT_VALUE}
use Rattle.document_grammar.specs.Kinds.{STRING_VALUE, BOOLEAN_VALUE, NULL_VALUE, ENUM_VALUE, LIST_VALUE, OBJECT_VALUE}
use Rattle.document_grammar.specs.Kinds.{OBJECT_FIELD, NAMED_TYPE, LIST_TYPE, NON_NULL_TYPE, DESCRIPTION}
use Rattle.document_grammar.specs.Kinds.{SCHEMA_DEFINITION, ROOT_OPERATION_TYPE_DEFINITION, SCALAR_TYPE_DEFINITION}
use Rattle.document_grammar.specs.Kinds.{OBJECT_TYPE_DEFINITION, IMPLEMENTS_INTERFACES, FIELDS_DEFINITION}
use Rattle.document_grammar.specs.Kinds.{FIELD_DEFINITION, ARGUMENTS_DEFINITION, INPUT_VALUE_DEFINITION}
use Rattle.document_grammar.specs.Kinds.{INTERFACE_TYPE_DEFINITION, UNION_TYPE_DEFINITION, UNION_MEMBER_TYPES}
use Rattle.document_grammar.specs.Kinds.{ENUM_TYPE_DEFINITION, ENUM_VALUES_DEFINITION, ENUM_VALUE_DEFINITION}
use Rattle.document_grammar.specs.Kinds.{INPUT_OBJECT_TYPE_DEFINITION, INPUT_FIELDS_DEFINITION, DIRECTIVE_DEFINITION}
use Rattle.document_grammar.specs.Kinds.{DIRECTIVE_LOCATIONS, DIRECTIVE_LOCATION, SCHEMA_EXTENSION}
use Rattle.document_grammar.specs.Kinds.{SCALAR_TYPE_EXTENSION, OBJECT_TYPE_EXTENSION, INTERFACE_TYPE_EXTENSION}
use Rattle.document_grammar.specs.Kinds.{UNION_TYPE_EXTENSION, ENUM_TYPE_EXTENSION, INPUT_OBJECT_TYPE_EXTENSION}
use Rattle.document_grammar.specs.Pattern.{Pattern, any_of, ◌then◌, ◌or_else◌, many, one, optional, some}

-- An operation with a keyword (section 2.3), in the second profile with a description.
abbrev pub keyword_operation : Pattern
keyword_operation =
    optional DESCRIPTION then one OPERATION_TYPE then optional NAME then optional VARIABLE_DEFINITIONS then optional
    DIRECTIVES then one SELECTION_SET

-- At least one of IMPLEMENTS_INTERFACES, DIRECTIVES and FIELDS_DEFINITION, in this order.
abbrev pub parts_of_fields : Pattern
parts_of_fields =
    (one IMPLEMENTS_INTERFACES then optional DIRECTIVES then optional FIELDS_DEFINITION)
    or_else (one DIRECTIVES then optional FIELDS_DEFINITION)
    or_else one FIELDS_DEFINITION

-- At least one of DIRECTIVES and the part, in this order.
abbrev pub parts_with : ℕ → Pattern
parts_with part = (one DIRECTIVES then optional part) or_else one part

-- Each kind of node with its children; the comments name the section of the standard.
abbrev pub children : List (ℕ × Pattern)
children =
    -- 2.2 Document
    (DOCUMENT, some (any_of Definitions))
    -- 2.3 Operations; with a description before a keyword (the second profile)
    ∷ (OPERATION_DEFINITION, one SELECTION_SET or_else keyword_operation)
    ∷ (OPERATION_TYPE, any_of (query_KW ∷ mutation_KW ∷ subscription_KW ∷ []))
    -- 2.4 Selection Sets
    ∷ (SELECTION_SET, one L_CURLY then some (any_of Selections) then one R_CURLY)
    -- 2.5 Fields
    ∷ (FIELD, optional ALIAS then one NAME then optional ARGUMENTS then optional DIRECTIVES then optional SELECTION_SET)
    -- 2.7 Field Alias
    ∷ (ALIAS, one NAME then one COLON)
    -- 2.1.9 Names
    ∷ (NAME, one IDENT)
    -- 2.8 Fragments; with a description before a definition (the second profile)
    ∷ (FRAGMENT_SPREAD, one SPREAD then one FRAGMENT_NAME then optional DIRECTIVES)
    ∷ (INLINE_FRAGMENT, one SPREAD then optional TYPE_CONDITION then optional DIRECTIVES then one SELECTION_SET)
    ∷ (
      FRAGMENT_DEFINITION,
      optional DESCRIPTION then one fragment_KW then one FRAGMENT_NAME then one TYPE_CONDITION
          then optional DIRECTIVES then one SELECTION_SET,
    )
    ∷ (FRAGMENT_NAME, one NAME)
    ∷ (TYPE_CONDITION, one on_KW then one NAMED_TYPE)
    -- 2.6 Arguments
    ∷ (ARGUMENTS, one L_PAREN then some (one ARGUMENT) then one R_PAREN)
    ∷ (ARGUMENT, one NAME then one COLON then any_of Values)
    -- 2.12 Directives
    ∷ (DIRECTIVES, some (one DIRECTIVE))
    ∷ (DIRECTIVE, one AT then one NAME then optional ARGUMENTS)
    -- 2.10 Variables; with a description before a definition (the second profile)
    ∷ (VARIABLE_DEFINITIONS, one L_PAREN then some (one VARIABLE_DEFINITION) then one R_PAREN)
    ∷ (
      VARIABLE_DEFINITION,
      optional DESCRIPTION then one VARIABLE then one COLON then any_of Types
          then optional DEFAULT_VALUE then optional DIRECTIVES,
    )
    ∷ (VARIABLE, one DOLLAR then one NAME)
    ∷ (DEFAULT_VALUE, one EQ then any_of Values)
    -- 2.9 Input Values
    ∷ (INT_VALUE, one INT)
    ∷ (FLOAT_VALUE, one FLOAT)
    ∷ (STRING_VALUE, one STRING)
    ∷ (BOOLEAN_VALUE, any_of (true_KW ∷ false_KW ∷ []))
    ∷ (NULL_VALUE, one null_KW)
    ∷ (ENUM_VALUE, one NAME)
    ∷ (LIST_VALUE, one L_BRACK then many (any_of Values) then one R_BRACK)
    ∷ (OBJECT_VALUE, one L_CURLY then many (one OBJECT_FIELD) then one R_CURLY)
    ∷ (OBJECT_FIELD, one NAME then one COLON then any_of Values)
    -- 2.11 Type References
    ∷ (NAMED_TYPE, one NAME)
    ∷ (LIST_TYPE, one L_BRACK then any_of Types then one R_BRACK)
    ∷ (NON_NULL_TYPE, any_of (NAMED_TYPE ∷ LIST_TYPE ∷ []) then one BANG)
    -- 3, "Descriptions"
    ∷ (DESCRIPTION, one STRING_VALUE)
    -- 3, "Schema"
    ∷ (
      SCHEMA_DEFINITION,
      optional DESCRIPTION then one schema_KW then optional DIRECTIVES then one L_CURLY
          then some (one ROOT_OPERATION_TYPE_DEFINITION) then one R_CURLY,
    )
    ∷ (ROOT_OPERATION_TYPE_DEFINITION, one OPERATION_TYPE then one COLON then one NAMED_TYPE)
    -- 3.5 Scalars
    ∷ (SCALAR_TYPE_DEFINITION, optional DESCRIPTION then one scalar_KW then one NAME then optional DIRECTIVES)
    -- 3.6 Objects
    ∷ (
      OBJECT_TYPE_DEFINITION,
      optional DESCRIPTION then one type_KW then one NAME
          then optional IMPLEMENTS_INTERFACES then optional DIRECTIVES then optional FIELDS_DEFINITION,
    )
    ∷ (
      IMPLEMENTS_INTERFACES,
      one implements_KW then optional AMP then one NAMED_TYPE then many (one AMP then one NAMED_TYPE),
    )
    ∷ (FIELDS_DEFINITION, one L_CURLY then some (one FIELD_DEFINITION) then one R_CURLY)
    ∷ (
      FIELD_DEFINITION,
      optional DESCRIPTION then one NAME then optional ARGUMENTS_DEFINITION then one COLON
          then any_of Types then optional DIRECTIVES,
    )
    ∷ (ARGUMENTS_DEFINITION, one L_PAREN then some (one INPUT_VALUE_DEFINITION) then one R_PAREN)
    ∷ (
      INPUT_VALUE_DEFINITION,
      optional DESCRIPTION then one NAME then one COLON then any_of Types
          then optional DEFAULT_VALUE then optional DIRECTIVES,
    )
    -- 3.7 Interfaces
    ∷ (
      INTERFACE_TYPE_DEFINITION,
      optional DESCRIPTION then one interface_KW then one NAME
          then optional IMPLEMENTS_INTERFACES then optional DIRECTIVES then optional FIELDS_DEFINITION,
    )
    -- 3.8 Unions
    ∷ (
      UNION_TYPE_DEFINITION,
      optional DESCRIPTION then one union_KW then one NAME then optional DIRECTIVES then optional UNION_MEMBER_TYPES,
    )
    ∷ (UNION_MEMBER_TYPES, one EQ then optional PIPE then one NAMED_TYPE then many (one PIPE then one NAMED_TYPE))
    -- 3.9 Enums
    ∷ (
      ENUM_TYPE_DEFINITION,
      optional DESCRIPTION then one enum_KW then one NAME then optional DIRECTIVES then optional ENUM_VALUES_DEFINITION,
    )
    ∷ (ENUM_VALUES_DEFINITION, one L_CURLY then some (one ENUM_VALUE_DEFINITION) then one R_CURLY)
    ∷ (ENUM_VALUE_DEFINITION, optional DESCRIPTION then one ENUM_VALUE then optional DIRECTIVES)
    -- 3.10 Input Objects
    ∷ (
      INPUT_OBJECT_TYPE_DEFINITION,
      optional DESCRIPTION then one input_KW then one NAME then optional DIRECTIVES
          then optional INPUT_FIELDS_DEFINITION,
    )
    ∷ (INPUT_FIELDS_DEFINITION, one L_CURLY then some (one INPUT_VALUE_DEFINITION) then one R_CURLY)
    -- 3.13 Directives
    ∷ (
      DIRECTIVE_DEFINITION,
      optional DESCRIPTION then one directive_KW then one AT then one NAME
          then optional ARGUMENTS_DEFINITION then optional repeatable_KW then one on_KW then one DIRECTIVE_LOCATIONS,
    )
    ∷ (DIRECTIVE_LOCATIONS, optional PIPE then one DIRECTIVE_LOCATION then many (one PIPE then one DIRECTIVE_LOCATION))
    ∷ (DIRECTIVE_LOCATION, any_of DirectiveLocations)
    -- the extensions, in the sections of the definitions that they extend; each has at least one of its parts
    ∷ (
      SCHEMA_EXTENSION,
      one extend_KW then one schema_KW
          then (one DIRECTIVES or_else (optional DIRECTIVES then one L_CURLY then some
          (one ROOT_OPERATION_TYPE_DEFINITION) then one R_CURLY)),
    )
    ∷ (SCALAR_TYPE_EXTENSION, one extend_KW then one scalar_KW then one NAME then one DIRECTIVES)
    ∷ (OBJECT_TYPE_EXTENSION, one extend_KW then one type_KW then one NAME then parts_of_fields)
    ∷ (INTERFACE_TYPE_EXTENSION, one extend_KW then one interface_KW then one NAME then parts_of_fields)
    ∷ (UNION_TYPE_EXTENSION, one extend_KW then one union_KW then one NAME then parts_with UNION_MEMBER_TYPES)
    ∷ (ENUM_TYPE_EXTENSION, one extend_KW then one enum_KW then one NAME then parts_with ENUM_VALUES_DEFINITION)
    ∷ (
      INPUT_OBJECT_TYPE_EXTENSION,
      one extend_KW then one input_KW then one NAME then parts_with INPUT_FIELDS_DEFINITION,
    )
    ∷ []

-- The pattern that a list pairs with a kind. Nothing fits a kind that has none.
abbrev pub row_in : List (ℕ × Pattern) → ℕ → Pattern
row_in [] k = any_of []
row_in (row ∷ more) k = cond (eqb row.0 k) row.1 (row_in more k)

unfoldable pub Row : ℕ → Pattern
Row k = row_in children k

-- What is between the braces of a selection set; the root of a parsed selection set may lack them.
abbrev pub bare_selections : Pattern
bare_selections = some (any_of Selections)

-- The three rows of the first profile, the standard's: without descriptions.
abbrev pub first_operation : Pattern
first_operation =
    one SELECTION_SET
    or_else (one OPERATION_TYPE then optional NAME then optional VARIABLE_DEFINITIONS then optional DIRECTIVES then
    one SELECTION_SET)

abbrev pub first_fragment : Pattern
first_fragment = one fragment_KW then one FRAGMENT_NAME then one TYPE_CONDITION then optional DIRECTIVES then
    one SELECTION_SET

abbrev pub first_variable : Pattern
first_variable = one VARIABLE then one COLON then any_of Types then optional DEFAULT_VALUE then optional DIRECTIVES

-- The first profile's rows: the same but for these three kinds.
unfoldable pub FirstRow : ℕ → Pattern
FirstRow k =
    cond (eqb k OPERATION_DEFINITION) first_operation
    (cond (eqb k FRAGMENT_DEFINITION) first_fragment
    (cond (eqb k VARIABLE_DEFINITION) first_variable
    (Row k)))
