-- Choices of kinds: which leaves are ignored and which are keywords, and what may be in one place (GraphQL October
-- 2021, sections 2 and 3).
use Rattle.std.specs.Prelude.{ℕ, Bool, cond, eqb, ltb, List, [], ◌∷◌, Option, None, Some}
use Rattle.document_grammar.specs.Kinds.{ERROR, STRING, QUERY_KW, MUTATION_KW, SUBSCRIPTION_KW, FIELD_KW}
use Rattle.document_grammar.specs.Kinds.{FRAGMENT_DEFINITION_KW, FRAGMENT_SPREAD_KW, INLINE_FRAGMENT_KW}
use Rattle.document_grammar.specs.Kinds.{VARIABLE_DEFINITION_KW, SCHEMA_KW, SCALAR_KW, OBJECT_KW, FIELD_DEFINITION_KW}
use Rattle.document_grammar.specs.Kinds.{ARGUMENT_DEFINITION_KW, INTERFACE_KW, UNION_KW, ENUM_KW, ENUM_VALUE_KW}
use Rattle.document_grammar.specs.Kinds.{INPUT_OBJECT_KW, INPUT_FIELD_DEFINITION_KW, OPERATION_DEFINITION, FIELD}
use Rattle.document_grammar.specs.Kinds.{FRAGMENT_SPREAD, INLINE_FRAGMENT, FRAGMENT_DEFINITION, VARIABLE, INT_VALUE}
use Rattle.document_grammar.specs.Kinds.{FLOAT_VALUE, STRING_VALUE, BOOLEAN_VALUE, NULL_VALUE, ENUM_VALUE, LIST_VALUE}
use Rattle.document_grammar.specs.Kinds.{OBJECT_VALUE, NAMED_TYPE, LIST_TYPE, NON_NULL_TYPE, SCHEMA_DEFINITION}
use Rattle.document_grammar.specs.Kinds.{SCALAR_TYPE_DEFINITION, OBJECT_TYPE_DEFINITION, INTERFACE_TYPE_DEFINITION}
use Rattle.document_grammar.specs.Kinds.{UNION_TYPE_DEFINITION, ENUM_TYPE_DEFINITION, INPUT_OBJECT_TYPE_DEFINITION}
use Rattle.document_grammar.specs.Kinds.{DIRECTIVE_DEFINITION, SCHEMA_EXTENSION, SCALAR_TYPE_EXTENSION}
use Rattle.document_grammar.specs.Kinds.{OBJECT_TYPE_EXTENSION, INTERFACE_TYPE_EXTENSION, UNION_TYPE_EXTENSION}
use Rattle.document_grammar.specs.Kinds.{ENUM_TYPE_EXTENSION, INPUT_OBJECT_TYPE_EXTENSION, words}
use Rattle.document_grammar.specs.Tree.{Text}

-- The leaves of ignored tokens: WHITESPACE, COMMENT and COMMA.
abbrev pub is_ignored : ℕ → Bool
is_ignored k = ltb k ERROR

-- Of the leaves those of keywords.
abbrev pub is_keyword : ℕ → Bool
is_keyword k = ltb STRING k

-- What a document is made of (section 2.2).
abbrev pub Definitions : List ℕ
Definitions =
    OPERATION_DEFINITION
    ∷ FRAGMENT_DEFINITION
    ∷ DIRECTIVE_DEFINITION
    ∷ SCHEMA_DEFINITION
    ∷ SCALAR_TYPE_DEFINITION
    ∷ OBJECT_TYPE_DEFINITION
    ∷ INTERFACE_TYPE_DEFINITION
    ∷ UNION_TYPE_DEFINITION
    ∷ ENUM_TYPE_DEFINITION
    ∷ INPUT_OBJECT_TYPE_DEFINITION
    ∷ SCHEMA_EXTENSION
    ∷ SCALAR_TYPE_EXTENSION
    ∷ OBJECT_TYPE_EXTENSION
    ∷ INTERFACE_TYPE_EXTENSION
    ∷ UNION_TYPE_EXTENSION
    ∷ ENUM_TYPE_EXTENSION
    ∷ INPUT_OBJECT_TYPE_EXTENSION
    ∷ []

-- The selections of a selection set (section 2.4).
abbrev pub Selections : List ℕ
Selections = FIELD ∷ FRAGMENT_SPREAD ∷ INLINE_FRAGMENT ∷ []

-- The values (section 2.9).
abbrev pub Values : List ℕ
Values = VARIABLE ∷ INT_VALUE ∷ FLOAT_VALUE ∷ STRING_VALUE ∷ BOOLEAN_VALUE ∷ NULL_VALUE ∷ ENUM_VALUE
    ∷ LIST_VALUE ∷ OBJECT_VALUE ∷ []

-- The types (section 2.11).
abbrev pub Types : List ℕ
Types = NAMED_TYPE ∷ LIST_TYPE ∷ NON_NULL_TYPE ∷ []

-- The words of the places where a directive may be (section 3.13).
abbrev pub DirectiveLocations : List ℕ
DirectiveLocations =
    QUERY_KW
    ∷ MUTATION_KW
    ∷ SUBSCRIPTION_KW
    ∷ FIELD_KW
    ∷ FRAGMENT_DEFINITION_KW
    ∷ FRAGMENT_SPREAD_KW
    ∷ INLINE_FRAGMENT_KW
    ∷ VARIABLE_DEFINITION_KW
    ∷ SCHEMA_KW
    ∷ SCALAR_KW
    ∷ OBJECT_KW
    ∷ FIELD_DEFINITION_KW
    ∷ ARGUMENT_DEFINITION_KW
    ∷ INTERFACE_KW
    ∷ UNION_KW
    ∷ ENUM_KW
    ∷ ENUM_VALUE_KW
    ∷ INPUT_OBJECT_KW
    ∷ INPUT_FIELD_DEFINITION_KW
    ∷ []

-- The word that a list has beside the kind, if any.
abbrev pub word_beside : List (ℕ × Text) → ℕ → Option Text
word_beside [] k = None
word_beside (w ∷ more) k = cond (eqb w.0 k) (Some w.1) (word_beside more k)

-- The word of a keyword.
unfoldable pub keyword_word : ℕ → Option Text
keyword_word k = word_beside words k
