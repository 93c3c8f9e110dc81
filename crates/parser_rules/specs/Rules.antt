-- The grammar of the parser: a rule for each node, and for each part that works within the open node. Above each is the
-- production of the standard (GraphQL October 2021) with its section. A rule also says what is reported, and what
-- becomes an ERROR leaf. The nodes and parts are made from the left sides (specs/Nodes.antt); a node's parameter says
-- whether its place is constant.
use Rattle.std.specs.Prelude.{Bool, true, false, List, [], ◌∷◌}
use Rattle.lexical_grammar.specs.declared.TokenKind.{TokenKind}
use Rattle.lexical_grammar.specs.declared.TokenKind.TheVariants as token
use Rattle.document_grammar.specs.declared.kind.SyntaxKind.{SyntaxKind}
use Rattle.document_grammar.specs.declared.kind.SyntaxKind.TheVariants as kind
use Rattle.parser_rules.specs.Nodes.{Node, OperationDefinition, QueryShorthand, OperationType, SelectionSet, Field}
use Rattle.parser_rules.specs.Nodes.{Alias, Name, FragmentSpread, InlineFragment, FragmentDefinition, FragmentName}
use Rattle.parser_rules.specs.Nodes.{NameForFragment, TypeCondition, Arguments, Argument, Directives, Directive}
use Rattle.parser_rules.specs.Nodes.{VariableDefinitions, VariableDefinition, Variable, DefaultValue, IntValue}
use Rattle.parser_rules.specs.Nodes.{FloatValue, StringValue, BooleanValue, NullValue, EnumValue, NameForEnum}
use Rattle.parser_rules.specs.Nodes.{ListValue, ObjectValue, ObjectField, NamedType, ListType, Description}
use Rattle.parser_rules.specs.Nodes.{SchemaDefinition, RootOperationTypeDefinition, ScalarTypeDefinition}
use Rattle.parser_rules.specs.Nodes.{ObjectTypeDefinition, ImplementsInterfaces, FieldsDefinition, FieldDefinition}
use Rattle.parser_rules.specs.Nodes.{ArgumentsDefinition, InputValueDefinition, InterfaceTypeDefinition}
use Rattle.parser_rules.specs.Nodes.{UnionTypeDefinition, UnionMemberTypes, EnumTypeDefinition, EnumValuesDefinition}
use Rattle.parser_rules.specs.Nodes.{EnumValueDefinition, InputObjectTypeDefinition, InputFieldsDefinition}
use Rattle.parser_rules.specs.Nodes.{DirectiveDefinition, DirectiveLocations, DirectiveLocation, SchemaExtension}
use Rattle.parser_rules.specs.Nodes.{ScalarTypeExtension, ObjectTypeExtension, InterfaceTypeExtension}
use Rattle.parser_rules.specs.Nodes.{UnionTypeExtension, EnumTypeExtension, InputObjectTypeExtension, Part, Document}
use Rattle.parser_rules.specs.Nodes.{Definition, DescribedDefinition, Extensions, OptionalName, Selections, Selection}
use Rattle.parser_rules.specs.Nodes.{Spread, AliasedName, RequiredName, OptionalArguments, OptionalDirectives}
use Rattle.parser_rules.specs.Nodes.{OptionalVariableDefinitions, TypedVariable, OptionalDescription}
use Rattle.parser_rules.specs.Nodes.{OptionalArgumentsDefinition, TypeName, RootType, FieldType, OptionalImplements}
use Rattle.parser_rules.specs.Nodes.{InterfaceName, UnionMember, DirectiveName, OnLocations, Location, VariableType}
use Rattle.parser_rules.specs.Nodes.{OptionalDefaultValue, OptionalTypeCondition, Value, WordValue, NestedValue}
use Rattle.parser_rules.specs.Nodes.{ListItems, Ty, ItemType}
use Rattle.parser_rules.specs.RuleLanguage.{TokenTest, Kind, Keyword, Or, Test, Here, At, Word, Next, Ready, HasNext}
use Rattle.parser_rules.specs.RuleLanguage.{Deep, Not, Both, Bump, Note, TooDeep, Rule, Skip, Do, Seq, When, While}
use Rattle.parser_rules.specs.RuleLanguage.{Child, Nested, Call, Typed, ◌>◌, expect, want, refuse, expect_word, maybe}
use Rattle.parser_rules.specs.declared.constness.Constness.{Constness}
use Rattle.parser_rules.specs.declared.constness.Constness.TheVariants.{Const, NotConst}
use Rattle.parser_rules.specs.declared.message.Message.{Message}
use Rattle.parser_rules.specs.declared.message.Message.TheVariants as message

-- a selection starts with the token
abbrev pub selection_start : TokenTest
selection_start = Or (Kind token.Name) (Kind token.Spread)

-- a type starts with it
abbrev pub type_start : TokenTest
type_start = Or (Kind token.Name) (Kind token.LBracket)

-- an operation with its type starts with it
abbrev pub operation_type : TokenTest
operation_type = Or (Keyword kind.query_KW) (Or (Keyword kind.mutation_KW) (Keyword kind.subscription_KW))

-- after `...` it makes an inline fragment
abbrev pub inline_fragment : TokenTest
inline_fragment = Or (Keyword kind.on_KW) (Or (Kind token.At) (Kind token.LCurly))

-- it is a boolean value
abbrev pub boolean : TokenTest
boolean = Or (Keyword kind.true_KW) (Keyword kind.false_KW)

-- a variable definition starts with it
abbrev pub variable_start : TokenTest
variable_start = Or (Kind token.StringValue) (Kind token.Dollar)

-- what has a description and a name starts with it
abbrev pub named_start : TokenTest
named_start = Or (Kind token.StringValue) (Kind token.Name)

-- directive locations start with it
abbrev pub locations_start : TokenTest
locations_start = Or (Kind token.Name) (Kind token.Pipe)

-- a word that no enum value has as its name
abbrev pub reserved : TokenTest
reserved = Or boolean (Keyword kind.null_KW)

-- ExecutableDirectiveLocation (3.13)
abbrev pub executable_locations : List SyntaxKind
executable_locations =
    kind.QUERY_KW
    ∷ kind.MUTATION_KW
    ∷ kind.SUBSCRIPTION_KW
    ∷ kind.FIELD_KW
    ∷ kind.FRAGMENT_DEFINITION_KW
    ∷ kind.FRAGMENT_SPREAD_KW
    ∷ kind.INLINE_FRAGMENT_KW
    ∷ kind.VARIABLE_DEFINITION_KW
    ∷ []

-- TypeSystemDirectiveLocation (3.13)
abbrev pub type_system_locations : List SyntaxKind
type_system_locations =
    kind.SCHEMA_KW
    ∷ kind.SCALAR_KW
    ∷ kind.OBJECT_KW
    ∷ kind.FIELD_DEFINITION_KW
    ∷ kind.ARGUMENT_DEFINITION_KW
    ∷ kind.INTERFACE_KW
    ∷ kind.UNION_KW
    ∷ kind.ENUM_KW
    ∷ kind.ENUM_VALUE_KW
    ∷ kind.INPUT_OBJECT_KW
    ∷ kind.INPUT_FIELD_DEFINITION_KW
    ∷ []

-- one of the keywords
abbrev pub any_word : SyntaxKind → List SyntaxKind → TokenTest
any_word this_kind [] = Keyword this_kind
any_word this_kind (other_kind ∷ ks) = Or (Keyword this_kind) (any_word other_kind ks)

abbrev pub one_of : List SyntaxKind → TokenTest
one_of [] = Keyword kind.ERROR
one_of (this_kind ∷ ks) = any_word this_kind ks

-- a directive location
abbrev pub location : TokenTest
location = Or (one_of executable_locations) (one_of type_system_locations)

-- another item of a list value may start here
abbrev pub has_item : Test
has_item = Both (Both Ready (Not (At token.RBracket))) (Not Deep)

-- a variable is read in a constant place too, but reported
abbrev pub variable_value : Constness → Rule
variable_value Const = Do (Note message.VariableInConst) > Child Variable
variable_value NotConst = Child Variable

abbrev pub no_value : Bool → Rule
no_value true = refuse message.ExpectedValue
no_value false = Do (Note message.ExpectedValue)

-- Description? OperationType, the beginning of an OperationDefinition (2.3)
abbrev pub operation_head : Rule
operation_head = Call OptionalDescription > Child OperationType

abbrev pub operation_word : Rule
operation_word =
    When (Word kind.query_KW) (Do (Bump kind.query_KW))
    (When (Word kind.mutation_KW) (Do (Bump kind.mutation_KW))
    (When (Word kind.subscription_KW) (Do (Bump kind.subscription_KW))
    (refuse message.ExpectedOperationType)))

-- a type without the `!` that may follow it
abbrev pub nullable_type : Rule
nullable_type = When (At token.LBracket) (Child ListType) (Child NamedType)

-- the first keyword of the list that is next; the other rule where none is
abbrev pub word_of : List SyntaxKind → Rule → Rule
word_of [] none = none
word_of (this_kind ∷ ks) none = When (Word this_kind) (Do (Bump this_kind)) (word_of ks none)

-- TypeSystemDirectiveLocation (3.13)
abbrev pub type_system_location : Rule
type_system_location = word_of type_system_locations (Do (Note message.ExpectedLocation))

-- ExecutableDirectiveLocation, or TypeSystemDirectiveLocation (3.13)
abbrev pub any_location : Rule
any_location = word_of executable_locations type_system_location

-- Directives[Const]? and the block or list that begins with the punctuator, of which an extension has one at least
abbrev pub extended : TokenKind → Node → Message → Rule
extended token_kind block this_message = When (At token.At) (Call (OptionalDirectives Const) > maybe token_kind block)
    (When (At token_kind) (Child block) (Do (Note this_message)))

-- the same, after ImplementsInterfaces?
abbrev pub implementing : Message → Rule
implementing this_message =
    When (Word kind.implements_KW)
    (Child ImplementsInterfaces > Call (OptionalDirectives Const) > maybe token.LCurly FieldsDefinition)
    (extended token.LCurly FieldsDefinition this_message)

-- { RootOperationTypeDefinition+ }, with the report where there is none
abbrev pub root_operations : Message → Rule
root_operations this_message =
    Do (Bump kind.L_CURLY)
    > want (At token.Name) this_message
    > While (At token.Name) (Child RootOperationTypeDefinition)
    > expect token.RCurly kind.R_CURLY message.ExpectedRCurly

-- a definition's description, where it has one, and the keyword after it
abbrev pub described_keyword : SyntaxKind → Rule
described_keyword this_kind =
    Call OptionalDescription > When (Word this_kind) (Do (Bump this_kind)) (refuse message.ExpectedDefinition)

-- ImplementsInterfaces? Directives[Const]? FieldsDefinition?
abbrev pub type_parts : Rule
type_parts = Call OptionalImplements > Call (OptionalDirectives Const) > maybe token.LCurly FieldsDefinition

-- a report where nothing with a description and a name starts
abbrev pub want_named : Message → Rule
want_named this_message = want (Here named_start) this_message

-- a report where no selection starts
abbrev pub want_selection : Rule
want_selection = want (Here selection_start) message.ExpectedSelection

-- a report where no variable definition starts
abbrev pub want_variable : Rule
want_variable = want (Here variable_start) message.ExpectedVariableDefinition

-- items between the braces or parentheses, one at least
abbrev pub definitions : SyntaxKind → Node → Message → TokenKind → SyntaxKind → Message → Rule
definitions first item none close leaf this_message =
    Do (Bump first)
    > want_named none
    > While (Here named_start) (Child item)
    > expect close leaf this_message

-- the separator, if it is there, and names between separators
abbrev pub separated : TokenKind → SyntaxKind → Part → Rule
separated token_kind leaf name =
    When (At token_kind) (Do (Bump leaf)) Skip > Call name > While (At token_kind) (Do (Bump leaf) > Call name)

-- TypeDefinition (3.4), by the keyword where the test looks; the other rule where there is none
abbrev pub type_definition_at : (TokenTest → Test) → Rule → Rule
type_definition_at at none =
    When (at (Keyword kind.scalar_KW)) (Child ScalarTypeDefinition)
    (When (at (Keyword kind.type_KW)) (Child ObjectTypeDefinition)
    (When (at (Keyword kind.interface_KW)) (Child InterfaceTypeDefinition)
    (When (at (Keyword kind.union_KW)) (Child UnionTypeDefinition)
    (When (at (Keyword kind.enum_KW)) (Child EnumTypeDefinition)
    (When (at (Keyword kind.input_KW)) (Child InputObjectTypeDefinition)
    none)))))

-- TypeSystemDefinition (3.2), the same
abbrev pub type_system_at : (TokenTest → Test) → Rule → Rule
type_system_at at none =
    When (at (Keyword kind.schema_KW)) (Child SchemaDefinition)
    (When (at (Keyword kind.directive_KW)) (Child DirectiveDefinition)
    (type_definition_at at none))

-- a token in the place of a definition
abbrev pub no_definition : Rule
no_definition =
    When (At token.Name) (refuse message.ExpectedDefinition)
    (When (At token.StringValue) (Call DescribedDefinition)
    (refuse message.ExpectedDefinitionStart))

-- a string before another token than those with which a definition begins, or before none
abbrev pub no_described : Rule
no_described = When HasNext (refuse message.ExpectedDefinition) (refuse message.ExpectedDefinitionAfterString)

-- TypeSystemDefinition (3.2), by the keyword that comes next
abbrev pub type_system_definition : Rule
type_system_definition = type_system_at Here no_definition

-- the same after a description, by the keyword after the string
abbrev pub described_type_system : Rule
described_type_system = type_system_at Next no_described

unfoldable pub inside : Node → Rule
-- OperationDefinition (2.3) : Description? OperationType Name? VariableDefinitions? Directives? SelectionSet
inside OperationDefinition =
    Seq operation_head
    (Call OptionalName
    > Call OptionalVariableDefinitions
    > Call (OptionalDirectives NotConst)
    > When (At token.LCurly) (Child SelectionSet) (refuse message.ExpectedSelectionSet))
-- OperationDefinition (2.3) : SelectionSet
inside QueryShorthand = Child SelectionSet
-- OperationType (2.3) : one of `query` `mutation` `subscription`
inside OperationType = operation_word
-- SelectionSet (2.4) : { Selection+ }
inside SelectionSet = Do (Bump kind.L_CURLY)
    > Nested (Call Selections) (expect token.RCurly kind.R_CURLY message.ExpectedRCurly)
-- Field (2.5) : Alias? Name Arguments? Directives? SelectionSet?
inside Field = Call AliasedName > Call (OptionalArguments NotConst) > Call (OptionalDirectives NotConst)
    > maybe token.LCurly SelectionSet
-- Alias (2.7) : Name :
inside Alias = Child Name > Do (Bump kind.COLON)
-- Name (2.1.9)
inside Name = Do (Bump kind.IDENT)
-- FragmentSpread (2.8) : ... FragmentName Directives?
inside FragmentSpread = Do (Bump kind.SPREAD) > Child FragmentName > Call (OptionalDirectives NotConst)
-- InlineFragment (2.8.2) : ... TypeCondition? Directives? SelectionSet
inside InlineFragment =
    Do (Bump kind.SPREAD)
    > Call OptionalTypeCondition
    > Call (OptionalDirectives NotConst)
    > When (At token.LCurly) (Child SelectionSet) (Do (Note message.ExpectedInlineSelectionSet))
-- FragmentDefinition (2.8) : Description? `fragment` FragmentName TypeCondition Directives? SelectionSet
inside FragmentDefinition =
    Seq (described_keyword kind.fragment_KW)
    (Child FragmentName
    > Child TypeCondition
    > Call (OptionalDirectives NotConst)
    > When (At token.LCurly) (Child SelectionSet) (Do (Note message.ExpectedSelectionSet)))
-- FragmentName (2.8) : Name but not `on`
inside FragmentName =
    When (Word kind.on_KW) (Do (Note message.FragmentNamedOn))
    (When (At token.Name) (Child NameForFragment) (Do (Note message.ExpectedFragmentName)))
inside NameForFragment = Do (Bump kind.IDENT)
-- TypeCondition (2.8.1) : `on` NamedType
inside TypeCondition = expect_word kind.on_KW message.ExpectedOn
    > When (At token.Name) (Child NamedType) (Do (Note message.ExpectedConditionName))
-- Arguments[Const] (2.6) : ( Argument[?Const]+ )
inside (Arguments c) =
    Do (Bump kind.L_PAREN)
    > want (At token.Name) message.ExpectedArgument
    > While (At token.Name) (Child (Argument c))
    > expect token.RParen kind.R_PAREN message.ExpectedRParen
-- Argument[Const] (2.6) : Name : Value[?Const]
inside (Argument c) = Child Name
    > When (At token.Colon) (Do (Bump kind.COLON) > Call (Value c false)) (Do (Note message.ExpectedColon))
-- Directives[Const] (2.12) : Directive[?Const]+
inside (Directives c) = While (At token.At) (Child (Directive c))
-- Directive[Const] (2.12) : @ Name Arguments[?Const]?
inside (Directive c) = Do (Bump kind.AT) > Call RequiredName > Call (OptionalArguments c)
-- VariableDefinitions (2.10) : ( VariableDefinition+ )
inside VariableDefinitions =
    Do (Bump kind.L_PAREN)
    > want_variable
    > While (Here variable_start) (Child VariableDefinition)
    > expect token.RParen kind.R_PAREN message.ExpectedRParen
-- VariableDefinition (2.10) : Description? Variable : Type DefaultValue? Directives[Const]?
inside VariableDefinition =
    When (At token.StringValue)
    (Child Description > When (At token.Dollar) (Call TypedVariable) (Do (Note message.ExpectedVariable)))
    (Call TypedVariable)
-- Variable (2.10) : $ Name
inside Variable = Do (Bump kind.DOLLAR) > Call RequiredName
-- DefaultValue (2.10) : = Value[Const]
inside DefaultValue = Do (Bump kind.EQ) > Call (Value Const false)
-- IntValue (2.9.1)
inside IntValue = Do (Bump kind.INT)
-- FloatValue (2.9.2)
inside FloatValue = Do (Bump kind.FLOAT)
-- StringValue (2.9.4)
inside StringValue = Do (Bump kind.STRING)
-- BooleanValue (2.9.3) : one of `true` `false`
inside BooleanValue = When (Word kind.true_KW) (Do (Bump kind.true_KW)) (Do (Bump kind.false_KW))
-- NullValue (2.9.5) : `null`
inside NullValue = Do (Bump kind.null_KW)
-- EnumValue (2.9.6) : Name but not `true`, `false` or `null`
inside EnumValue =
    When (Here reserved) (Do (Note message.InvalidEnumValue) > Call RequiredName)
    (When (At token.Name) (Child NameForEnum) (Do (Note message.ExpectedEnumValue)))
inside NameForEnum = Do (Bump kind.IDENT)
-- ListValue[Const] (2.9.7) : [ ], or [ Value[?Const]+ ]
inside (ListValue c) = Do (Bump kind.L_BRACK) > Call (ListItems c)
-- ObjectValue[Const] (2.9.8) : { }, or { ObjectField[?Const]+ }
inside (ObjectValue c) =
    Do (Bump kind.L_CURLY) > While (At token.Name) (Child (ObjectField c))
    > expect token.RCurly kind.R_CURLY message.ExpectedRCurly
-- ObjectField[Const] (2.9.8) : Name : Value[?Const]
inside (ObjectField c) =
    Child Name > When (At token.Colon) (Do (Bump kind.COLON) > Call (NestedValue c)) (Do (Note message.ExpectedColon))
-- NamedType (2.11) : Name
inside NamedType = Call RequiredName
-- ListType (2.11) : [ Type ]
inside ListType = Do (Bump kind.L_BRACK)
    > Nested (Call ItemType) (expect token.RBracket kind.R_BRACK message.ExpectedRBracket)
-- Description (3) : StringValue
inside Description = Child StringValue
-- SchemaDefinition (3.3) : Description? `schema` Directives[Const]? { RootOperationTypeDefinition+ }
inside SchemaDefinition =
    Seq (described_keyword kind.schema_KW)
    (Call (OptionalDirectives Const)
    > When (At token.LCurly) (root_operations message.ExpectedRootOperation) (Do (Note message.ExpectedLCurly)))
-- RootOperationTypeDefinition (3.3) : OperationType : NamedType
inside RootOperationTypeDefinition =
    Child OperationType
    > When (At token.Colon) (Do (Bump kind.COLON) > Call RootType) (Do (Note message.ExpectedRootType))
-- ScalarTypeDefinition (3.5) : Description? `scalar` Name Directives[Const]?
inside ScalarTypeDefinition =
    Seq (described_keyword kind.scalar_KW)
    (Call RequiredName
    > Call (OptionalDirectives Const))
-- ObjectTypeDefinition (3.6) : Description? `type` Name ImplementsInterfaces? Directives[Const]? FieldsDefinition?
-- The block may be left out only before another token than {.
inside ObjectTypeDefinition =
    Seq (described_keyword kind.type_KW)
    (Call TypeName
    > type_parts)
-- ImplementsInterfaces (3.6) : `implements` &? NamedType, or ImplementsInterfaces & NamedType
inside ImplementsInterfaces = Do (Bump kind.implements_KW) > separated token.Amp kind.AMP InterfaceName
-- FieldsDefinition (3.6) : { FieldDefinition+ }
inside FieldsDefinition =
    definitions kind.L_CURLY FieldDefinition message.ExpectedFieldDefinition token.RCurly kind.R_CURLY
    message.ExpectedRCurly
-- FieldDefinition (3.6) : Description? Name ArgumentsDefinition? : Type Directives[Const]?
inside FieldDefinition =
    Call OptionalDescription
    > Call RequiredName
    > Call OptionalArgumentsDefinition
    > When (At token.Colon) (Do (Bump kind.COLON) > Call FieldType) (Do (Note message.ExpectedFieldType))
-- ArgumentsDefinition (3.6.1) : ( InputValueDefinition+ )
inside ArgumentsDefinition =
    definitions kind.L_PAREN InputValueDefinition message.ExpectedArgumentDefinition token.RParen kind.R_PAREN
    message.ExpectedRParen
-- InputValueDefinition (3.6.1) : Description? Name : Type DefaultValue? Directives[Const]?
inside InputValueDefinition =
    Call OptionalDescription
    > Call RequiredName
    > When (At token.Colon) (Do (Bump kind.COLON) > Call VariableType) (Do (Note message.ExpectedName))
-- InterfaceTypeDefinition (3.7) : Description? `interface` Name ImplementsInterfaces? Directives[Const]? FieldsDefinition?
-- The block may be left out as above.
inside InterfaceTypeDefinition =
    Seq (described_keyword kind.interface_KW)
    (Call RequiredName
    > type_parts)
-- UnionTypeDefinition (3.8) : Description? `union` Name Directives[Const]? UnionMemberTypes?
inside UnionTypeDefinition =
    Seq (described_keyword kind.union_KW)
    (Call RequiredName
    > Call (OptionalDirectives Const)
    > maybe token.Eq UnionMemberTypes)
-- UnionMemberTypes (3.8) : = |? NamedType, or UnionMemberTypes | NamedType
inside UnionMemberTypes = Do (Bump kind.EQ) > separated token.Pipe kind.PIPE UnionMember
-- EnumTypeDefinition (3.9) : Description? `enum` Name Directives[Const]? EnumValuesDefinition?
-- The block may be left out as above.
inside EnumTypeDefinition =
    Seq (described_keyword kind.enum_KW)
    (Call RequiredName
    > Call (OptionalDirectives Const)
    > maybe token.LCurly EnumValuesDefinition)
-- EnumValuesDefinition (3.9) : { EnumValueDefinition+ }
inside EnumValuesDefinition =
    definitions kind.L_CURLY EnumValueDefinition message.ExpectedEnumValueDefinition token.RCurly kind.R_CURLY
    message.ExpectedRCurly
-- EnumValueDefinition (3.9) : Description? EnumValue Directives[Const]?
inside EnumValueDefinition = Call OptionalDescription > Child EnumValue > Call (OptionalDirectives Const)
-- InputObjectTypeDefinition (3.10) : Description? `input` Name Directives[Const]? InputFieldsDefinition?
-- The block may be left out as above.
inside InputObjectTypeDefinition =
    Seq (described_keyword kind.input_KW)
    (Call RequiredName
    > Call (OptionalDirectives Const)
    > maybe token.LCurly InputFieldsDefinition)
-- InputFieldsDefinition (3.10) : { InputValueDefinition+ }
inside InputFieldsDefinition =
    definitions kind.L_CURLY InputValueDefinition message.ExpectedInputValueDefinition token.RCurly kind.R_CURLY
    message.ExpectedRCurly
-- DirectiveDefinition (3.13) : Description? `directive` @ Name ArgumentsDefinition? `repeatable`? `on` DirectiveLocations
inside DirectiveDefinition =
    Seq (described_keyword kind.directive_KW)
    (Call DirectiveName
    > Call OptionalArgumentsDefinition
    > When (Word kind.repeatable_KW) (Do (Bump kind.repeatable_KW)) Skip
    > Call OnLocations)
-- DirectiveLocations (3.13) : |? DirectiveLocation, or DirectiveLocations | DirectiveLocation
inside DirectiveLocations = separated token.Pipe kind.PIPE Location
-- DirectiveLocation (3.13) : ExecutableDirectiveLocation, or TypeSystemDirectiveLocation
inside DirectiveLocation = any_location
-- SchemaExtension (3.3.2) : `extend` `schema` Directives[Const]? { RootOperationTypeDefinition+ }, or `extend` `schema` Directives[Const]
inside SchemaExtension =
    Do (Bump kind.extend_KW)
    > Do (Bump kind.schema_KW)
    > When (At token.At)
    (Call (OptionalDirectives Const) > When (At token.LCurly) (root_operations message.ExpectedSchemaExtension) Skip)
    (When (At token.LCurly) (root_operations message.ExpectedSchemaExtension)
    (Do (Note message.ExpectedSchemaExtension)))
-- ScalarTypeExtension (3.5.3) : `extend` `scalar` Name Directives[Const]
inside ScalarTypeExtension =
    Do (Bump kind.extend_KW)
    > Do (Bump kind.scalar_KW)
    > Call RequiredName
    > When (At token.At) (Call (OptionalDirectives Const)) (Do (Note message.ExpectedScalarExtension))
-- ObjectTypeExtension (3.6.3) : `extend` `type` Name, and one of ImplementsInterfaces, Directives[Const], FieldsDefinition at least, in this order
inside ObjectTypeExtension =
    Do (Bump kind.extend_KW)
    > Do (Bump kind.type_KW)
    > Call RequiredName
    > implementing message.ExpectedObjectExtension
-- InterfaceTypeExtension (3.7.1) : `extend` `interface` Name, and one of ImplementsInterfaces, Directives[Const], FieldsDefinition at least, in this order
inside InterfaceTypeExtension =
    Do (Bump kind.extend_KW)
    > Do (Bump kind.interface_KW)
    > Call RequiredName
    > implementing message.ExpectedInterfaceExtension
-- UnionTypeExtension (3.8.1) : `extend` `union` Name, and one of Directives[Const] and UnionMemberTypes at least, in this order
inside UnionTypeExtension =
    Do (Bump kind.extend_KW)
    > Do (Bump kind.union_KW)
    > Call RequiredName
    > extended token.Eq UnionMemberTypes message.ExpectedUnionExtension
-- EnumTypeExtension (3.9.1) : `extend` `enum` Name, and one of Directives[Const] and EnumValuesDefinition at least, in this order
inside EnumTypeExtension =
    Do (Bump kind.extend_KW)
    > Do (Bump kind.enum_KW)
    > Call RequiredName
    > extended token.LCurly EnumValuesDefinition message.ExpectedEnumExtension
-- InputObjectTypeExtension (3.10.1) : `extend` `input` Name, and one of Directives[Const] and InputFieldsDefinition at least, in this order
inside InputObjectTypeExtension =
    Do (Bump kind.extend_KW)
    > Do (Bump kind.input_KW)
    > Call RequiredName
    > extended token.LCurly InputFieldsDefinition message.ExpectedInputExtension

unfoldable pub body : Part → Rule
-- Document (2.2) : Definition+
body Document = want Ready message.UnexpectedEof > While Ready (Call Definition)
-- Definition (2.2) : OperationDefinition, FragmentDefinition, or a definition or extension of the type system (3)
body Definition =
    When (Here operation_type) (Child OperationDefinition)
    (When (Word kind.fragment_KW) (Child FragmentDefinition)
    (When (At token.LCurly) (Child QueryShorthand)
    (When (Word kind.extend_KW) (Call Extensions)
    type_system_definition)))
-- a definition with its description
body DescribedDefinition =
    When (Next operation_type) (Child OperationDefinition)
    (When (Next (Keyword kind.fragment_KW)) (Child FragmentDefinition)
    (When (Next (Kind token.LCurly)) (refuse message.ExpectedOperation)
    (When (Next (Keyword kind.extend_KW)) (refuse message.InvalidExtension)
    described_type_system)))
-- an extension (3.4.3 and others): the word after `extend` says which
body Extensions =
    When (Next (Keyword kind.schema_KW)) (Child SchemaExtension)
    (When (Next (Keyword kind.scalar_KW)) (Child ScalarTypeExtension)
    (When (Next (Keyword kind.type_KW)) (Child ObjectTypeExtension)
    (When (Next (Keyword kind.interface_KW)) (Child InterfaceTypeExtension)
    (When (Next (Keyword kind.union_KW)) (Child UnionTypeExtension)
    (When (Next (Keyword kind.enum_KW)) (Child EnumTypeExtension)
    (When (Next (Keyword kind.input_KW)) (Child InputObjectTypeExtension)
    (refuse message.InvalidExtension)))))))
body OptionalName = maybe token.Name Name
-- Selection+, the inside of a SelectionSet (2.4)
body Selections = want_selection > While (Here selection_start) (Call Selection)
-- Selection (2.4) : Field, FragmentSpread, or InlineFragment
body Selection = When (At token.Name) (Child Field) (Call Spread)
-- FragmentSpread (2.8), or InlineFragment (2.8.2): the token after `...` says which
body Spread =
    When (Next inline_fragment) (Child InlineFragment)
    (When (Next (Kind token.Name)) (Child FragmentSpread)
    (When HasNext (Do (Note message.ExpectedFragment) > Do (Bump kind.SPREAD))
    (refuse message.ExpectedFragment)))
-- Alias? Name, the beginning of a Field (2.5)
body AliasedName = When (Next (Kind token.Colon)) (Child Alias > Call RequiredName) (Child Name)
-- Name (2.1.9), or a report that it is missing
body RequiredName = When (At token.Name) (Child Name) (Do (Note message.ExpectedName))
body (OptionalArguments c) = maybe token.LParen (Arguments c)
body (OptionalDirectives c) = maybe token.At (Directives c)
body OptionalVariableDefinitions = maybe token.LParen VariableDefinitions
-- Variable : Type DefaultValue? Directives[Const]?, a VariableDefinition (2.10) after its description
body TypedVariable = Child Variable
    > When (At token.Colon) (Do (Bump kind.COLON) > Call VariableType) (Do (Note message.ExpectedName))
body OptionalDescription = maybe token.StringValue Description
body OptionalArgumentsDefinition = maybe token.LParen ArgumentsDefinition
-- the name of a type that is defined, which is reported in words of its own
body TypeName = When (At token.Name) (Child Name) (Do (Note message.ExpectedTypeName))
-- NamedType, the rest of a RootOperationTypeDefinition (3.3)
body RootType = When (At token.Name) (Child NamedType) (Do (Note message.ExpectedRootType))
-- Type Directives[Const]?, the rest of a FieldDefinition (3.6)
body FieldType = When (Here type_start) (Call Ty > Call (OptionalDirectives Const)) (Do (Note message.ExpectedType))
body OptionalImplements = When (Word kind.implements_KW) (Child ImplementsInterfaces) Skip
-- NamedType, in ImplementsInterfaces (3.6) and in UnionMemberTypes (3.8)
body InterfaceName = When (At token.Name) (Child NamedType) (Do (Note message.ExpectedInterface))
body UnionMember = When (At token.Name) (Child NamedType) (Do (Note message.ExpectedUnionMember))
-- @ Name, and `on` DirectiveLocations, parts of a DirectiveDefinition (3.13)
body DirectiveName = expect token.At kind.AT message.ExpectedAt > Call RequiredName
body OnLocations =
    expect_word kind.on_KW message.ExpectedLocations
    > When (Here locations_start) (Child DirectiveLocations) (Do (Note message.ExpectedValidLocation))
body Location =
    When (Here location) (Child DirectiveLocation)
    (When (At token.Name) (Do (Note message.ExpectedValidLocation)) (Do (Note message.ExpectedLocation)))
-- Type DefaultValue? Directives[Const]?, the rest of a VariableDefinition (2.10) and of an InputValueDefinition (3.6.1)
body VariableType = When (Here type_start) (Call Ty > Call OptionalDefaultValue > Call (OptionalDirectives Const))
    (Do (Note message.ExpectedType))
body OptionalDefaultValue = maybe token.Eq DefaultValue
body OptionalTypeCondition = maybe token.Name TypeCondition
-- Value[Const] (2.9) : [if not Const] Variable, IntValue, FloatValue, StringValue, BooleanValue, NullValue, EnumValue, ListValue[?Const], ObjectValue[?Const]
-- Where none starts, `pops` says that the token becomes an ERROR leaf.
body (Value c pops) =
    When (At token.Dollar) (variable_value c)
    (When (At token.Int) (Child IntValue)
    (When (At token.Float) (Child FloatValue)
    (When (At token.StringValue) (Child StringValue)
    (When (At token.Name) (Call WordValue)
    (When (At token.LBracket) (Child (ListValue c))
    (When (At token.LCurly) (Child (ObjectValue c))
    (no_value pops)))))))
-- BooleanValue (2.9.3), NullValue (2.9.5), or EnumValue (2.9.6): the values that are a word
body WordValue =
    When (Here boolean) (Child BooleanValue)
    (When (Word kind.null_KW) (Child NullValue)
    (Child EnumValue))
-- Value (2.9), one level deeper
body (NestedValue c) = Nested (Call (Value c true)) Skip
-- Value[?Const]+ ], the rest of a ListValue (2.9.7)
body (ListItems c) =
    While has_item (Call (NestedValue c))
    > When (At token.RBracket) (Do (Bump kind.R_BRACK))
    (When Ready TooDeep Skip)
-- Type (2.11) : NamedType, ListType, or NonNullType; NonNullType : NamedType !, or ListType !
body Ty = Typed nullable_type
-- Type (2.11), inside a ListType
body ItemType = When (Here type_start) (Call Ty) (refuse message.ExpectedItemType)
