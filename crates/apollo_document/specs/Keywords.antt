-- The keywords of definitions: which word each is, and what it begins.
use Rattle.std.specs.Prelude.{◌≡◌, true, false, Option, Some, None}
use Rattle.document_grammar.specs.declared.kind.SyntaxKind.{SyntaxKind}
use Rattle.document_grammar.specs.declared.kind.SyntaxKind.TheVariants as kind
use Rattle.parser_rules.specs.Nodes as rule
use Rattle.parser_rules.specs.Nodes.{Node}
use Rattle.parser_rules.specs.RuleLanguage.{Rule, Child, refuse}
use Rattle.parser_rules.specs.State.{Lexeme, is_word}
use Rattle.parser_rules.specs.declared.message.Message.TheVariants as message
use Rattle.apollo_document.specs.declared.grammar.keyword.DefinitionKeyword.{DefinitionKeyword}
use Rattle.apollo_document.specs.declared.grammar.keyword.DefinitionKeyword.TheVariants.{Query, Mutation, Subscription}
use Rattle.apollo_document.specs.declared.grammar.keyword.DefinitionKeyword.TheVariants.{Fragment, Schema, Directive}
use Rattle.apollo_document.specs.declared.grammar.keyword.DefinitionKeyword.TheVariants.{Scalar, Object, Interface}
use Rattle.apollo_document.specs.declared.grammar.keyword.DefinitionKeyword.TheVariants.{Union, Enum, InputObject}

-- the word
abbrev pub kind_of : DefinitionKeyword → SyntaxKind
kind_of Query = kind.query_KW
kind_of Mutation = kind.mutation_KW
kind_of Subscription = kind.subscription_KW
kind_of Fragment = kind.fragment_KW
kind_of Schema = kind.schema_KW
kind_of Directive = kind.directive_KW
kind_of Scalar = kind.scalar_KW
kind_of Object = kind.type_KW
kind_of Interface = kind.interface_KW
kind_of Union = kind.union_KW
kind_of Enum = kind.enum_KW
kind_of InputObject = kind.input_KW

-- the token is the keyword; or with None it is not one of them
abbrev pub IsKeyword : Option Lexeme → Option DefinitionKeyword → Type 0
IsKeyword o None = (k : DefinitionKeyword) → is_word (kind_of k) o ≡ false
IsKeyword o (Some k) = is_word (kind_of k) o ≡ true

-- the definition
abbrev pub definition_of : DefinitionKeyword → Node
definition_of Query = rule.OperationDefinition
definition_of Mutation = rule.OperationDefinition
definition_of Subscription = rule.OperationDefinition
definition_of Fragment = rule.FragmentDefinition
definition_of Schema = rule.SchemaDefinition
definition_of Directive = rule.DirectiveDefinition
definition_of Scalar = rule.ScalarTypeDefinition
definition_of Object = rule.ObjectTypeDefinition
definition_of Interface = rule.InterfaceTypeDefinition
definition_of Union = rule.UnionTypeDefinition
definition_of Enum = rule.EnumTypeDefinition
definition_of InputObject = rule.InputObjectTypeDefinition

-- the extension, where one has the keyword
abbrev pub extension_of : Option DefinitionKeyword → Rule
extension_of (Some Schema) = Child rule.SchemaExtension
extension_of (Some Scalar) = Child rule.ScalarTypeExtension
extension_of (Some Object) = Child rule.ObjectTypeExtension
extension_of (Some Interface) = Child rule.InterfaceTypeExtension
extension_of (Some Union) = Child rule.UnionTypeExtension
extension_of (Some Enum) = Child rule.EnumTypeExtension
extension_of (Some InputObject) = Child rule.InputObjectTypeExtension
extension_of _ = refuse message.InvalidExtension
