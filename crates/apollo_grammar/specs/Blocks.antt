-- The blocks that an extension of a type may add.
use Rattle.lexical_grammar.specs.declared.TokenKind.{TokenKind}
use Rattle.lexical_grammar.specs.declared.TokenKind.TheVariants as token
use Rattle.parser_rules.specs.Nodes as rule
use Rattle.parser_rules.specs.Nodes.{Node}
use Rattle.apollo_grammar.specs.declared.grammar.extended.Block.{Block}
use Rattle.apollo_grammar.specs.declared.grammar.extended.Block.TheVariants.{FieldsDefinition, UnionMemberTypes}
use Rattle.apollo_grammar.specs.declared.grammar.extended.Block.TheVariants.{EnumValuesDefinition}
use Rattle.apollo_grammar.specs.declared.grammar.extended.Block.TheVariants.{InputFieldsDefinition}

-- the token with which it begins
abbrev pub first_of : Block → TokenKind
first_of FieldsDefinition = token.LCurly
first_of UnionMemberTypes = token.Eq
first_of EnumValuesDefinition = token.LCurly
first_of InputFieldsDefinition = token.LCurly

-- its node
abbrev pub node_of : Block → Node
node_of FieldsDefinition = rule.FieldsDefinition
node_of UnionMemberTypes = rule.UnionMemberTypes
node_of EnumValuesDefinition = rule.EnumValuesDefinition
node_of InputFieldsDefinition = rule.InputFieldsDefinition
