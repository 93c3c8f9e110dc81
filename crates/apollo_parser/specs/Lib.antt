-- What a parse promises, and all that the contracts and laws of this crate's calls cite.
pub mod Promise
pub mod Parsed
pub mod Parts
pub mod Roots
pub mod ByRules
-- tokens, and the items of a text
pub use Rattle.lexical_grammar.specs.Characters
pub use Rattle.lexical_grammar.specs.Numbers as LexicalNumbers
pub use Rattle.lexical_grammar.specs.Strings
pub use Rattle.lexical_grammar.specs.Values
pub use Rattle.lexical_grammar.specs.Tokens
pub use Rattle.lexical_grammar.specs.Cut
pub use Rattle.lexical_grammar.specs.TokensAt
pub use Rattle.lexical_grammar.specs.Begins
pub use Rattle.lexical_grammar.specs.Reads
pub use Rattle.lexical_grammar.specs.Answers
-- the grammar and its derivations
pub use Rattle.document_grammar.specs.Kinds
pub use Rattle.document_grammar.specs.Numbers
pub use Rattle.document_grammar.specs.Numbering
pub use Rattle.document_grammar.specs.Choices
pub use Rattle.document_grammar.specs.Pattern
pub use Rattle.document_grammar.specs.Rows
pub use Rattle.document_grammar.specs.Tree
pub use Rattle.document_grammar.specs.Derivation
pub use Rattle.document_grammar.specs.Sentence
pub use Rattle.document_grammar.specs.Beginnings
pub use Rattle.document_grammar.specs.FirstError
pub use Rattle.document_grammar.specs.Recovery
-- what is built
pub use Rattle.document_grammar.specs.Forests
pub use Rattle.document_grammar.specs.Numbered
pub use Rattle.document_grammar.specs.Placed
pub use Rattle.document_grammar.specs.Leaves
pub use Rattle.apollo_tree.specs.Order
pub use Rattle.apollo_tree.specs.Indexed
pub use Rattle.apollo_tree.specs.Compact
pub use Rattle.apollo_tree.specs.Filled
pub use Rattle.apollo_tree.specs.References
pub use Rattle.apollo_tree.specs.Children
pub use Rattle.apollo_tree.specs.Tiled
pub use Rattle.apollo_tree.specs.Below
pub use Rattle.apollo_tree.specs.Yields
pub use Rattle.apollo_tree.specs.Sound
-- errors and their messages, and the lexer
pub use Rattle.apollo_lexer.specs.Diagnostics
pub use Rattle.apollo_lexer.specs.Equal
pub use Rattle.apollo_lexer.specs.Printed
pub use Rattle.apollo_lexer.specs.LexErrors
pub use Rattle.apollo_lexer.specs.Faults
pub use Rattle.apollo_lexer.specs.Limits
pub use Rattle.apollo_lexer.specs.Answers as LexerAnswers
pub use Rattle.parser_rules.specs.Messages
pub use Rattle.parser_state.specs.Errors
-- typed nodes
pub use Rattle.apollo_cst_core.specs.Cast
pub use Rattle.apollo_cst_core.specs.Children as CastChildren
pub use Rattle.apollo_cst_core.specs.ReadingBack
pub use Rattle.apollo_cst_core.specs.Accessors
pub use Rattle.apollo_cst_core.specs.Coverage
pub use Rattle.apollo_cst_core.specs.StringValues
pub use Rattle.apollo_cst_executable.specs.Value
pub use Rattle.apollo_cst_executable.specs.Ty
pub use Rattle.apollo_cst_executable.specs.Literals
pub use Rattle.apollo_cst_executable.specs.Selection
pub use Rattle.apollo_cst_type_system.specs.Definition
pub use Rattle.apollo_cst_type_system.specs.DefinitionQueries
pub use Rattle.apollo_cst_type_system.specs.Locations
