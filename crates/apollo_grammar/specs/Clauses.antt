-- The words of the contracts of this crate, but for those of the standard library.
pub use Rattle.lexical_grammar.specs.declared.TokenKind.TheVariants as token
pub use Rattle.document_grammar.specs.Choices.{is_keyword}
pub use Rattle.document_grammar.specs.Numbers.{number}
pub use Rattle.parser_rules.specs.Nodes as rule
pub use Rattle.parser_rules.specs.Rules as rules
pub use Rattle.parser_rules.specs.Fragments as fragments
pub use Rattle.parser_rules.specs.RuleLanguage.{fits, holds, Here, At, Next, Kind, Child, Call}
pub use Rattle.parser_rules.specs.State.{second, flush}
pub use Rattle.parser_state.specs.View.{current_of}
pub use Rattle.parser_state.specs.Parses.{Parses}
