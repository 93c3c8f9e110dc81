use Rattle.std.proofs.Common.{sym, ap, ◌∙◌}
use Rattle.lexical_grammar.specs.declared.TokenKind.TheVariants as token
use Rattle.parser_rules.specs.State.{same_kind, is_word}
use Rattle.parser_state.proofs.Keywords.{name-is-word, no_word}
use Rattle.parser_state.proofs.state.tokens.is_word.Goals as goal
use Rattle.parser_state.specs.View.{lexeme_of, current_of}

pub returns-in_default : goal.returns-in_default
returns-in_default c = sym (no_word c.args.keyword (current_of c.args.token) c.requires c.in_default.ensures)

pub returns-then-is_same : goal.returns-then-is_same
returns-then-is_same c =
    c.eq.ensures ∙ name-is-word c.args.keyword (lexeme_of c.in-Some-token.token) _ c.in-Some.word.now
    c.requires c.in-Some.ensures
    (c.if-is_same.ensures ∙ ap (λ k. same_kind k token.Name) c.kind.ensures) c.«data».ensures
    ∙ sym (ap (λ o. is_word c.args.keyword (current_of o)) c.in-Some-token.is)
