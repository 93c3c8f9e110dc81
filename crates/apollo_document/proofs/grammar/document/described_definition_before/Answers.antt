use Rattle.std.proofs.Common.{is_some, ◌∙◌, ap}
use Rattle.lexical_grammar.specs.declared.TokenKind.TheVariants as token
use Rattle.document_grammar.specs.declared.kind.SyntaxKind.TheVariants as kind
use Rattle.parser_rules.specs.RuleLanguage.{holds}
use Rattle.parser_rules.specs.Runs.{yes, no}
use Rattle.parser_rules.specs.State.{is_at, is_word}
use Rattle.apollo_grammar.proofs.Looks.{some-shown}
use Rattle.apollo_grammar.proofs.Parsing.{parsed_by}
use Rattle.apollo_document.proofs.Keywords.{described_without_keyword}
use Rattle.apollo_document.proofs.grammar.document.described_definition_before.Goals as goal

pub returns-then-is_kind : goal.returns-then-is_kind
unfolding holds
returns-then-is_kind g c =
    let brace = c.if-is_kind.ensures ∙ ap (is_at token.LCurly) c.requires in
    parsed_by (λ r. described_without_keyword c.in_default.ensures c.requires (yes brace r)) c.err_and_pop.ensures

pub returns-then-is_word : goal.returns-then-is_word
unfolding holds
returns-then-is_word g c =
    let brace = c.if-is_kind.ensures ∙ ap (is_at token.LCurly) c.requires in
    let extend = c.if-is_word.ensures ∙ ap (is_word kind.extend_KW) c.requires in
    parsed_by (λ r. described_without_keyword c.in_default.ensures c.requires (no brace (yes extend r)))
    c.err_and_pop-then-is_word.ensures

pub returns-then-is_some : goal.returns-then-is_some
unfolding holds
returns-then-is_some g c =
    let brace = c.if-is_kind.ensures ∙ ap (is_at token.LCurly) c.requires in
    let extend = c.if-is_word.ensures ∙ ap (is_word kind.extend_KW) c.requires in
    let more = c.if-is_some.ensures ∙ some-shown c.args.next ∙ ap is_some c.requires in
    parsed_by (λ r. described_without_keyword c.in_default.ensures c.requires (no brace (no extend (yes more r))))
    c.err_and_pop-then-is_some.ensures

pub returns : goal.returns
unfolding holds
returns g c =
    let brace = c.if-is_kind.ensures ∙ ap (is_at token.LCurly) c.requires in
    let extend = c.if-is_word.ensures ∙ ap (is_word kind.extend_KW) c.requires in
    let more = c.if-is_some.ensures ∙ some-shown c.args.next ∙ ap is_some c.requires in
    parsed_by (λ r. described_without_keyword c.in_default.ensures c.requires (no brace (no extend (no more r))))
    c.err_and_pop-2.ensures
