use Rattle.std.proofs.Common.{sym, ap, ◌∙◌}
use Rattle.lexical_grammar.specs.Answers.{is_end}
use Rattle.parser_rules.specs.Messages.{at_text, at_end}
use Rattle.parser_state.proofs.Faults.{text-error, end-error, plain-message}
use Rattle.parser_state.proofs.borrowed_error.fault_error.Goals as goal
use Rattle.parser_state.specs.View.{lexeme_of}

pub returns-then-is_eof : goal.returns-then-is_eof
returns-then-is_eof g c =
    let words = c.description-words.ensures
    ∙ plain-message c.args.message at_end (sym c.names_found.ensures ∙ c.if-names_found.false) in
    end-error c.args.message (lexeme_of c.args.found) c.eof_from_static.result _ c.index.result
    (ap is_end (sym c.kind.ensures) ∙ sym c.is_eof.ensures ∙ c.if-is_eof.true)
    words c.index.ensures c.eof_from_static.ensures

pub returns : goal.returns
returns g c =
    let text = c.«data».result.now in
    let words = c.description-words.ensures
    ∙ plain-message c.args.message (at_text text) (sym c.names_found.ensures ∙ c.if-names_found.false) in
    text-error c.args.message (lexeme_of c.args.found) c.in_ok-error.error _ text c.index-2.result
    (ap is_end (sym c.kind.ensures) ∙ sym c.is_eof.ensures ∙ c.if-is_eof.false)
    c.«data».ensures words c.index-2.ensures c.in_ok-error.ensures.value
