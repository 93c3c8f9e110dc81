use Rattle.std.proofs.Common.{◌++◌, [], sym, ap, ◌∙◌}
use Rattle.std.specs.Prelude.{codes}
use Rattle.lexical_grammar.specs.Answers.{is_end}
use Rattle.parser_rules.specs.Messages.{Text}
use Rattle.parser_state.proofs.Faults.{text-error, end-error, quoting-message}
use Rattle.parser_state.proofs.borrowed_error.found_error.Goals as goal
use Rattle.parser_state.specs.View.{lexeme_of}

pub returns-then-is_eof : goal.returns-then-is_eof
returns-then-is_eof g c =
    end-error c.args.message (lexeme_of c.args.found) c.eof.result _ c.index.result
    (ap is_end (sym c.kind.ensures) ∙ sym c.is_eof.ensures ∙ c.if-is_eof.true)
    c.in_ok-text.ensures c.index.ensures c.eof.ensures

pub returns : goal.returns
returns g c =
    let text = c.«data».result.now in
    let words = ap (λ (w : Text). w ++ codes ", got " ++ text ++ []) c.description-words.ensures
    ∙ quoting-message c.args.message text c.requires in
    text-error c.args.message (lexeme_of c.args.found) c.in_ok-error.error _ text c.index-2.result
    (ap is_end (sym c.kind.ensures) ∙ sym c.is_eof.ensures ∙ c.if-is_eof.false)
    c.«data».ensures words c.index-2.ensures c.in_ok-error.ensures.value
