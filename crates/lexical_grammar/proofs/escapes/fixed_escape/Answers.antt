use Rattle.std.proofs.Common.{sym, ◌∙◌}
use Rattle.lexical_grammar.proofs.EscapeReads.{lone-escape, pair-escape, no-pair-escape}
use Rattle.lexical_grammar.proofs.escapes.fixed_escape.Goals as goal

pub returns-in_err-low : goal.returns-in_err-low
returns-in_err-low c =
    rw c.from_residual.ensures
    (lone-escape c.args.bytes.now c.args.value c.requires.backslash c.requires.fixed c.in_default.ensures.value
    c.in_err-low.ensures.value)

pub returns-then-is_pair : goal.returns-then-is_pair
returns-then-is_pair c =
    pair-escape c.args.bytes.now c.args.value c.in_ok-low.low c.pair.result c.requires.backslash c.requires.fixed
    c.in_default.ensures.value
    c.in_ok-low.ensures.value
    (sym c.is_pair.ensures ∙ c.if-is_pair.true) c.pair.ensures

pub returns-else-is_pair : goal.returns-else-is_pair
returns-else-is_pair c =
    no-pair-escape c.args.bytes.now c.args.value c.in_ok-low.low c.requires.backslash c.requires.fixed
    c.in_default.ensures.value c.in_ok-low.ensures.value
    (sym c.is_pair.ensures ∙ c.if-is_pair.false)
