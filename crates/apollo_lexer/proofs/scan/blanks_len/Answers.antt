use Rattle.std.proofs.Common.{◌∙◌, sym}
use Rattle.apollo_lexer.proofs.Blanks.{blanks-in-two, blanks-end}
use Rattle.apollo_lexer.proofs.scan.blanks_len.Goals as goal

-- nothing blank follows those of one byte
pub returns-then-blank_len-eq0-2-clause-value : goal.returns-then-blank_len-eq0-2-clause-value
returns-then-blank_len-eq0-2-clause-value c =
    blanks-end c.args.bytes.now c.short_run_len-n.result c.short_run_len-n.ensures.value
    (sym c.blank_len-2.ensures ∙ c.if-blank_len-eq0-2.true)

-- a byte order mark follows them
pub returns-clause-value : goal.returns-clause-value
returns-clause-value c =
    blanks-in-two c.args.bytes.now c.short_run_len-n.result c.marked_len.result c.short_run_len-n.ensures.value
    c.marked_len.ensures.value
