use Rattle.std.proofs.Common.{ap, ◌∙◌, ◌-◌, drop, length, arith}
use Rattle.std.proofs.lemmas.List.{take_all, length-drop}
use Rattle.lexical_grammar.specs.Reads.{blank_len}
use Rattle.apollo_lexer.proofs.Blanks.{blanks-more}
use Rattle.apollo_lexer.proofs.scan.marked_len.Goals as goal

-- one more blank character
pub loop-n-preserved : goal.loop-n-preserved
loop-n-preserved c =
    let rest = take_all (length c.args.bytes.now - c.loop-n.n) (drop c.loop-n.n c.args.bytes.now)
    (omega (arith, length-drop c.loop-n.n c.args.bytes.now)) in
    let more = blanks-more c.args.bytes.now c.loop-n.n c.blank_len-step.result c.loop-n.invariant.within
    c.loop-n.invariant.so_far
    (c.blank_len-step.ensures ∙ ap blank_len rest) c.if-step-eq0.false in
    record { within = more.0; so_far = more.1 }
