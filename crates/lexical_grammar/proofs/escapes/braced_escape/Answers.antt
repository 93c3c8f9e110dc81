use Rattle.std.proofs.Common.{sym, arith}
use Rattle.lexical_grammar.proofs.EscapeReads.{no-digits, no-close, no-braced, no-number, braced-by, braced-escape}
use Rattle.lexical_grammar.proofs.EscapeReads.{no-braced-escape}
use Rattle.lexical_grammar.proofs.escapes.braced_escape.Goals as goal
use Rattle.lexical_grammar.proofs.escapes.braced_escape.Goals.{then-n-eq0-via-then-n-eq0}
use Rattle.lexical_grammar.proofs.escapes.braced_escape.Goals.{then-n-eq0-via-else-n-eq0+then-not-starts_with-2}

pub returns-then-not-starts_with : goal.returns-then-not-starts_with
returns-then-not-starts_with c =
    no-braced-escape c.args.bytes.now c.requires.backslash c.requires.unicode c.requires.unfixed
    (no-braced c.args.bytes.now (sym c.if-not-starts_with.ensures.value))

pub returns-then-n-eq0 : goal.returns-then-n-eq0
returns-then-n-eq0 c = no-braced-escape c.args.bytes.now c.requires.backslash c.requires.unicode c.requires.unfixed
    (elim c.then-n-eq0.branch [
      | then-n-eq0-via-then-n-eq0 w ↦
          no-digits c.args.bytes.now c.hex_digits_len-n.result c.hex_digits_len-n.ensures.value w.if-n-eq0.true
      | then-n-eq0-via-else-n-eq0+then-not-starts_with-2 w ↦
          no-close c.args.bytes.now c.hex_digits_len-n.result c.hex_digits_len-n.ensures.value
          (sym w.if-not-starts_with-2.ensures.value)
    ])

pub returns-in_err-c : goal.returns-in_err-c
returns-in_err-c c =
    let b = braced-by c.args.bytes.now c.hex_digits_len-n.result c.hex_value.result
    (sym c.if-not-starts_with.ensures.value) c.hex_digits_len-n.ensures.value
    (omega (arith, c.if-n-eq0.false)) (sym c.if-not-starts_with-2.ensures.value) c.hex_value.ensures.value in
    rw c.from_residual.ensures
    (no-braced-escape c.args.bytes.now c.requires.backslash c.requires.unicode c.requires.unfixed
    (no-number c.args.bytes.now _ _ b c.in_err-c.ensures.value))

pub returns : goal.returns
returns c =
    let b = braced-by c.args.bytes.now c.hex_digits_len-n.result c.hex_value.result
    (sym c.if-not-starts_with.ensures.value) c.hex_digits_len-n.ensures.value
    (omega (arith, c.if-n-eq0.false)) (sym c.if-not-starts_with-2.ensures.value) c.hex_value.ensures.value in
    braced-escape c.args.bytes.now _ _ c.in_ok-c.c c.requires.backslash c.requires.unfixed b c.in_ok-c.ensures.value.0
    c.in_ok-c.ensures.value.1
