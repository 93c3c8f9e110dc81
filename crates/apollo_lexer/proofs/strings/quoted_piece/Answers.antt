use Rattle.std.proofs.Common.{eq-eqb, arith}
use Rattle.std.proofs.lemmas.Bool.{ne_eqb}
use Rattle.apollo_lexer.proofs.Searches.{quoted-open, quoted-last, quoted-broken, quoted-inner, quoted-bad}
use Rattle.apollo_lexer.proofs.strings.quoted_piece.Goals as goal

pub returns-then-i-rest : goal.returns-then-i-rest
returns-then-i-rest c = quoted-open c.args.rest.now c.long_run_len-i.result c.long_run_len-i.ensures.value (omega arith)

pub returns-then-rest-i-eq34 : goal.returns-then-rest-i-eq34
returns-then-rest-i-eq34 c =
    quoted-last c.args.rest.now c.long_run_len-i.result c.long_run_len-i.ensures.value (omega arith)
    (eq-eqb _ _ c.if-rest-i-eq34.true)

-- what is neither a quote nor a backslash ends the line
pub returns-then-rest-i-ne92 : goal.returns-then-rest-i-ne92
returns-then-rest-i-ne92 c =
    quoted-broken c.args.rest.now c.long_run_len-i.result c.long_run_len-i.ensures.value (omega arith)
    (ne_eqb _ _ c.if-rest-i-eq34.false)
    (ne_eqb _ _ c.if-rest-i-ne92.true)

pub returns-then-n-eq0 : goal.returns-then-n-eq0
returns-then-n-eq0 c =
    quoted-bad c.args.rest.now c.long_run_len-i.result c.escape_len-n.result c.long_run_len-i.ensures.value
    (ne_eqb _ _ c.if-rest-i-eq34.false) c.escape_len-n.ensures.value c.if-n-eq0.true

pub returns-else-n-eq0 : goal.returns-else-n-eq0
returns-else-n-eq0 c =
    quoted-inner c.args.rest.now c.long_run_len-i.result c.escape_len-n.result
    c.long_run_len-i.ensures.value (omega arith)
    (ne_eqb _ _ c.if-rest-i-eq34.false) c.escape_len-n.ensures.value
    (omega (arith, c.if-n-eq0.false)) c.escape_len-n.ensures.within
