use Rattle.std.proofs.Common.{eq-eqb}
use Rattle.std.proofs.lemmas.Bool.{ne_eqb}
use Rattle.apollo_lexer.proofs.Searches.{bad-open, bad-quote, bad-slash, backslash-there}
use Rattle.apollo_lexer.proofs.strings.bad_piece.Goals as goal

pub returns-in-None : goal.returns-in-None
returns-in-None c = bad-open c.args.rest.now c.in-None.ensures

pub returns-then-rest-i-eq34 : goal.returns-then-rest-i-eq34
returns-then-rest-i-eq34 c = bad-quote c.args.rest.now c.in-Some.i c.in-Some.ensures (eq-eqb _ _ c.if-rest-i-eq34.true)

-- what is no quote is a backslash
pub bad_escape_len-n-requires : goal.bad_escape_len-n-requires
bad_escape_len-n-requires c =
    backslash-there c.args.rest.now c.in-Some.i c.in-Some.ensures (ne_eqb _ _ c.if-rest-i-eq34.false)

pub returns-else-rest-i-eq34 : goal.returns-else-rest-i-eq34
returns-else-rest-i-eq34 c =
    bad-slash c.args.rest.now c.in-Some.i c.bad_escape_len-n.result c.in-Some.ensures
    (ne_eqb _ _ c.if-rest-i-eq34.false) c.bad_escape_len-n.ensures.value
    c.bad_escape_len-n.ensures.some c.bad_escape_len-n.ensures.within
