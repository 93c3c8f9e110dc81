use Rattle.std.proofs.Common.{◌-◌, Some, arith, drop, eq-eqb, length, take}
use Rattle.std.proofs.lemmas.Bool.{ne_eqb}
use Rattle.apollo_lexer.proofs.BadStrings.{part-open, part-quote, part-slash, good-escape, bad-escape}
use Rattle.apollo_lexer.proofs.Searches.{backslash-there}
use Rattle.apollo_lexer.proofs.faults.first_part.Goals as goal
use Rattle.apollo_lexer.specs.Parts.{or_last}

-- what is neither a quote nor a plain character is a backslash
pub bad_escape_len-n-requires : goal.bad_escape_len-n-requires
bad_escape_len-n-requires c =
    backslash-there c.args.rest.now c.in-Some.i c.in-Some.ensures (ne_eqb _ _ c.if-rest-i-eq34.false)

pub escape_len-is_good-requires : goal.escape_len-is_good-requires
escape_len-is_good-requires c =
    backslash-there c.args.rest.now c.in-Some.i c.in-Some.ensures (ne_eqb _ _ c.if-rest-i-eq34.false)

pub returns-in-None : goal.returns-in-None
returns-in-None c = part-open c.args.rest.now c.in-None.ensures

pub returns-then-rest-i-eq34 : goal.returns-then-rest-i-eq34
returns-then-rest-i-eq34 c = (
  omega arith,
  omega (arith, c.in-Some.ensures.0.high),
  part-quote c.args.rest.now c.in-Some.i c.line_fault-fault.result c.in-Some.ensures (eq-eqb _ _ c.if-rest-i-eq34.true)
      c.line_fault-fault.ensures,
)

pub returns-then-is_good : goal.returns-then-is_good
returns-then-is_good c =
    part-slash c.args.rest.now c.in-Some.i c.bad_escape_len-n.result c.line_fault-fault.result
    c.line_fault-fault.result c.in-Some.ensures
    (ne_eqb _ _ c.if-rest-i-eq34.false)
    c.bad_escape_len-n.ensures.value c.bad_escape_len-n.ensures.some c.bad_escape_len-n.ensures.within
    c.line_fault-fault.ensures
    (λ last. good-escape (or_last c.line_fault-fault.result last)
    (take (length c.args.rest.now - c.in-Some.i) (drop c.in-Some.i c.args.rest.now))
    c.escape_len-is_good.result c.escape_len-is_good.ensures.value (omega (arith, c.if-is_good.true)))

pub returns-else-is_good : goal.returns-else-is_good
returns-else-is_good c =
    part-slash c.args.rest.now c.in-Some.i c.bad_escape_len-n.result (Some c.escape_fault.result)
    c.line_fault-fault.result c.in-Some.ensures
    (ne_eqb _ _ c.if-rest-i-eq34.false)
    c.bad_escape_len-n.ensures.value c.bad_escape_len-n.ensures.some c.bad_escape_len-n.ensures.within
    c.line_fault-fault.ensures
    (λ last. bad-escape (or_last c.line_fault-fault.result last) c.escape_fault.result
    (take (length c.args.rest.now - c.in-Some.i) (drop c.in-Some.i c.args.rest.now)) c.escape_len-is_good.result
    c.escape_len-is_good.ensures.value
    (omega (arith, c.if-is_good.false)) c.escape_fault.ensures)
