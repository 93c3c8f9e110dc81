use Rattle.apollo_lexer.proofs.BadStrings.{line-none, line-some}
use Rattle.apollo_lexer.proofs.faults.line_fault.Goals as goal

pub returns-in-Some : goal.returns-in-Some
returns-in-Some c = λ last. line-some last c.args.bytes.now c.in-Some.field-0 c.in-Some.ensures

pub returns-in-None : goal.returns-in-None
returns-in-None c = λ last. line-none last c.args.bytes.now c.in-None.ensures
