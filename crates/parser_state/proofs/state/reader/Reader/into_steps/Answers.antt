use Rattle.std.proofs.Common.{arith}
use Rattle.apollo_lexer.specs.Answers.{answers_left}
use Rattle.parser_state.proofs.Lookahead.{spared-given}
use Rattle.parser_state.proofs.state.reader.Reader.into_steps.Goals as goal

pub returns : goal.returns
returns c = let h = c.args.self.within in let k =
    spared-given c.args.self.ahead.is_known (answers_left c.args.self.lexer) in omega (arith, h, k)
