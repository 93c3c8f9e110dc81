use Rattle.std.proofs.Common.{refl}
use Rattle.apollo_lexer.proofs.Lexing.{limit-message-is, fault-message-is}
use Rattle.apollo_lexer.proofs.lex_error.LexError.to_error.Goals as goal

-- the token limit
pub returns-then-self-clause-message : goal.returns-then-self-clause-message
returns-then-self-clause-message g c =
    let e = c.args.self.now in
    rw c.limit_from_static.ensures (limit-message-is e.is_limit e.text.now _ c.if-self.true refl)

-- bad text
pub returns-clause-message : goal.returns-clause-message
returns-clause-message g c =
    let e = c.args.self.now in
    fault-message-is e.is_limit e.text.now _ c.if-self.false c.in_ok-error.ensures.message
