use Rattle.std.proofs.Common.{subst, sym}
use Rattle.std.proofs.lemmas.Result.{IfOk-weaker}
use Rattle.apollo_parser.proofs.Parses.{promise}
use Rattle.apollo_parser.proofs.parser.Parser.parse_counted.Goals as goal
use Rattle.apollo_parser.specs.Promise.{Promise}

pub returns-clause-promise : goal.returns-clause-promise
returns-clause-promise g c =
    let p = promise c.in_ok-tree.ensures.run in
    IfOk-weaker c.into_owned.result _ _
    (λ t same. subst (Promise c.args.self.source.now c.args.self.recursion_limit c.args.self.token_limit) (sym same) p)
    c.into_owned.ensures
