use Rattle.variable_rules.proofs.ReachLemmas.{found_are}
use Rattle.variable_rules.proofs.reach.reached.Goals as goal

pub returns-clause-found : goal.returns-clause-found
returns-clause-found c =
    found_are c.args.graph.now c.args.start c.in_ok-found.found.items c.in_ok-found.ensures.found
    c.in_ok-found.ensures.inside c.in_ok-found.ensures.distinct
