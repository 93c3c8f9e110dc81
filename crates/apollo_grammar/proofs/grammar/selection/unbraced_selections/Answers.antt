use Rattle.parser_rules.specs.Runs.{deeper, skip}
use Rattle.apollo_grammar.proofs.grammar.selection.unbraced_selections.Goals as goal

pub returns : goal.returns
returns g c = record {
  runs =
      deeper c.if-is_too_deep.ensures c.enter.ensures.step c.leave.ensures.step c.in_ok-selections.ensures.runs skip;
  budget = cc;
}
