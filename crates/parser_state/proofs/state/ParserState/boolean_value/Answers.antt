use Rattle.std.proofs.Common.{refl}
use Rattle.parser_rules.specs.Nodes.{BooleanValue}
use Rattle.parser_rules.specs.RuleLanguage.{holds, step}
use Rattle.parser_rules.specs.Rules.{inside}
use Rattle.parser_rules.specs.Runs.{child, does, yes, no}
use Rattle.parser_rules.specs.State.{flush, opened}
use Rattle.parser_state.proofs.state.ParserState.boolean_value.Goals as goal

pub returns-in_ok-leaf_node : goal.returns-in_ok-leaf_node
unfolding inside step opened flush holds
returns-in_ok-leaf_node g c = record {
  runs = child {node = BooleanValue} refl c.in_ok-leaf_node.ensures.step (yes c.if-at_word.ensures (does refl));
  budget = c.in_ok-leaf_node.ensures.budget;
}

pub returns-in_ok-leaf_node-2 : goal.returns-in_ok-leaf_node-2
unfolding inside step opened flush holds
returns-in_ok-leaf_node-2 g c = record {
  runs = child {node = BooleanValue} refl c.in_ok-leaf_node-2.ensures.step (no c.if-at_word.ensures (does refl));
  budget = c.in_ok-leaf_node-2.ensures.budget;
}
