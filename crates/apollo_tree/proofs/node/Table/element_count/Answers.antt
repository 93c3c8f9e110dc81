use Rattle.std.proofs.Common.{◌∙◌}
use Rattle.apollo_tree.proofs.Places.{length-table}
use Rattle.apollo_tree.proofs.node.Table.element_count.Goals as goal

pub returns-clause-elements : goal.returns-clause-elements
returns-clause-elements c = c.len.ensures ∙ length-table _ _ c.args.self.is_table
