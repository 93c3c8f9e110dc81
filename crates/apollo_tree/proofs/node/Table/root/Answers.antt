use Rattle.apollo_tree.proofs.Nodes.{root-text}
use Rattle.apollo_tree.proofs.node.Table.root.Goals as goal
use Rattle.apollo_tree.specs.References.{table_tree}

pub returns-clause-text : goal.returns-clause-text
returns-clause-text c = root-text (table_tree c.args.self) c.args.self.is_table.root
