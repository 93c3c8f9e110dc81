use Rattle.apollo_tree.proofs.Chains.{is-chain}
use Rattle.apollo_tree.proofs.node.SyntaxNode.ancestors.Goals as goal

pub returns : goal.returns
returns c = is-chain c.args.self.now
