use Rattle.std.proofs.Common.{◌≡◌, take}
use Rattle.apollo_parser.proofs.syntax_tree.SyntaxTree.try_clone.Given as goal

abbrev pub invariant-loop-error : goal.invariant-loop-error
invariant-loop-error g l = l.errors.items ≡ take l.error-index l.self.errors
