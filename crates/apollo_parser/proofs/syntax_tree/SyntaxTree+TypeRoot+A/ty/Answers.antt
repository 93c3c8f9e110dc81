use Rattle.std.proofs.Common.{◌∙◌, ap}
use Rattle.document_grammar.specs.Choices.{Types}
use Rattle.apollo_tree.specs.Order.{kind_at}
use Rattle.apollo_tree.specs.References.{node_place}
use Rattle.apollo_cst_core.specs.Cast.{one_of}
use Rattle.apollo_cst_executable.specs.Ty.{ty_node}
use Rattle.apollo_parser.proofs.Roots.{cast-place}
use Rattle.apollo_parser.proofs.syntax_tree.SyntaxTree+TypeRoot+A.ty.Goals as goal

pub returns : goal.returns
returns g c =
    let place = c.root.ensures.place ∙ ap (λ t. record { whole = t.tree; index = 0 }) c.self.view_is in
    cast-place ty_node node_place (ap (λ p. one_of Types (kind_at p)) place) place c.cast.result c.cast.ensures
