use Rattle.std.proofs.Common.{◌∙◌, ap}
use Rattle.std.specs.List.{filter}
use Rattle.apollo_tree.specs.Children.{child_places}
use Rattle.apollo_tree.specs.References.{node_place}
use Rattle.apollo_tree.specs.Taken.{takes_place}
use Rattle.apollo_cst_core.proofs.TypedChildren.{typed-children}
use Rattle.apollo_cst_core.proofs.typed.children.Goals as goal
use Rattle.apollo_cst_core.specs.Children.{is_typed}

pub returns : goal.returns
returns g c =
    ap (filter (takes_place (is_typed g.N.CstNode.casts))) c.children_with_tokens.ensures.places
    ∙ typed-children g.N.CstNode.casts (child_places (node_place c.args.parent.now))
