use Rattle.std.proofs.Common.{◌∙◌, ap}
use Rattle.document_grammar.specs.Numbers.{is_kind}
use Rattle.document_grammar.specs.declared.kind.SyntaxKind.TheVariants.{SELECTION_SET}
use Rattle.apollo_tree.specs.Order.{kind_at}
use Rattle.apollo_parser.proofs.Roots.{cast-is-some}
use Rattle.apollo_parser.proofs.syntax_tree.SyntaxTree+SelectionSetRoot+A.field_set.Goals as goal

pub unwrap-requires : goal.unwrap-requires
unwrap-requires g c = cast-is-some _ _ _ c.cast.result c.cast.ensures
    (ap (λ p. is_kind SELECTION_SET (kind_at p)) c.root.ensures.place ∙ c.self.inside.rooted)
