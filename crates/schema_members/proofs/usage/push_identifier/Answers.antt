use Rattle.std.proofs.Common.{subst, sym}
use Rattle.std.proofs.lemmas.List.Elements.{All-push}
use Rattle.std.specs.List.{All}
use Rattle.apollo_tree.specs.References.{token_place}
use Rattle.apollo_tree.specs.declared.node.SyntaxToken.{SyntaxToken}
use Rattle.schema_members.proofs.usage.push_identifier.Goals as goal
use Rattle.schema_members.specs.Uses.{IsIdentifier}

pub returns-in_ok-push-in-Some : goal.returns-in_ok-push-in-Some
returns-in_ok-push-in-Some c = λ before.
    let P : SyntaxToken → Type 0 = λ leaf. IsIdentifier c.args.text.now (token_place leaf) in
    subst (All P) (sym c.in_ok-push-in-Some.ensures.items) (All-push P _ _ before c.in-Some.ensures)
