use Rattle.std.proofs.Common.{◌≡◌, ◌∙◌, subst, sym, true}
use Rattle.std.proofs.Math.Logic.{∥∥₁_elim}
use Rattle.lexical_grammar.specs.Tokens.{IsName}
use Rattle.document_grammar.specs.Numbers.{is_kind}
use Rattle.document_grammar.specs.declared.kind.SyntaxKind.TheVariants.{NAME}
use Rattle.apollo_tree.specs.Literals.{IsName-from_sound}
use Rattle.apollo_cst_core.specs.Cast.{node_kind}
use Rattle.apollo_cst_executable.proofs.OneName.{IsName-prop}
use Rattle.apollo_cst_executable.proofs.names.Name.text.Goals as goal

pub returns-clause-name : goal.returns-clause-name
returns-clause-name c =
    let said = c.new.ensures ∙ c.text.ensures.text in
    let kind = subst (λ n. is_kind NAME (node_kind n) ≡ true) (sym c.syntax.ensures) c.args.self.now.of_kind in
    subst IsName (sym said)
    (∥∥₁_elim c.text.ensures.sound (IsName-prop _) (λ h. IsName-from_sound _ c.text.ensures.node kind h))
