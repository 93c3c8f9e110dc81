use Rattle.std.proofs.Common.{◌≡◌, ◌∙◌, sym, ap, subst, true}
use Rattle.std.proofs.Math.Logic.{∥∥₁_elim}
use Rattle.std.proofs.Props.{props}
use Rattle.std.specs.Int.{w32}
use Rattle.std.specs.Prelude.{FitsSigned}
use Rattle.lexical_grammar.specs.Numbers.{IsIntegerPart}
use Rattle.lexical_grammar.specs.Values.{IntOf}
use Rattle.document_grammar.specs.Numbers.{is_kind}
use Rattle.document_grammar.specs.declared.kind.SyntaxKind.TheVariants.{INT_VALUE}
use Rattle.apollo_tree.specs.Literals.{IsIntegerPart-from_sound}
use Rattle.apollo_tree.specs.Order.{text_at}
use Rattle.apollo_tree.specs.References.{node_place}
use Rattle.apollo_cst_core.specs.Cast.{node_kind}
use Rattle.apollo_cst_executable.proofs.Integers.{integer-numeral}
use Rattle.apollo_cst_executable.proofs.literals.I32TryFromIntValue.try_from.Goals as goal

pub returns-in-Err : goal.returns-in-Err
returns-in-Err c = λ fits.
    let kind = subst (λ n. is_kind INT_VALUE (node_kind n) ≡ true) (sym c.syntax.ensures) c.args.value.of_kind in
    let said = c.text.ensures.text ∙ ap (λ n. text_at (node_place n)) c.syntax.ensures in
    ∥∥₁_elim c.text.ensures.sound (hlevel props) (λ s.
    let integer = subst IsIntegerPart (sym c.text.ensures.text)
    (IsIntegerPart-from_sound _ c.text.ensures.node kind s) in
    c.in-Err.ensures.value.0
    (integer-numeral c.text.result.now integer, subst (λ t. FitsSigned w32 (IntOf t)) (sym said) fits))
