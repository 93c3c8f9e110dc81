use Rattle.std.proofs.Common.{◌≡◌, ◌∙◌, true, sym, ap, subst}
use Rattle.std.proofs.Math.Logic.{∥∥₁_elim}
use Rattle.std.proofs.Props.{props}
use Rattle.std.specs.Prelude.{string_bytes}
use Rattle.lexical_grammar.specs.Tokens.{IsString}
use Rattle.document_grammar.specs.Numbers.{is_kind}
use Rattle.document_grammar.specs.declared.kind.SyntaxKind.TheVariants.{STRING_VALUE}
use Rattle.apollo_tree.specs.Literals.{IsString-from_sound}
use Rattle.apollo_tree.specs.Order.{text_at}
use Rattle.apollo_tree.specs.References.{node_place}
use Rattle.apollo_cst_core.proofs.StringForms.{if-ok}
use Rattle.apollo_cst_core.specs.Cast.{node_kind}
use Rattle.apollo_cst_core.specs.StringValues.{IsStringValue}
use Rattle.apollo_cst_executable.proofs.values.StringValue.to_string_in.Goals as goal

pub string_value-requires : goal.string_value-requires
string_value-requires g c =
    let kind = subst (λ n. is_kind STRING_VALUE (node_kind n) ≡ true) (sym c.syntax.ensures) c.args.self.now.of_kind in
    ∥∥₁_elim c.text.ensures.sound (hlevel props)
    (λ s. ∣ subst IsString (sym c.text.ensures.text) (IsString-from_sound _ c.text.ensures.node kind s) ∣₁)

pub returns : goal.returns
returns g c =
    let said = c.text.ensures.text ∙ ap (λ n. text_at (node_place n)) c.syntax.ensures in
    if-ok c.string_value.result _ (λ s. IsStringValue (text_at (node_place c.args.self.now.syntax)) (string_bytes s))
    (λ s h. subst (λ t. IsStringValue t (string_bytes s)) said h)
    c.string_value.ensures
