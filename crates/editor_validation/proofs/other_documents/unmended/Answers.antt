use Rattle.std.proofs.Common.{◌≡◌, Bool, List, [], ◌∷◌, ◌++◌, ap, map, not, sym, ◌∙◌, Bor}
use Rattle.std.proofs.lemmas.List.{map-append}
use Rattle.document_grammar.specs.declared.kind.SyntaxKind.TheVariants.{FRAGMENT_NAME}
use Rattle.validation_names.specs.Mentions.{name_in}
use Rattle.validation_rules.specs.Violations.{Breach, as_breach}
use Rattle.editor_validation.proofs.Kept.{kept_more, left_more, same_mends}
use Rattle.editor_validation.proofs.other_documents.unmended.Goals as goal
use Rattle.editor_validation.proofs.other_documents.unmended.Goals.{then-not-is_mended+in_ok-push, else-not-is_mended}
use Rattle.editor_validation.specs.Fragments.{as_fragments}
use Rattle.editor_validation.specs.Mending.{define, is_mended, spread}
use Rattle.editor_validation.specs.declared.fragments.FragmentNames.{FragmentNames}

pub loop-violation-preserved : goal.loop-violation-preserved
loop-violation-preserved c =
    let others = map (λ (f : Bor FragmentNames). as_fragments f.now) c.args.others.now in
    let stays : Breach → Bool = λ b. not (is_mended others b) in
    let n = c.loop-violation.violation-index in
    let item = c.violation-item.result in
    let breach = as_breach item in
    let violations = c.args.violations.now in
    let inside = c.loop-violation-test.true in
    let mended : c.is_mended.result ≡ is_mended others breach = c.is_mended.ensures
    ∙ same_mends _ (define others) _ (spread others) c.in_ok-defined.ensures c.in_ok-spread.ensures breach.rule
    (name_in FRAGMENT_NAME breach.site.place) in
    elim c.if-not-is_mended.branch [
      | then-not-is_mended+in_ok-push w ↦
          let more = kept_more stays as_breach violations n item inside c.violation-item.is
          (ap not (sym mended ∙ w.if-not-is_mended.true)) in
          rw (w.kept-is, w.in_ok-push.ensures.items, more, map-append)
          (ap (λ (bs : List Breach). bs ++ breach ∷ []) c.loop-violation.invariant)
      | else-not-is_mended w ↦
          let more = left_more stays as_breach violations n item inside c.violation-item.is
          (ap not (sym mended ∙ w.if-not-is_mended.false)) in
          rw (w.kept-is, more) c.loop-violation.invariant
    ]
