use Rattle.std.proofs.Common.{List, ap, map, not, sym, take, ◌∙◌, Bor}
use Rattle.std.proofs.lemmas.List.{take-map}
use Rattle.std.specs.List.{filter}
use Rattle.validation_rules.specs.Violations.{Breach, as_breach}
use Rattle.validation_rules.specs.declared.violations.Violation.{Violation}
use Rattle.editor_validation.proofs.broken_rules.rule_diagnostics.Goals as goal
use Rattle.editor_validation.specs.Diagnostics.{diagnostic_of}
use Rattle.editor_validation.specs.Fragments.{as_fragments}
use Rattle.editor_validation.specs.Mending.{is_mended}
use Rattle.editor_validation.specs.declared.fragments.FragmentNames.{FragmentNames}

pub returns : goal.returns
returns c =
    let others = map (λ (f : Bor FragmentNames). as_fragments f.now) c.args.others.now in
    let kept = c.in_ok-kept.kept.items in
    let breaches : List Violation → List Breach = λ violations. map as_breach violations in
    record {
      found = breaches c.in_ok-violations.violations.items;
      exact = c.in_ok-violations.ensures.exact;
      are = c.in_ok-found.ensures
          ∙ ap (λ (bs : List Breach). map diagnostic_of bs)
          (ap breaches (c.as_slice-2.ensures.value ∙ c.truncate.ensures.items) ∙ sym (take-map as_breach 100 kept)
          ∙ ap (λ (bs : List Breach). take 100 bs)
          (c.in_ok-kept.ensures ∙ ap (λ (vs : List Violation). filter (λ b. not (is_mended others b)) (breaches vs))
          c.as_slice.ensures.value));
    }
