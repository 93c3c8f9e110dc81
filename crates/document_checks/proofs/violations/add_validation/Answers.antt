use Rattle.std.proofs.Common.{◌++◌, List, Option, subst, sym}
use Rattle.std.specs.Prelude.{option_map}
use Rattle.validation_names.specs.Sites.{as_located}
use Rattle.validation_names.specs.declared.sites.Site.{Site}
use Rattle.validation_rules.specs.declared.violations.Violation.{Violation}
use Rattle.document_checks.proofs.violations.add_validation.Goals as goal
use Rattle.document_checks.specs.Documents.{AreJudged, numbers_of}
use Rattle.document_checks.specs.Passing.{IsWithout, undecided_sites, violation_sites}

-- the operation before which the steps were used up comes after the violations
pub returns-in_ok-add_undecided : goal.returns-in_ok-add_undecided
returns-in_ok-add_undecided c =
    let numbers = numbers_of c.args.documents.now in
    let found = c.args.validation.now.violations.items in
    subst
    (λ (u : Option Site). AreJudged
    (IsWithout numbers (violation_sites found ++ undecided_sites (option_map as_located u))) c.args.reports.now
    c.add_undecided.new.reports) (sym c.in-Some.is)
    (c.in_ok-add_undecided.ensures (violation_sites found) c.args.reports.now
    (subst
    (λ (vs : List Violation). AreJudged (IsWithout numbers (violation_sites vs)) c.args.reports.now
    c.add_violations.new.reports) c.as_slice-violations.ensures.value c.in_ok-add_violations.ensures))
