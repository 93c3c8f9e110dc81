use Rattle.std.proofs.Common.{◌<◌, length, arith, subst, sym}
use Rattle.std.proofs.lemmas.Bool.Decides.{nat_tests}
use Rattle.std.proofs.lemmas.List.{length-map}
use Rattle.document_checks.proofs.Judging.{all_of, errors_each, errors_sound, errors_warned, inside_of, judged_each}
use Rattle.document_checks.proofs.Judging.{judged_in_place, judged_sound, judged_warned, not_all_of, together}
use Rattle.document_checks.proofs.ParsedTexts.{are_clean, inside, of_errors_alone, of_findings}
use Rattle.document_checks.proofs.text_check.check.Goals as goal
use Rattle.document_checks.specs.Checking.{as_asked, texts_of}
use Rattle.document_checks.specs.Documents.{AllPass, AreClean}

-- ---- a text has errors

pub returns-then-not-all_pass-clause-judged : goal.returns-then-not-all_pass-clause-judged
returns-then-not-all_pass-clause-judged c =
    let asked = as_asked c.args.checks.now in
    let sources = texts_of c.args.sources.now in
    let reports = c.in_ok-documents.field-0.reports.items in
    let there : 0 < length c.args.sources.now = grind (arith, nat_tests) in
    let some = not_all_of c.all_pass.result c.as_slice.result.now reports c.if-not-all_pass.true
    c.as_slice.ensures.value c.all_pass.ensures in
    together asked sources (AllPass reports)
    (omega (arith, there, length-map c.args.sources.now (λ source. source.now)))
    (errors_sound asked sources c.in_ok-documents.field-0.documents.items reports c.in_ok-documents.ensures some)

pub returns-then-not-all_pass-clause-found : goal.returns-then-not-all_pass-clause-found
returns-then-not-all_pass-clause-found c =
    of_errors_alone c.args.checks.now.limits (texts_of c.args.sources.now) c.in_ok-documents.field-0.reports.items
    c.in_ok-documents.ensures.are_reports

pub returns-then-not-all_pass-clause-each : goal.returns-then-not-all_pass-clause-each
returns-then-not-all_pass-clause-each c =
    let reports = c.in_ok-documents.field-0.reports.items in
    errors_each (as_asked c.args.checks.now) (texts_of c.args.sources.now)
    c.in_ok-documents.field-0.documents.items reports c.in_ok-documents.ensures
    (not_all_of c.all_pass.result c.as_slice.result.now reports c.if-not-all_pass.true c.as_slice.ensures.value
    c.all_pass.ensures)

pub returns-then-not-all_pass-clause-warned : goal.returns-then-not-all_pass-clause-warned
returns-then-not-all_pass-clause-warned c =
    let reports = c.in_ok-documents.field-0.reports.items in
    errors_warned (as_asked c.args.checks.now) (texts_of c.args.sources.now)
    c.in_ok-documents.field-0.documents.items reports c.in_ok-documents.ensures
    (not_all_of c.all_pass.result c.as_slice.result.now reports c.if-not-all_pass.true c.as_slice.ensures.value
    c.all_pass.ensures)

-- ---- none has

pub judge-requires-clause-inside : goal.judge-requires-clause-inside
judge-requires-clause-inside c =
    let sources = texts_of c.args.sources.now in
    let documents = c.in_ok-documents.field-0.documents.items in
    let reports = c.in_ok-documents.field-0.reports.items in
    let there : 0 < length c.args.sources.now = grind (arith, nat_tests) in
    inside_of documents c.as_slice-2.result.now reports c.as_mut_slice.result.now c.as_slice-2.ensures.value
    c.as_mut_slice.ensures.value
    (inside c.args.checks.now.limits sources documents reports c.in_ok-documents.ensures
    (omega (arith, there, length-map c.args.sources.now (λ source. source.now))))

pub judge-requires-clause-passing : goal.judge-requires-clause-passing
judge-requires-clause-passing c =
    let reports = c.in_ok-documents.field-0.reports.items in
    let all = all_of c.all_pass.result c.as_slice.result.now reports c.if-not-all_pass.false
    c.as_slice.ensures.value c.all_pass.ensures in
    subst AreClean (sym c.as_mut_slice.ensures.value)
    (are_clean c.args.checks.now.limits (texts_of c.args.sources.now) reports c.in_ok-documents.ensures.are_reports all)

pub returns-clause-judged : goal.returns-clause-judged
returns-clause-judged c =
    let asked = as_asked c.args.checks.now in
    let sources = texts_of c.args.sources.now in
    let documents = c.in_ok-documents.field-0.documents.items in
    let reports = c.in_ok-documents.field-0.reports.items in
    let there : 0 < length c.args.sources.now = grind (arith, nat_tests) in
    let all = all_of c.all_pass.result c.as_slice.result.now reports c.if-not-all_pass.false
    c.as_slice.ensures.value c.all_pass.ensures in
    let judged = judged_in_place asked documents c.as_slice-2.result.now reports c.as_mut_slice.result.now
    c.judge.new.reports c.in_ok-documents.field-0.reports.len c.as_slice-2.ensures.value c.as_mut_slice.ensures.value
    c.in_ok-documents.field-0.reports.ok.0 c.in_ok-judge.ensures in
    together asked sources _ (omega (arith, there, length-map c.args.sources.now (λ source. source.now)))
    (judged_sound asked sources documents reports _ c.in_ok-documents.ensures all judged)

pub returns-clause-found : goal.returns-clause-found
returns-clause-found c =
    let asked = as_asked c.args.checks.now in
    let documents = c.in_ok-documents.field-0.documents.items in
    let reports = c.in_ok-documents.field-0.reports.items in
    let all = all_of c.all_pass.result c.as_slice.result.now reports c.if-not-all_pass.false
    c.as_slice.ensures.value c.all_pass.ensures in
    let judged = judged_in_place asked documents c.as_slice-2.result.now reports c.as_mut_slice.result.now
    c.judge.new.reports c.in_ok-documents.field-0.reports.len c.as_slice-2.ensures.value c.as_mut_slice.ensures.value
    c.in_ok-documents.field-0.reports.ok.0 c.in_ok-judge.ensures in
    of_findings c.args.checks.now.limits (texts_of c.args.sources.now) reports _
    c.in_ok-documents.ensures.are_reports all judged.count judged.founded

pub returns-clause-each : goal.returns-clause-each
returns-clause-each c =
    let asked = as_asked c.args.checks.now in
    let documents = c.in_ok-documents.field-0.documents.items in
    let reports = c.in_ok-documents.field-0.reports.items in
    let all = all_of c.all_pass.result c.as_slice.result.now reports c.if-not-all_pass.false
    c.as_slice.ensures.value c.all_pass.ensures in
    let judged = judged_in_place asked documents c.as_slice-2.result.now reports c.as_mut_slice.result.now
    c.judge.new.reports c.in_ok-documents.field-0.reports.len c.as_slice-2.ensures.value c.as_mut_slice.ensures.value
    c.in_ok-documents.field-0.reports.ok.0 c.in_ok-judge.ensures in
    judged_each asked (texts_of c.args.sources.now) documents reports _ c.in_ok-documents.ensures all judged

pub returns-clause-warned : goal.returns-clause-warned
returns-clause-warned c =
    let asked = as_asked c.args.checks.now in
    let documents = c.in_ok-documents.field-0.documents.items in
    let reports = c.in_ok-documents.field-0.reports.items in
    let all = all_of c.all_pass.result c.as_slice.result.now reports c.if-not-all_pass.false
    c.as_slice.ensures.value c.all_pass.ensures in
    let judged = judged_in_place asked documents c.as_slice-2.result.now reports c.as_mut_slice.result.now
    c.judge.new.reports c.in_ok-documents.field-0.reports.len c.as_slice-2.ensures.value c.as_mut_slice.ensures.value
    c.in_ok-documents.field-0.reports.ok.0 c.in_ok-judge.ensures in
    judged_warned asked (texts_of c.args.sources.now) documents reports _ c.in_ok-documents.ensures all judged
