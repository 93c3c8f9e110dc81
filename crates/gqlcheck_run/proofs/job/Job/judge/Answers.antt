use Rattle.std.proofs.Common.{◌≡◌, ◌∙◌, ap, map}
use Rattle.document_checks.specs.Checking.{texts_of}
use Rattle.gqlcheck_run.proofs.job.Job.judge.Goals as goal
use Rattle.gqlcheck_run.specs.Inputs.{as_input, text_of}

pub returns-clause-judged : goal.returns-clause-judged
returns-clause-judged g c =
    let same : texts_of c.as_slice.result.now ≡ map text_of (map as_input c.args.inputs.now) =
    ap texts_of c.as_slice.ensures.value ∙ c.in_ok-sources.ensures in
    rw same at c.check.ensures.judged

pub returns-clause-each : goal.returns-clause-each
returns-clause-each g c =
    let same : texts_of c.as_slice.result.now ≡ map text_of (map as_input c.args.inputs.now) =
    ap texts_of c.as_slice.ensures.value ∙ c.in_ok-sources.ensures in
    rw same at c.check.ensures.each

pub returns-clause-warned : goal.returns-clause-warned
returns-clause-warned g c =
    let same : texts_of c.as_slice.result.now ≡ map text_of (map as_input c.args.inputs.now) =
    ap texts_of c.as_slice.ensures.value ∙ c.in_ok-sources.ensures in
    rw same at c.check.ensures.warned
