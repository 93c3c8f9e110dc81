use Rattle.std.proofs.Common.{string_bytes, refl}
use Rattle.std.proofs.lemmas.Result.{err_from_is_err_and}
use Rattle.byte_streams.proofs.Ends.{cut}
use Rattle.byte_streams.specs.declared.fault.Fault.{Fault}
use Rattle.gqlfmt_run.proofs.Saying.{silent-again, silent-broken}
use Rattle.gqlfmt_run.proofs.job.Job.write_layout.Goals as goal
use Rattle.gqlfmt_run.specs.Input.{IsOutput}

-- what the writer did where it failed or took no byte
pub returns-in_err-write_all-clause-output : goal.returns-in_err-write_all-clause-output
returns-in_err-write_all-clause-output g c =
    let k =
    cut (IsOutput c.args.self.now.mode c.args.self.now.bounds c.args.name.now) c.in_err-write_all.field-0.0
    c.in_ok-settled.settled c.args.bytes.now
    c.args.bytes.now c.in-Ok.source.now
    (string_bytes c.in_ok-settled.output) c.as_bytes.result.now (g.W.Sink.account c.args.writer.now) _ _ _ refl
    refl c.in-Ok.ensures.cases
    c.in_ok-settled.ensures.output
    c.as_bytes.ensures.value c.in_err-write_all.ensures.err in
    let p = err_from_is_err_and c.from_residual-in_err-write_all.result c.from_residual-in_err-write_all.ensures.1 in
    rw (p.1, p.2) k.1

pub returns-in_err-write_all-clause-silent : goal.returns-in_err-write_all-clause-silent
returns-in_err-write_all-clause-silent g c =
    let p = err_from_is_err_and c.from_residual-in_err-write_all.result c.from_residual-in_err-write_all.ensures.1 in
    rw p.1 (silent-broken c.args.self.now.bounds c.args.name.now c.in-Ok.source.now c.in_ok-settled.settled
    c.in_err-write_all.field-0.0
    (string_bytes c.in_ok-settled.output) c.as_bytes.result.now _ _ _ _ c.as_bytes.ensures.value
    c.in_err-write_all.ensures.err
    c.in_ok-settled.ensures.empty c.in_ok-settled.ensures.silent)

pub returns-clause-silent : goal.returns-clause-silent
returns-clause-silent g c =
    silent-again (Unit {0}) Fault c.args.self.now.bounds c.args.name.now c.in-Ok.source.now c.args.bytes.now
    c.in_ok-settled.settled _ _ c.in-Ok.ensures.cases.0
    c.in_ok-settled.ensures.silent
