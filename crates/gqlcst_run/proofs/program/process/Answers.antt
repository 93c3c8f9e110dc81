use Rattle.std.proofs.Common.{refl}
use Rattle.std.proofs.lemmas.Result.{err_from_is_err_and}
use Rattle.byte_streams.proofs.Ends.{cut, whole}
use Rattle.gqlcst_run.proofs.Buffers.{put-all}
use Rattle.gqlcst_run.proofs.program.process.Goals as goal
use Rattle.gqlcst_run.specs.Program.{IsOutput}

-- what the writer did where it failed or took no byte
pub returns-in_err-finish : goal.returns-in_err-finish
returns-in_err-finish g c =
    let put = c.in_ok-finding.ensures.ok in
    let all = put-all _ _ _ _ _ c.new-buffer.ensures put.puts in
    let k = cut (IsOutput c.args.mode c.args.limits) c.in_err-finish.field-0.0 c.in_ok-finding.finding
    c.in_ok-bytes.bytes.items c.as_slice.result.now
    c.in-Ok.source.now
    put.output put.output _ _ _ _ c.in_ok-bytes.ensures.ok c.as_slice.ensures.value c.in-Ok.ensures.cases put.made refl
    (c.in_err-finish.ensures _ _ all) in
    let p = err_from_is_err_and c.from_residual-in_err-finish.result c.from_residual-in_err-finish.ensures.1 in
    rw (p.1, p.2) (c.in_ok-bytes.bytes.items, k.0, k.1)

-- all is written
pub returns : goal.returns
returns g c =
    let put = c.in_ok-finding.ensures.ok in
    let all = put-all _ _ _ _ _ c.new-buffer.ensures put.puts in (
      c.in_ok-bytes.bytes.items,
      c.in_ok-bytes.ensures.ok,
      whole (IsOutput c.args.mode c.args.limits) c.in_ok-finding.finding c.in_ok-bytes.bytes.items c.as_slice.result.now
          c.in-Ok.source.now put.output _ _
          c.as_slice.ensures.value
          c.in-Ok.ensures.cases put.made (c.in_ok-finish.ensures _ _ all),
    )
