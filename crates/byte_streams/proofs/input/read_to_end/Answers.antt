use Rattle.std.proofs.Common.{◌++◌, take}
use Rattle.std.proofs.lemmas.Result.{err_from_is_err_and}
use Rattle.byte_streams.proofs.Accounts.{gave}
use Rattle.byte_streams.proofs.input.read_to_end.Goals as goal

-- the bytes that were read before memory was refused, the last of them too
pub returns-in_err-extend_from_slice-in-Ok-clause-err :
    goal.returns-in_err-extend_from_slice-in-Ok-clause-err
returns-in_err-extend_from_slice-in-Ok-clause-err g c =
    let p = err_from_is_err_and c.from_residual.result c.from_residual.ensures.1 in
    rw (p.1, p.2) (
      c.loop-bytes.bytes.items ++ take c.in-Ok.count c.read.new.buffer,
      gave c.read.result c.in-Ok.count c.loop-bytes.bytes.items c.read.new.buffer _ _ _
          c.loop-bytes.invariant c.in-Ok.is c.in-Ok.count-test.1 c.read.ensures.account,
    )
