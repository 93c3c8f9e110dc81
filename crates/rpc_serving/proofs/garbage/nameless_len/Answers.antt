use Rattle.std.proofs.Common.{◌<◌, arith, length}
use Rattle.rpc_serving.proofs.NameLemmas.{stopped, unstopped}
use Rattle.rpc_serving.proofs.garbage.nameless_len.Goals as goal
use Rattle.rpc_serving.proofs.garbage.nameless_len.Goals.{else-name-gt0-via-then-name-gt0+else-bytes-name-eq58}
use Rattle.rpc_serving.proofs.garbage.nameless_len.Goals.{else-name-gt0-via-else-name-gt0}

pub returns-then-name-bytes-clause-garbage : goal.returns-then-name-bytes-clause-garbage
returns-then-name-bytes-clause-garbage c =
    unstopped c.args.bytes.now c.name_len-name.result c.name_len-name.ensures.name c.if-name-bytes.true
    c.saturating_sub.result c.saturating_sub.ensures

pub returns-clause-garbage : goal.returns-clause-garbage
returns-clause-garbage c =
    let within : c.name_len-name.result < length c.args.bytes.now =
    omega (arith, c.name_len-name.ensures.within, c.if-name-bytes.false) in
    stopped c.args.bytes.now c.name_len-name.result c.name_len-name.ensures.name within
    (c.name_len-name.ensures.end within)
    (λ some is. elim c.else-name-gt0.branch [
      | else-name-gt0-via-then-name-gt0+else-bytes-name-eq58 w ↦ w.if-bytes-name-eq58.false is
      | else-name-gt0-via-else-name-gt0 w ↦ (let never : ⊥ = omega (arith, some, w.if-name-gt0.false) in never)
    ])
