use Rattle.byte_streams.proofs.Accounts.{taken_call}
use Rattle.byte_streams.proofs.output.write_all.Goals as goal

pub loop-rest-preserved : goal.loop-rest-preserved
loop-rest-preserved g c =
    taken_call c.write.result c.in-Ok.count c.args.bytes.now c.loop-rest.rest.now _ _ _ c.loop-rest.invariant
    c.in-Ok.is c.in-Ok.count-test.1
    c.in-Ok.ensures.within c.write.ensures.account
