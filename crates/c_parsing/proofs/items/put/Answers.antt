use Rattle.std.proofs.Common.{arith}
use Rattle.c_parsing.proofs.FilledBuffers.{put-none, put-one}
use Rattle.c_parsing.proofs.items.put.Goals as goal

pub returns-then-at-rows : goal.returns-then-at-rows
returns-then-at-rows c =
    λ before written same is. put-one before written c.args.rows.now c.args.at c.args.row same is
    (omega (arith, c.if-at-rows.true))

pub returns-else-at-rows : goal.returns-else-at-rows
returns-else-at-rows c =
    λ before written same is. put-none before written c.args.rows.now c.args.at c.args.row same is
    (omega (arith, c.if-at-rows.false))
