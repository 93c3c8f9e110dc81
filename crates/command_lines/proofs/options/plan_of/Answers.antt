use Rattle.command_lines.proofs.Taking.{goes-on, stays-within}
use Rattle.command_lines.proofs.options.plan_of.Goals as goal
use Rattle.command_lines.specs.Options.{given_from}
use Rattle.command_lines.specs.Reading.{as_rows}

pub loop-index-preserved : goal.loop-index-preserved
loop-index-preserved g c =
    let words = c.args.words.now in
    let i = c.loop-index.index in
    let count = c.in_ok-taken.taken in (
      stays-within words i count c.loop-index-test.true c.in_ok-taken.ensures.within,
      goes-on (given_from (as_rows c.args.rows.now) c.args.takes_files) words i count _ _ _ _ c.loop-index-test.true
          c.in_ok-taken.ensures.taken
          c.loop-index.invariant.1,
    )
