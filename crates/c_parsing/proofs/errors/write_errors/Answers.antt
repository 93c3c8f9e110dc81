use Rattle.std.proofs.Common.{arith, ◌∙◌, ◌<◌, sym, subst, length}
use Rattle.apollo_tree.proofs.Filling.{filled-as-far}
use Rattle.c_parsing.proofs.Messages.{length-error_rows, next-fits, next-offset, next-row}
use Rattle.c_parsing.proofs.errors.write_errors.Goals as goal
use Rattle.c_parsing.specs.Rows.{EndFits, error_rows}

pub row_of-requires : goal.row_of-requires
row_of-requires g c =
    let here : c.loop-index.index < length c.args.errors.now = omega arith in
    subst EndFits (sym c.index-errors-index.is) (c.requires.ends c.loop-index.index c.index-errors-index.result here)

pub overflow_add-message : goal.overflow_add-message
overflow_add-message g c =
    let here : c.loop-index.index < length c.args.errors.now = omega arith in
    omega (
      arith,
      c.requires.bytes,
      next-fits c.args.errors.now c.loop-index.index c.loop-index.message
          c.index-errors-index.result c.message.result.now
          c.index-errors-index.is c.message.ensures c.loop-index.invariant.offset here,
    )

pub loop-index-preserved : goal.loop-index-preserved
loop-index-preserved g c =
    let here : c.loop-index.index < length c.args.errors.now = omega arith in
    let room : c.loop-index.index < length c.args.rows.now = omega arith in
    record {
      offset = next-offset c.args.errors.now c.loop-index.index c.loop-index.message c.index-errors-index.result
          c.message.result.now c.index-errors-index.is
          c.message.ensures c.loop-index.invariant.offset here;
      rows = next-row c.args.rows.now c.loop-index.rows c.args.errors.now c.loop-index.index c.loop-index.message
          c.index-errors-index.result c.row_of.result
          c.loop-index.invariant.rows c.index-errors-index.is c.row_of.ensures c.loop-index.invariant.offset room here;
    }

pub returns : goal.returns
returns g c = c.loop-index.invariant.rows
    ∙ filled-as-far c.args.rows.now (error_rows 0 c.args.errors.now) c.loop-index.index
    (omega (arith, length-error_rows 0 c.args.errors.now))
