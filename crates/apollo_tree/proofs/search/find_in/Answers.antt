use Rattle.std.proofs.Common.{◌∙◌, sym, map, arith}
use Rattle.apollo_tree.proofs.Searches.{begins, fits, moves, goes-on, first, no-first}
use Rattle.apollo_tree.proofs.search.find_in.Goals as goal

pub loop-index-init : goal.loop-index-init
loop-index-init g c = begins (g.T.ElementTest.is_taken c.args.test) (map g.R.Packed.plain c.args.records.now)
    c.args.from c.args.to c.requires

pub overflow_add-index : goal.overflow_add-index
overflow_add-index g c =
    omega (
      arith,
      fits g.R.Packed.plain c.args.records.now (g.T.ElementTest.is_taken c.args.test) c.args.from
          c.loop-index.index c.args.to
          c.loop-index.invariant c.loop-index-test.true c.index-records-index.result c.index-records-index.is
          c.row-row.result c.row-row.ensures,
    )

pub loop-index-smaller : goal.loop-index-smaller
loop-index-smaller g c =
    omega (
      arith,
      moves g.R.Packed.plain c.args.records.now (g.T.ElementTest.is_taken c.args.test) c.args.from
          c.loop-index.index c.args.to
          c.loop-index.invariant c.loop-index-test.true c.index-records-index.result c.index-records-index.is
          c.row-row.result c.row-row.ensures,
      c.loop-index-test.true,
    )

pub loop-index-preserved : goal.loop-index-preserved
loop-index-preserved g c =
    goes-on g.R.Packed.plain c.args.records.now (g.T.ElementTest.is_taken c.args.test) c.args.from c.loop-index.index
    c.args.to c.loop-index.invariant
    c.loop-index-test.true c.index-records-index.result c.index-records-index.is c.row-row.result c.row-row.ensures
    (sym c.takes.ensures ∙ c.if-takes.false)

pub returns-then-takes : goal.returns-then-takes
returns-then-takes g c =
    first g.R.Packed.plain c.args.records.now (g.T.ElementTest.is_taken c.args.test) c.args.from c.loop-index.index
    c.args.to c.loop-index.invariant
    c.loop-index-test.true c.index-records-index.result c.index-records-index.is c.row-row.result c.row-row.ensures
    (sym c.takes.ensures ∙ c.if-takes.true)

pub returns : goal.returns
returns g c = no-first (g.T.ElementTest.is_taken c.args.test) (map g.R.Packed.plain c.args.records.now) c.args.from
    c.loop-index.index c.args.to
    c.loop-index.invariant (omega (arith, c.loop-index-test.false))
