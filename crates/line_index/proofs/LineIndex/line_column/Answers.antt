use Rattle.std.proofs.Common.{arith}
use Rattle.line_index.proofs.LineIndex.line_column.Goals as goal
use Rattle.line_index.proofs.LineLemmas.{starts-ordered, starts-first, found}

pub last_up_to-line-requires-clause-first : goal.last_up_to-line-requires-clause-first
last_up_to-line-requires-clause-first g c =
    rw c.as_slice.ensures.value (omega (arith, (starts-first _ _ _ c.self.invariant.starts).1))

pub last_up_to-line-requires-clause-ordered : goal.last_up_to-line-requires-clause-ordered
last_up_to-line-requires-clause-ordered g c = rw c.as_slice.ensures.value (starts-ordered _ _ _ c.self.invariant.starts)

pub returns-clause-line : goal.returns-clause-line
returns-clause-line g c =
    let at = c.last_up_to-line.ensures in
    (found _ _ _ _ _ _ _ c.self.view_is c.as_slice.ensures.value c.self.invariant.starts c.requires at.within at.up_to
    at.last c.index.ensures).0

pub returns-clause-column : goal.returns-clause-column
returns-clause-column g c =
    let at = c.last_up_to-line.ensures in
    (found _ _ _ _ _ _ _ c.self.view_is c.as_slice.ensures.value c.self.invariant.starts c.requires at.within at.up_to
    at.last c.index.ensures).1
