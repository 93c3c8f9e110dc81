use Rattle.std.proofs.Common.{arith}
use Rattle.ignore_rules.proofs.TableLemmas.{first_table}
use Rattle.ignore_rules.proofs.fit_table.fit.Goals as goal

pub returns-clause-value : goal.returns-clause-value
returns-clause-value g c =
    (c.fit_in-window.ensures.places
    (first_table c.args.path.now c.args.table.now c.requires.room c.requires.clear)).answers 0 (omega arith)

pub returns-clause-clear : goal.returns-clause-clear
returns-clause-clear g c =
    c.clear.ensures (c.fit_in-window.ensures.places
    (first_table c.args.path.now c.args.table.now c.requires.room c.requires.clear)).within
