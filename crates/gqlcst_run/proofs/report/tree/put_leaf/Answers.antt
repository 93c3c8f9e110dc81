use Rattle.gqlcst_run.proofs.report.tree.put_leaf.Goals as goal

pub returns : goal.returns
returns g c = record { output = _; puts = c.put_quoted_after.ensures.puts }
