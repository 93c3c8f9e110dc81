use Rattle.std.proofs.Common.{◌≡◌}
use Rattle.c_validation.proofs.Reports.{first}
use Rattle.c_validation.proofs.violation_rows.report_of.Given as goal
use Rattle.c_validation.specs.Rows.{messages, violation_rows}

-- the violations that were passed have their rows and messages
abbrev pub invariant-loop-violation : goal.invariant-loop-violation
invariant-loop-violation l = record {
  rows_are : l.rows.items ≡ violation_rows 0 (first l.violation-index l.violations);
  messages_are : l.messages.items ≡ messages (first l.violation-index l.violations);
}
