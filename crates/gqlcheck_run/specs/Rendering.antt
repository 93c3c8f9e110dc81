-- What the output for some findings begins with.
use Rattle.std.specs.Prelude.{ℕ, List, length, min}
use Rattle.marked_lines.specs.Places.{OfFirst}
use Rattle.document_checks.specs.declared.report.Finding.{Finding}
use Rattle.command_lines.specs.declared.gqlcheck.Format.{Format}
use Rattle.gqlcheck_run.specs.Places.{BeginsAt}

-- the place of the first one, if there is one; a finding beyond the text is at its end
abbrev pub BeginsAtFirst : Format → List ℕ → List ℕ → List Finding → List ℕ → Type 0
BeginsAtFirst format name source findings output =
    OfFirst (λ finding. BeginsAt format finding.is_warning name source (min finding.start (length source)) output)
    findings
