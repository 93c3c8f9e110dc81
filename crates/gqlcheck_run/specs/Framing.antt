-- What a run prints before the texts and after them.
use Rattle.std.specs.Prelude.{◌≡◌, ◌==◌, ◌⊎◌, ℕ, max, Bool, false, List, [], if◌then◌else◌}
use Rattle.byte_streams.specs.Devices.{Account}
use Rattle.command_lines.specs.Streams.{IsPrinted, IsSaid, no_memory}
use Rattle.command_lines.specs.declared.gqlcheck.Format.{Format}
use Rattle.command_lines.specs.declared.gqlcheck.Format.TheVariants.{Text, Json, Github, Sarif}
use Rattle.gqlcheck_run.specs.declared.command.TheConstants.{PROGRAM}
use Rattle.gqlcheck_run.specs.declared.job.Printing.{Printing}
use Rattle.gqlcheck_run.specs.declared.sarif_log.TheConstants.{HEAD, TAIL, INCOMPLETE_TAIL}

-- before them: a SARIF log begins
abbrev pub opening : Format → List ℕ
opening Text = []
opening Json = []
opening Github = []
opening Sarif = HEAD.now

-- After them, by the format, whether figures are wanted, and the status of the texts: the log ends, and says whether
-- all of them were checked. For people there may be a line with a count, but none where all of them pass. If figures
-- are wanted, a line with the greatest of them may follow, in JSON too. The words of these lines are not stated.
abbrev pub IsClosing : Format → Bool → ℕ → List ℕ → Type 0
IsClosing Text figures status closing = figures ≡ false → status ≡ 0 → closing ≡ []
IsClosing Json figures status closing = figures ≡ false → closing ≡ []
IsClosing Github figures status closing = closing ≡ []
IsClosing Sarif figures status closing = closing ≡ (if status == 2 then INCOMPLETE_TAIL.now else TAIL.now)

-- It is printed, and the greater of both statuses is the run's. Where memory is refused for it, that is said.
abbrev pub Closes : Printing → ℕ → ℕ → Account → Account → Account → Account → Type 0
Closes printing texts status old new old_complaints new_complaints =
    ((closing : List ℕ) × (printed : ℕ) × IsClosing printing.format printing.figures texts closing
    × (status ≡ max texts printed) × IsPrinted PROGRAM.now closing printed old new old_complaints new_complaints)
    ⊎ ((status ≡ 2) × (new ≡ old) × IsSaid (no_memory PROGRAM.now) old_complaints new_complaints)
