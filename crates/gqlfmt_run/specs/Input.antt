-- What is written of standard input.
use Rattle.std.specs.Prelude.{◌≡◌, ◌≢◌, ℕ, List, [], Result, Ok, Err}
use Rattle.byte_streams.specs.Devices.{Account, moved}
use Rattle.byte_streams.specs.Writing.{IsBroken}
use Rattle.byte_streams.specs.declared.fault.Fault.{Fault}
use Rattle.byte_streams.specs.declared.fault.Fault.TheVariants as fault
use Rattle.command_lines.specs.declared.gqlfmt.Mode.{Mode}
use Rattle.command_lines.specs.declared.gqlfmt.Mode.TheVariants.{Write, Check, Diff, Print}
use Rattle.gqlfmt_run.specs.Formatting.{HasAnotherLayout, IsDiff, IsLaidOut, IsListing, IsRefused}
use Rattle.gqlfmt_run.specs.declared.job.Bounds.{Bounds}
use Rattle.gqlfmt_run.specs.declared.settlement.Settled.{Settled}
use Rattle.gqlfmt_run.specs.declared.settlement.Settled.TheVariants.{Done, Found, Refused}

-- What is written of a text of this name, by the outcome for it. In the modes write and print that is the formatted
-- text. In the modes check and diff it is nothing where the text has the layout. Where it has another one, it is the
-- name as a line, or the changes under the name. Nothing is written of a text that is refused.
abbrev pub IsOutput : Mode → Bounds → List ℕ → List ℕ → Settled → List ℕ → Type 0
IsOutput Write bounds name source Done output = IsLaidOut bounds source output
IsOutput Print bounds name source Done output = IsLaidOut bounds source output
IsOutput Check bounds name source Done output = IsLaidOut bounds source source × (output ≡ [])
IsOutput Diff bounds name source Done output = IsLaidOut bounds source source × (output ≡ [])
IsOutput Check bounds name source Found output = HasAnotherLayout bounds source × IsListing name output
IsOutput Diff bounds name source Found output = HasAnotherLayout bounds source × IsDiff name output
IsOutput mode bounds name source Found output = ⊥
IsOutput mode bounds name source Refused output = IsRefused bounds source × (output ≡ [])

-- What is written of a source that has this name and this formatted text, by the outcome for it.
abbrev pub IsShown : Mode → List ℕ → List ℕ → List ℕ → Settled → List ℕ → Type 0
IsShown Write name source text Done output = output ≡ text
IsShown Print name source text Done output = output ≡ text
IsShown Check name source text Done output = (text ≡ source) × (output ≡ [])
IsShown Diff name source text Done output = (text ≡ source) × (output ≡ [])
IsShown Check name source text Found output = (text ≢ source) × IsListing name output
IsShown Diff name source text Found output = (text ≢ source) × IsDiff name output
IsShown mode name source text settled output = ⊥

-- what is written of a text that is left alone: the text itself, and nothing in a mode that shows what would change
abbrev pub unformatted_output : Mode → List ℕ → List ℕ
unformatted_output Write source = source
unformatted_output Print source = source
unformatted_output Check source = []
unformatted_output Diff source = []

-- That is written of an input, by how that ended.
abbrev pub PassesOn : Mode → Result Settled Fault → List ℕ → Account → Account → Type 0
PassesOn mode (Ok settled) input old new = (settled ≡ Done) × (new ≡ moved old (unformatted_output mode input))
PassesOn mode (Err fault.Read) input old new = new ≡ old
PassesOn mode (Err fault.Utf8) input old new = ⊥
PassesOn mode (Err fault.Memory) input old new = new ≡ old
PassesOn mode (Err fault.Write) input old new = IsBroken (unformatted_output mode input) old new
