-- How a run ends where writing ends before the end.
use Rattle.std.proofs.Common.{◌≡◌, ℕ, List, subst, ◌∙◌}
use Rattle.std.specs.Prelude.{Err}
use Rattle.std.specs.Str.{IsUtf8}
use Rattle.byte_streams.specs.Devices.{Account, moved, stopped}
use Rattle.byte_streams.specs.Runs.{IsWritten, Reads, Writes}
use Rattle.byte_streams.specs.Writing.{EndsWriting}
use Rattle.byte_streams.specs.declared.fault.Fault.{Fault}
use Rattle.byte_streams.specs.declared.fault.Fault.TheVariants.{Read, Utf8, Memory, Write}

module _ {T : Type 0} (IsOutput : List ℕ → T → List ℕ → Type 0) where
  cut_off : (fault : Fault) (input : List ℕ) (outcome : T) (output : List ℕ) (r r' w w' : Account)
      → r' ≡ stopped (moved r input) → IsUtf8 input
      → IsOutput input outcome output
      → EndsWriting fault output w w' → Reads {T = T} (Err fault) input r r' × Writes IsOutput (Err fault) input w w'
  cut_off Write input outcome output r r' w w' read text made broken = (
    read,
    record { utf8 = text; outcome = outcome; output = output; made = made; broken = broken },
  )
  cut_off Read input outcome output r r' w w' read text made broken = absurd broken
  cut_off Utf8 input outcome output r r' w w' read text made broken = absurd broken
  cut_off Memory input outcome output r r' w w' read text made broken = absurd broken

  -- the same, of the input as a text, and of the output as bytes
  pub cut : (fault : Fault) (outcome : T) (input slice source output bytes : List ℕ) (r r' w w' : Account)
      → r' ≡ stopped (moved r input) → slice ≡ input
      → (source ≡ slice) × IsUtf8 slice → IsOutput source outcome output → bytes ≡ output → EndsWriting fault bytes w w'
      → Reads {T = T} (Err fault) input r r' × Writes IsOutput (Err fault) input w w'
  cut fault outcome input slice source output bytes r r' w w' read whole text made all broken =
      cut_off fault input outcome output r r' w w' read (subst IsUtf8 whole text.1)
      (subst (λ (s : List ℕ). IsOutput s outcome output) (text.0 ∙ whole) made)
      (subst (λ (bs : List ℕ). EndsWriting fault bs w w') all broken)

  -- how it ends where all is written
  pub whole : (outcome : T) (input slice source output : List ℕ) (w w' : Account) → slice ≡ input
      → (source ≡ slice) × IsUtf8 slice
      → IsOutput source outcome output
      → w' ≡ moved w output → IsWritten IsOutput outcome input w w'
  whole outcome input slice source output w w' same text made taken = record {
    utf8 = subst IsUtf8 same text.1;
    output = output;
    made = subst (λ (s : List ℕ). IsOutput s outcome output) (text.0 ∙ same) made;
    taken = taken;
  }
