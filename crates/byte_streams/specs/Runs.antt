-- What the reader and the writer of a run did, by how the run ended.
use Rattle.std.specs.Prelude.{◌≡◌, ◌⊎◌, ℕ, List, Result, Ok, Err}
use Rattle.std.specs.Str.{IsUtf8}
use Rattle.byte_streams.specs.Devices.{Account, moved, stopped, failed}
use Rattle.byte_streams.specs.Writing.{IsBroken}
use Rattle.byte_streams.specs.declared.fault.Fault.{Fault}
use Rattle.byte_streams.specs.declared.fault.Fault.TheVariants.{Read, Utf8, Memory, Write}

-- What the reader did: it gave the input and then stopped at its end, unless it failed, or memory was refused before.
abbrev pub Reads : {T : Type 0} → Result T Fault → List ℕ → Account → Account → Type 0
Reads (Err Read) input old new = new ≡ failed (moved old input)
Reads (Err Memory) input old new = (new ≡ moved old input) ⊎ (new ≡ stopped (moved old input))
Reads (Err Utf8) input old new = new ≡ stopped (moved old input)
Reads (Err Write) input old new = new ≡ stopped (moved old input)
Reads (Ok outcome) input old new = new ≡ stopped (moved old input)

-- `IsOutput input outcome output` is the output for an input, by its outcome
module _ {T : Type 0} (IsOutput : List ℕ → T → List ℕ → Type 0) where
  -- all that is written of the input, which is UTF-8, was taken
  pub record IsWritten (outcome : T) (input : List ℕ) (old new : Account) : Type 0 where
    pub utf8 : IsUtf8 input
    pub output : List ℕ
    pub made : IsOutput input outcome output
    pub taken : new ≡ moved old output

  -- a beginning of it was, and then the writer failed or took no byte
  pub record IsBrokenOff (input : List ℕ) (old new : Account) : Type 0 where
    pub utf8 : IsUtf8 input
    pub outcome : T
    pub output : List ℕ
    pub made : IsOutput input outcome output
    pub broken : IsBroken output old new

  -- what the writer did
  abbrev pub Writes : Result T Fault → List ℕ → Account → Account → Type 0
  Writes (Err Read) input old new = new ≡ old
  Writes (Err Memory) input old new = new ≡ old
  Writes (Err Utf8) input old new = ¬ IsUtf8 input × (new ≡ old)
  Writes (Err Write) input old new = IsBrokenOff input old new
  Writes (Ok outcome) input old new = IsWritten outcome input old new
