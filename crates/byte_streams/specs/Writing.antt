-- How far writing some bytes has come.
use Rattle.std.specs.Prelude.{◌≡◌, ℕ, ◌<◌, ◌⊎◌, List, ◌++◌, length}
use Rattle.byte_streams.specs.Devices.{Account, moved, stopped, failed}
use Rattle.byte_streams.specs.declared.fault.Fault.{Fault}
use Rattle.byte_streams.specs.declared.fault.Fault.TheVariants.{Read, Utf8, Memory, Write}

-- the writer took a beginning of the bytes, and these are left
pub record IsTaken (bytes rest : List ℕ) (old new : Account) : Type 0 where
  pub written : List ℕ
  pub joined : bytes ≡ written ++ rest
  pub account : new ≡ moved old written

-- the writer took a beginning of the bytes, not all, and then it failed or took none
pub record IsBroken (bytes : List ℕ) (old new : Account) : Type 0 where
  pub written : List ℕ
  pub rest : List ℕ
  pub joined : bytes ≡ written ++ rest
  pub more : 0 < length rest
  pub ends : (new ≡ failed (moved old written)) ⊎ (new ≡ stopped (moved old written))

abbrev pub EndsWriting : Fault → List ℕ → Account → Account → Type 0
EndsWriting Write bytes old new = IsBroken bytes old new
EndsWriting Read bytes old new = ⊥
EndsWriting Memory bytes old new = ⊥
EndsWriting Utf8 bytes old new = ⊥
