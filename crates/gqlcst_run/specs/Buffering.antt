-- What was put in a buffer, and how much of it the writer has.
use Rattle.std.specs.Prelude.{◌≡◌, ℕ, Bool, true, false, List, [], ◌++◌, take, Result, Ok, Err}
use Rattle.byte_streams.specs.Devices.{Account, moved}
use Rattle.byte_streams.specs.Writing.{IsTaken, IsBroken, EndsWriting}
use Rattle.byte_streams.specs.declared.fault.Fault.{Fault}
use Rattle.gqlcst_run.specs.declared.output_buffer.OutputBuffer.{OutputBuffer}

-- a buffer, and the account of the writer that it goes to
abbrev pub Buffered : Type 0
Buffered = OutputBuffer × Account

-- what is in the buffer and was not written yet
abbrev pub waiting : OutputBuffer → List ℕ
waiting buffer = take buffer.filled buffer.bytes

-- nothing was put in the buffer
abbrev pub IsEmpty : OutputBuffer → Type 0
IsEmpty buffer = (waiting buffer ≡ []) × (buffer.is_broken ≡ false)

abbrev pub HasTaken : Bool → List ℕ → List ℕ → Account → Account → Type 0
HasTaken true bytes rest old new = IsBroken bytes old new
HasTaken false bytes rest old new = IsTaken bytes rest old new

-- These bytes were put in the buffer since the writer had the old account: it took all but what waits, or it took a
-- beginning of them, not all, and then it failed or took none.
abbrev pub IsPut : List ℕ → Account → Buffered → Type 0
IsPut bytes old now = HasTaken now.0.is_broken bytes (waiting now.0) old now.1

-- Some more bytes were put.
pub record Puts (old : Buffered) (more : List ℕ) (new : Buffered) : Type 0 where
  pub after : (bytes : List ℕ) (start : Account) → IsPut bytes start old → IsPut (bytes ++ more) start new

-- An output of some sort was put.
pub record PutsSome (IsOutput : List ℕ → Type 0) (old new : Buffered) : Type 0 where
  pub output : List ℕ
  pub made : IsOutput output
  pub puts : Puts old output new

-- Some output was put. What it is is not stated.
pub record PutsAny (old new : Buffered) : Type 0 where
  pub output : List ℕ
  pub puts : Puts old output new

-- All that was put is written, or not, and then the writer failed or took none.
abbrev pub Finishes : Result (Unit {0}) Fault → Buffered → Account → Type 0
Finishes (Ok _) old new = (bytes : List ℕ) (start : Account) → IsPut bytes start old → new ≡ moved start bytes
Finishes (Err fault) old new =
    (bytes : List ℕ) (start : Account) → IsPut bytes start old → EndsWriting fault bytes start new
