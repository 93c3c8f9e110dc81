-- A conversation through a reader and a writer.
use Rattle.std.specs.Prelude.{◌≡◌, ◌⊎◌, ℕ, ◌+◌, ◌≤◌, ◌^◌, List, ◌++◌, length, Option, Some, None}
use Rattle.byte_streams.specs.Devices.{Account, moved, stopped, failed}
use Rattle.byte_streams.specs.Writing.{IsBroken}
use Rattle.byte_streams.specs.declared.fault.Fault.{Fault}
use Rattle.byte_streams.specs.declared.fault.Fault.TheVariants.{Read, Utf8, Memory, Write}
use Rattle.rpc_messages.specs.declared.reply.Reply.{Reply}
use Rattle.rpc_serving.specs.Exchange.{Exchange}

-- The run ends with this status, after these bytes: at the notification `exit`, or at the end of the input. No more
-- than 2 ^ 64 - 1 reads are made.
abbrev pub EndsWith : Option ℕ → ℕ → ℕ → Account → Account → Type 0
EndsWith (Some asked) status count now end = (status ≡ asked) × (end ≡ now)
EndsWith None status count now end = (status ≡ 1) × ((end ≡ stopped now) ⊎ ((end ≡ now) × (2 ^ 64 ≤ count + 1)))

-- what was written is what the service says, in the conversation about the bytes that were read, from the state that it
-- began in
pub record IsServed
    {S : Type 0} (takes : List ℕ → S → Reply → S → Type 0) (first last : S) (status : ℕ)
    (read_old read_new write_old write_new : Account) : Type 0 where
  pub input : List ℕ
  pub output : List ℕ
  pub left : List ℕ
  pub asked : Option ℕ
  pub exchange : Exchange takes first input output left asked last
  pub ends : EndsWith asked status (length input) (moved read_old input) read_new
  pub written : write_new ≡ moved write_old output

module _ {S : Type 0} (takes : List ℕ → S → Reply → S → Type 0) (first last : S)
    (read_old read_new write_old write_new : Account) where
  -- the reader failed: all is written that the service says, in the conversation about the bytes that were read
  pub record EndsReading : Type 0 where
    pub input : List ℕ
    pub output : List ℕ
    pub left : List ℕ
    pub exchange : Exchange takes first input output left None last
    pub read : read_new ≡ failed (moved read_old input)
    pub written : write_new ≡ moved write_old output

  -- the writer failed: a beginning is written of the service's output, in the conversation about the bytes that were
  -- read
  pub record EndsWriting : Type 0 where
    pub input : List ℕ
    pub output : List ℕ
    pub left : List ℕ
    pub asked : Option ℕ
    pub exchange : Exchange takes first input output left asked last
    pub read : read_new ≡ moved read_old input
    pub written : IsBroken output write_old write_new

  -- Memory was refused after the last read: all is written that the service says, in the conversation about the bytes
  -- that were read before it. No read gives more than 65536 bytes.
  pub record EndsWithoutMemory : Type 0 where
    pub input : List ℕ
    pub more : List ℕ
    pub output : List ℕ
    pub left : List ℕ
    pub middle : S
    pub exchange : Exchange takes first input output left None middle
    pub read : read_new ≡ moved read_old (input ++ more)
    pub few : length more ≤ 65536
    pub written : write_new ≡ moved write_old output

  -- What was written when a run fails. What the client sends makes none fail: the reader failed, the writer failed, or
  -- memory was refused.
  abbrev pub EndsServing : Fault → Type 0
  EndsServing Read = EndsReading
  EndsServing Write = EndsWriting
  EndsServing Memory = EndsWithoutMemory
  EndsServing Utf8 = ⊥
