-- What is known of a reader or a writer: the calls on it so far.
use Rattle.std.specs.Prelude.{ℕ, zero, suc, ◌+◌, List, [], ◌++◌, take, Result, Ok, Err}

-- The bytes that went through a device, how often it stopped (a reader at its end, a writer that took no byte), and how
-- often it failed.
pub record Account : Type 0 where
  pub bytes : List ℕ
  pub stops : ℕ
  pub failures : ℕ

-- before the first call
abbrev pub nothing_moved : Account
nothing_moved = record { bytes = []; stops = 0; failures = 0 }

-- these bytes went through
abbrev pub moved : Account → List ℕ → Account
moved a bytes = record { bytes = a.bytes ++ bytes; stops = a.stops; failures = a.failures }

abbrev pub stopped : Account → Account
stopped a = record { bytes = a.bytes; stops = a.stops + 1; failures = a.failures }

abbrev pub failed : Account → Account
failed a = record { bytes = a.bytes; stops = a.stops; failures = a.failures + 1 }

-- A call over a buffer answered so: its first n bytes went through, or it stopped, or it failed.
abbrev pub after : {E : Type 0} → Account → Result ℕ E → List ℕ → Account
after a (Ok zero) buffer = stopped a
after a (Ok (suc n)) buffer = moved a (take (suc n) buffer)
after a (Err e) buffer = failed a
