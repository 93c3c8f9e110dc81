-- Accounts of the reader and of the writer, one turn after the other.
use Rattle.std.proofs.Common.{◌≡◌, ℕ, zero, suc, ◌+◌, ◌≤◌, List, ◌++◌, length, take, refl, arith, length-append}
use Rattle.std.proofs.lemmas.List.{length-take}
use Rattle.std.specs.Prelude.{◌≢◌, Result, Ok, Err}
use Rattle.byte_streams.proofs.Accounts.{moved_moved}
use Rattle.byte_streams.specs.Devices.{Account, moved, stopped, failed, after}

-- the reader came to its end
pub at_end : {E : Type 0} (r : Result ℕ E) (n : ℕ) (buffer : List ℕ) (old now new : Account) → now ≡ old → r ≡ Ok n
    → n ≡ 0 → new ≡ after now r buffer
    → new ≡ stopped old
at_end r n buffer old now new before e none a = rw (a, e, none, before) refl

-- the reader failed
pub broke : {E : Type 0} (r : Result ℕ E) (error : E) (buffer : List ℕ) (old now new : Account) → now ≡ old
    → r ≡ Err error → new ≡ after now r buffer
    → new ≡ failed old
broke r error buffer old now new before e a = rw (a, e, before) refl

-- the writer took what is said
pub wrote : (out bytes said : List ℕ) (old now new : Account) → now ≡ moved old out → new ≡ moved now bytes
    → bytes ≡ said → new ≡ moved old (out ++ said)
wrote out bytes said old now new before w is = rw (w, is, before) (moved_moved old out said)

-- a read that gives some bytes
pub longer : (k n : ℕ) (input buffer : List ℕ) → k ≤ length input → n ≢ 0 → n ≤ length buffer
    → k + 1 ≤ length (input ++ take n buffer)
longer k zero input buffer so some within = absurd (some refl)
longer k (suc n) input buffer so some within =
    omega (arith, so, within, length-append input (take (suc n) buffer), length-take (suc n) buffer)
