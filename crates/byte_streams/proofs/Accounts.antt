-- Accounts, one call after the other.
use Rattle.std.proofs.Common.{◌≡◌, ℕ, zero, suc, ◌-◌, ◌<◌, ◌≤◌, inl, inr, List, [], ◌++◌, length, take, drop, refl, sym}
use Rattle.std.proofs.Common.{ap, ◌∙◌, append_assoc, subst}
use Rattle.std.proofs.lemmas.List.{take-append-drop, append-nil, take_rest}
use Rattle.std.specs.Prelude.{◌≢◌, Result, Ok}
use Rattle.byte_streams.specs.Devices.{Account, moved, stopped, failed, after}
use Rattle.byte_streams.specs.Writing.{IsTaken, IsBroken}

-- nothing went through
pub moved_nil : (a : Account) → moved a [] ≡ a
moved_nil a = ap (λ (bytes : List ℕ). record a { bytes = bytes }) (append-nil a.bytes)

-- some bytes went through, and then some more
pub moved_moved : (a : Account) (front more : List ℕ) → moved (moved a front) more ≡ moved a (front ++ more)
moved_moved a front more = ap (λ (bytes : List ℕ). record a { bytes = bytes }) (append_assoc a.bytes front more)

-- at the beginning none of the bytes was taken
pub taken_none : (bytes : List ℕ) (a : Account) → IsTaken bytes bytes a a
taken_none bytes a = record { written = []; joined = refl; account = sym (moved_nil a) }

-- n of the bytes that are left are taken
pub taken-more : (n : ℕ) (bytes rest : List ℕ) (old now : Account) → IsTaken bytes rest old now
    → IsTaken bytes (drop n rest) old (moved now (take n rest))
taken-more n bytes rest old now t = record {
  written = t.written ++ take n rest;
  joined = t.joined ∙ (ap (λ (more : List ℕ). t.written ++ more) (sym (take-append-drop n rest))
      ∙ sym (append_assoc t.written (take n rest) (drop n rest)));
  account = ap (λ (a : Account). moved a (take n rest)) t.account ∙ moved_moved old t.written (take n rest);
}

-- at the end all of them are
pub taken_all : (bytes : List ℕ) (old now : Account) → IsTaken bytes [] old now → now ≡ moved old bytes
taken_all bytes old now t = t.account ∙ ap (moved old) (sym (append-nil t.written) ∙ sym t.joined)

-- some are left where the writer fails
pub taken_failed : (bytes rest : List ℕ) (old now : Account) → IsTaken bytes rest old now → 0 < length rest
    → IsBroken bytes old (failed now)
taken_failed bytes rest old now t some =
    record { written = t.written; rest = rest; joined = t.joined; more = some; ends = inl (ap failed t.account) }

-- some are left where it takes none
pub taken_stopped : (bytes rest : List ℕ) (old now : Account) → IsTaken bytes rest old now → 0 < length rest
    → IsBroken bytes old (stopped now)
taken_stopped bytes rest old now t some =
    record { written = t.written; rest = rest; joined = t.joined; more = some; ends = inr (ap stopped t.account) }

-- a call of the writer took some of the bytes that are left
pub taken_call : {E : Type 0} (r : Result ℕ E) (n : ℕ) (bytes rest : List ℕ) (old now new : Account)
    → IsTaken bytes rest old now → r ≡ Ok n → n ≢ 0
    → n ≤ length rest → new ≡ after now r rest
    → IsTaken bytes (take (length rest - n) (drop n rest)) old new
taken_call r zero bytes rest old now new t e some within a = absurd (some refl)
taken_call r (suc n) bytes rest old now new t e some within a =
    rw (a, e) (subst (λ (more : List ℕ). IsTaken bytes more old (moved now (take (suc n) rest)))
    (sym (take_rest rest (suc n)))
    (taken-more (suc n) bytes rest old now t))

-- a call of the reader gave some bytes
pub gave : {E : Type 0} (r : Result ℕ E) (n : ℕ) (bytes buffer : List ℕ) (old now new : Account)
    → now ≡ moved old bytes → r ≡ Ok n → n ≢ 0
    → new ≡ after now r buffer → new ≡ moved old (bytes ++ take n buffer)
gave r zero bytes buffer old now new before e some a = absurd (some refl)
gave r (suc n) bytes buffer old now new before e some a =
    rw (a, e, before) (moved_moved old bytes (take (suc n) buffer))
