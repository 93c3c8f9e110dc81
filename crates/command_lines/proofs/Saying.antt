-- A text that is said in two parts.
use Rattle.std.proofs.Common.{◌≡◌, ℕ, inl, inr, List, ◌++◌, length-append, append_assoc, sym, ap, ◌∙◌, subst, arith}
use Rattle.byte_streams.proofs.Accounts.{moved_moved}
use Rattle.byte_streams.specs.Devices.{Account, moved, stopped, failed}
use Rattle.byte_streams.specs.Writing.{IsBroken, EndsWriting}
use Rattle.byte_streams.specs.declared.fault.Fault.{Fault}
use Rattle.byte_streams.specs.declared.fault.Fault.TheVariants.{Read, Utf8, Memory, Write}
use Rattle.command_lines.specs.Streams.{IsSaid}

-- whatever the fault is called, the writer broke off
broken-off : (fault : Fault) (text : List ℕ) (old new : Account) → EndsWriting fault text old new
    → IsBroken text old new
broken-off Write text old new ends = ends
broken-off Read text old new ends = absurd ends
broken-off Utf8 text old new ends = absurd ends
broken-off Memory text old new ends = absurd ends

-- in the first of two texts
broken-first : (front more : List ℕ) (old new : Account) → IsBroken front old new → IsBroken (front ++ more) old new
broken-first front more old new b = record {
  written = b.written;
  rest = b.rest ++ more;
  joined = ap (λ (text : List ℕ). text ++ more) b.joined ∙ append_assoc b.written b.rest more;
  more = omega (arith, length-append b.rest more, b.more);
  ends = b.ends;
}

-- in the second of them
broken-second : (front more : List ℕ) (old new : Account) → IsBroken more (moved old front) new
    → IsBroken (front ++ more) old new
broken-second front more old new b = record {
  written = front ++ b.written;
  rest = b.rest;
  joined = ap (λ (text : List ℕ). front ++ text) b.joined ∙ sym (append_assoc front b.written b.rest);
  more = b.more;
  ends = elim b.ends [
    | inl e ↦ inl (e ∙ ap failed (moved_moved old front b.written))
    | inr e ↦
        inr (e ∙ ap stopped (moved_moved old front b.written))
  ];
}

-- the same, by the bytes that were written
pub broken_page : (fault : Fault) (page bytes : List ℕ) (old new : Account) → bytes ≡ page
    → EndsWriting fault bytes old new → IsBroken page old new
broken_page fault page bytes old new same ends =
    broken-off fault page old new (subst (λ (b : List ℕ). EndsWriting fault b old new) same ends)

pub said_first : (fault : Fault) (front more bytes : List ℕ) (old new : Account) → bytes ≡ front
    → EndsWriting fault bytes old new
    → IsSaid (front ++ more) old new
said_first fault front more bytes old new same ends =
    inr (broken-first front more old new (broken_page fault front bytes old new same ends))

pub said_second : (front more bytes : List ℕ) (old middle new : Account) → bytes ≡ front → middle ≡ moved old bytes
    → IsSaid more middle new
    → IsSaid (front ++ more) old new
said_second front more bytes old middle new same taken said =
    elim (subst (λ (a : Account). IsSaid more a new) (taken ∙ ap (moved old) same) said) [
      | inl e ↦ inl (e ∙ moved_moved old front more)
      | inr b ↦ inr (broken-second front more old new b)
    ]
