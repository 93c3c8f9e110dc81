-- Buffers, one call after the other.
use Rattle.std.proofs.Common.{◌≡◌, ℕ, ◌<◌, ◌⊎◌, Bool, true, false, inl, inr, List, [], ◌++◌, length, length-append, sym}
use Rattle.std.proofs.Common.{ap, ◌∙◌, append_assoc, subst, arith}
use Rattle.std.proofs.lemmas.List.{append-nil}
use Rattle.byte_streams.proofs.Accounts.{moved_moved, taken_none, taken_all}
use Rattle.byte_streams.specs.Devices.{Account, moved, stopped, failed}
use Rattle.byte_streams.specs.Writing.{IsTaken, IsBroken, EndsWriting}
use Rattle.byte_streams.specs.declared.fault.Fault.{Fault}
use Rattle.byte_streams.specs.declared.fault.Fault.TheVariants.{Read, Utf8, Memory, Write}
use Rattle.gqlcst_run.specs.Buffering.{Buffered, waiting, IsEmpty, HasTaken, IsPut, Puts, PutsSome, PutsAny}
use Rattle.gqlcst_run.specs.Passing.{IsPassed}
use Rattle.gqlcst_run.specs.declared.output_buffer.OutputBuffer.{OutputBuffer}

-- where writing ends before the end, the bytes are broken off
pub ends_broken : (fault : Fault) (bytes : List ℕ) (old new : Account) → EndsWriting fault bytes old new
    → IsBroken bytes old new
ends_broken Write bytes old new broken = broken
ends_broken Read bytes old new broken = absurd broken
ends_broken Utf8 bytes old new broken = absurd broken
ends_broken Memory bytes old new broken = absurd broken

-- nothing is put
pub puts_nothing : (s : Buffered) → Puts s [] s
puts_nothing s = record {
  after =
      λ bytes start is. subst (λ (bs : List ℕ). IsPut bs start s) (sym (append-nil bytes)) is;
}

-- some bytes are put, and then some more
pub puts_then : (s t u : Buffered) (front more : List ℕ) → Puts s front t → Puts t more u → Puts s (front ++ more) u
puts_then s t u front more p q = record {
  after = λ bytes start is. subst (λ (bs : List ℕ). IsPut bs start u) (append_assoc bytes front more)
      (q.after (bytes ++ front) start (p.after bytes start is));
}

-- some output is put, and then some more
pub any_none : (s : Buffered) → PutsAny s s
any_none s = record { output = []; puts = puts_nothing s }

pub any_of : (s t : Buffered) (output : List ℕ) → Puts s output t → PutsAny s t
any_of s t output p = record { output = output; puts = p }

pub any_then : (s t u : Buffered) (more : List ℕ) → PutsAny s t → Puts t more u → PutsAny s u
any_then s t u more p q = record { output = p.output ++ more; puts = puts_then s t u p.output more p.puts q }

pub any_any : (s t u : Buffered) → PutsAny s t → PutsAny t u → PutsAny s u
any_any s t u p q = any_then s t u q.output p q.puts

pub any_some : (IsOutput : List ℕ → Type 0) (s t u : Buffered) → PutsAny s t → PutsSome IsOutput t u → PutsAny s u
any_some IsOutput s t u p q = any_then s t u q.output p q.puts

some-more : (rest more : List ℕ) → 0 < length rest → 0 < length (rest ++ more)
some-more rest more some = omega (arith, length-append rest more)

ends-after : (old now new : Account) (front more : List ℕ) → now ≡ moved old front
    → (new ≡ failed (moved now more)) ⊎ (new ≡ stopped (moved now more))
    → (new ≡ failed (moved old (front ++ more))) ⊎ (new ≡ stopped (moved old (front ++ more)))
ends-after old now new front more is (inl e) =
    inl (e ∙ ap failed (ap (λ (a : Account). moved a more) is ∙ moved_moved old front more))
ends-after old now new front more is (inr e) =
    inr (e ∙ ap stopped (ap (λ (a : Account). moved a more) is ∙ moved_moved old front more))

-- more bytes come after those that the writer broke off
broken-more : (bytes more : List ℕ) (old new : Account) → IsBroken bytes old new → IsBroken (bytes ++ more) old new
broken-more bytes more old new b = record {
  written = b.written;
  rest = b.rest ++ more;
  joined = ap (λ (bs : List ℕ). bs ++ more) b.joined ∙ append_assoc b.written b.rest more;
  more = some-more b.rest more b.more;
  ends = b.ends;
}

-- more bytes wait
taken-waits : (bytes rest more : List ℕ) (old new : Account) → IsTaken bytes rest old new
    → IsTaken (bytes ++ more) (rest ++ more) old new
taken-waits bytes rest more old new t = record {
  written = t.written;
  joined = ap (λ (bs : List ℕ). bs ++ more) t.joined ∙ append_assoc t.written rest more;
  account = t.account;
}

-- what waited is taken
taken-rest : (bytes rest : List ℕ) (old now new : Account) → IsTaken bytes rest old now → new ≡ moved now rest
    → IsTaken bytes [] old new
taken-rest bytes rest old now new t is = record {
  written = bytes;
  joined = sym (append-nil bytes);
  account = is ∙ (ap (λ (a : Account). moved a rest) t.account
      ∙ (moved_moved old t.written rest ∙ ap (moved old) (sym t.joined)));
}

-- what waited is broken off
broken-rest : (bytes rest : List ℕ) (old now new : Account) → IsTaken bytes rest old now → IsBroken rest now new
    → IsBroken bytes old new
broken-rest bytes rest old now new t b = record {
  written = t.written ++ b.written;
  rest = b.rest;
  joined = t.joined ∙ (ap (λ (bs : List ℕ). t.written ++ bs) b.joined ∙ sym (append_assoc t.written b.written b.rest));
  more = b.more;
  ends = ends-after old now new t.written b.written t.account b.ends;
}

-- more bytes wait, or come after those that the writer broke off
waits : (is_broken : Bool) (bytes rest more : List ℕ) (old new : Account) → HasTaken is_broken bytes rest old new
    → HasTaken is_broken (bytes ++ more) (rest ++ more) old new
waits true bytes rest more old new h = broken-more bytes more old new h
waits false bytes rest more old new h = taken-waits bytes rest more old new h

no-broken : {A : Type 0} → false ≡ true → A
no-broken {A} e = grind arith

-- what waited is passed to the writer
passed : (was is : Bool) (bytes rest : List ℕ) (start old new : Account) → HasTaken was bytes rest start old
    → IsPassed was rest old is new
    → HasTaken is bytes [] start new
passed true true bytes rest start old new h p = subst (λ (a : Account). IsBroken bytes start a) (sym p.1) h
passed true false bytes rest start old new h p = absurd (no-broken p.0)
passed false true bytes rest start old new h p = broken-rest bytes rest start old new h p
passed false false bytes rest start old new h p = taken-rest bytes rest start old new h p

-- bytes are put that there is room for
pub filled : (old new : OutputBuffer) (a : Account) (more : List ℕ) → waiting new ≡ waiting old ++ more
    → new.is_broken ≡ old.is_broken
    → Puts (old, a) more (new, a)
filled old new a more waiting_is broken_is = record {
  after = λ bytes start is. rw (waiting_is, broken_is) (waits old.is_broken bytes (waiting old) more start a is);
}

-- the buffer is written
pub flushed : (old new : OutputBuffer) (a b : Account) → IsPassed old.is_broken (waiting old) a new.is_broken b
    → waiting new ≡ [] → Puts (old, a) [] (new, b)
flushed old new a b p empty = record {
  after = λ bytes start is. rw (append-nil bytes, empty)
      (passed old.is_broken new.is_broken bytes (waiting old) start a b is p);
}

-- bytes are put that are larger than a buffer, when nothing waits
pub put_through : (old new : OutputBuffer) (a b : Account) (more : List ℕ) → waiting old ≡ []
    → IsPassed old.is_broken more a new.is_broken b → waiting new ≡ []
    → Puts (old, a) more (new, b)
put_through old new a b more before p empty = record {
  after = λ bytes start is.
      let all = waits old.is_broken bytes (waiting old) more start a is in
      rw empty (passed old.is_broken new.is_broken (bytes ++ more) more start a b
      (subst (λ (rest : List ℕ). HasTaken old.is_broken (bytes ++ more) (rest ++ more) start a) before all) p);
}

-- what is put in an empty buffer is all that was put
pub put-all : (empty buffer : OutputBuffer) (a b : Account) (bytes : List ℕ) → IsEmpty empty
    → Puts (empty, a) bytes (buffer, b) → IsPut bytes a (buffer, b)
put-all empty buffer a b bytes is p = p.after [] a (rw (is.0, is.1) (taken_none [] a))

-- nothing waits any more
pub finished_ok : (s : Buffered) (buffer : OutputBuffer) (a : Account) → Puts s [] (buffer, a) → waiting buffer ≡ []
    → buffer.is_broken ≡ false
    → (bytes : List ℕ) (start : Account) → IsPut bytes start s → a ≡ moved start bytes
finished_ok s buffer a p empty unbroken bytes start is =
    let done = rw (append-nil bytes, empty, unbroken) at (p.after bytes start is) in
    taken_all bytes start a done

pub finished_err : (s : Buffered) (buffer : OutputBuffer) (a : Account) → Puts s [] (buffer, a)
    → buffer.is_broken ≡ true → (bytes : List ℕ) (start : Account)
    → IsPut bytes start s → EndsWriting Write bytes start a
finished_err s buffer a p broken bytes start is = rw (append-nil bytes, broken) at (p.after bytes start is)
