-- Runs that fail, and what they wrote.
use Rattle.std.proofs.Common.{◌≡◌, ◌≤◌, ℕ, List, ◌++◌, Option, sym, ap, ◌∙◌, subst, inl, inr, append_assoc, length}
use Rattle.std.proofs.Common.{take, arith}
use Rattle.std.proofs.lemmas.List.{length-take}
use Rattle.std.proofs.lemmas.Result.{err_from_is_err_and}
use Rattle.std.specs.Prelude.{Result, IfErr}
use Rattle.std.specs.Result.{IsErrAnd}
use Rattle.byte_streams.proofs.Accounts.{moved_moved}
use Rattle.byte_streams.specs.Devices.{Account, failed, moved, stopped}
use Rattle.byte_streams.specs.Writing as writing
use Rattle.byte_streams.specs.Writing.{IsBroken}
use Rattle.byte_streams.specs.declared.fault.Fault.{Fault}
use Rattle.byte_streams.specs.declared.fault.Fault.TheVariants.{Read, Utf8, Memory, Write}
use Rattle.rpc_messages.specs.declared.reply.Reply.{Reply}
use Rattle.rpc_serving.proofs.Conversations.{GoesOn, stops_so}
use Rattle.rpc_serving.specs.Exchange.{Exchange}
use Rattle.rpc_serving.specs.Frames.{HasNoFrame}
use Rattle.rpc_serving.specs.Serving.{EndsServing}

-- what each error of a result means
pub each_error : {T E : Type 0} {Q R : E → Type 0} (r : Result T E) → IsErrAnd r Q
    → ((error : E) → Q error → R error) → IfErr r R
each_error {T = T} {E = E} {R = R} r h so =
    let it = err_from_is_err_and r h in
    subst (λ (r : Result T E). IfErr r R) (sym it.1) (so it.0 it.2)

-- the writer failed in the last of some texts
broken : (before said : List ℕ) (old now new : Account) → now ≡ moved old before → IsBroken said now new
    → IsBroken (before ++ said) old new
broken before said old now new is b =
    let whole : moved now b.written ≡ moved old (before ++ b.written) =
    ap (λ (a : Account). moved a b.written) is ∙ moved_moved old before b.written in
    record {
      written = before ++ b.written;
      rest = b.rest;
      joined = ap (λ (bytes : List ℕ). before ++ bytes) b.joined ∙ sym (append_assoc before b.written b.rest);
      more = b.more;
      ends = elim b.ends [ inl fails ↦ inl (fails ∙ ap failed whole) | inr stops ↦ inr (stops ∙ ap stopped whole) ];
    }

module _ {S : Type 0} (takes : List ℕ → S → Reply → S → Type 0) (first last : S)
    (read_old read_new write_old write_new : Account) where
  -- memory was refused after a read
  pub memory_refused : (fault : Fault) → fault ≡ Memory → (input output left buffer : List ℕ) (count : ℕ) (service : S)
      → GoesOn takes first input output service left → HasNoFrame left
      → read_new ≡ moved read_old (input ++ take count buffer) → length buffer ≤ 65536
      → write_new ≡ moved write_old output
      → EndsServing takes first last read_old read_new write_old write_new fault
  memory_refused fault is input output left buffer count service so none read long written =
      subst (EndsServing takes first last read_old read_new write_old write_new) (sym is)
      (record {
        input = input;
        more = take count buffer;
        output = output;
        left = left;
        middle = service;
        exchange = stops_so takes first input output service left so none;
        read = read;
        few = omega (arith, length-take count buffer, long);
        written = written;
      })

  broke_at : (fault : Fault) (input before said left : List ℕ) (asked : Option ℕ) (now : Account)
      → now ≡ moved write_old before
      → writing.EndsWriting fault said now write_new
      → read_new ≡ moved read_old input → Exchange takes first input (before ++ said) left asked last
      → EndsServing takes first last read_old read_new write_old write_new fault
  broke_at Write input before said left asked now is ends read exchange = record {
    input = input;
    output = before ++ said;
    left = left;
    asked = asked;
    exchange = exchange;
    read = read;
    written = broken before said write_old now write_new is ends;
  }
  broke_at Read input before said left asked now is ends read exchange = absurd ends
  broke_at Memory input before said left asked now is ends read exchange = absurd ends
  broke_at Utf8 input before said left asked now is ends read exchange = absurd ends

  pub write_breaks : (fault error : Fault) (input before said bytes left : List ℕ) (asked : Option ℕ) (now : Account)
      → fault ≡ error → bytes ≡ said
      → now ≡ moved write_old before
      → writing.EndsWriting error bytes now write_new → read_new ≡ moved read_old input
      → Exchange takes first input (before ++ said) left asked last
      → EndsServing takes first last read_old read_new write_old write_new fault
  write_breaks fault error input before said bytes left asked now same is so ends read exchange =
      broke_at fault input before said left asked now so
      (subst (λ (f : Fault). writing.EndsWriting f said now write_new) (sym same)
      (subst (λ (b : List ℕ). writing.EndsWriting error b now write_new) is ends)) read exchange
