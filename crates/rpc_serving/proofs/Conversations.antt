-- Conversations over several reads.
use Rattle.std.proofs.Common.{◌≡◌, ℕ, List, [], ◌∷◌, ◌++◌, Option, Some, None, sym, ap, ◌∙◌, refl, subst, append_assoc}
use Rattle.std.proofs.lemmas.List.{append-nil}
use Rattle.rpc_messages.specs.declared.reply.Reply.{Reply}
use Rattle.rpc_serving.specs.Exchange.{Exchange, waits, replied, ended, passed_over, said_for}
use Rattle.rpc_serving.specs.Frames.{BeginsWithFrame, HasNoFrame, NeverHasFrame}

still_begins : (bytes body rest more : List ℕ) → BeginsWithFrame bytes body rest
    → BeginsWithFrame (bytes ++ more) body (rest ++ more)
still_begins bytes body rest more b = (b.0, b.1, ap (λ (v : List ℕ). v ++ more) b.2 ∙ append_assoc b.0 rest more)

still_never : (bytes more : List ℕ) → NeverHasFrame bytes → NeverHasFrame (bytes ++ more)
still_never bytes more never last = subst HasNoFrame (sym (append_assoc bytes more last)) (never (more ++ last))

some-none : (status : ℕ) → Some status ≡ None → ⊥
some-none status e = cc

module _ {S : Type 0} (takes : List ℕ → S → Reply → S → Type 0) where
  -- a conversation about bytes, with an end, is one about equal bytes with an equal end
  pub equally : {first last : S} {bytes others said rest : List ℕ} {end status : Option ℕ}
      → bytes ≡ others → end ≡ status
      → Exchange takes first bytes said rest end last → Exchange takes first others said rest status last
  equally {first = first} {last = last} {bytes = bytes} {said = said} {rest = rest} {status = status}
      same_bytes same_end e =
      subst (λ (v : List ℕ). Exchange takes first v said rest status last) same_bytes
      (subst (λ (s : Option ℕ). Exchange takes first bytes said rest s last) same_end e)

  -- a conversation goes on with more bytes
  pub follows : {first middle : S} {bytes said left : List ℕ} {end : Option ℕ}
      → Exchange takes first bytes said left end middle → end ≡ None
      → (more later rest : List ℕ) (status : Option ℕ) (last : S)
      → Exchange takes middle (left ++ more) later rest status last
      → Exchange takes first (bytes ++ more) (said ++ later) rest status last
  follows (waits none) is more later rest status last e = e
  follows {first = first}
      (replied {bytes = bytes} {body = body} {more = next} {said = said} asked reply begins asks replies goes
      takes_it e0) is more later
      rest status last e =
      subst (λ (v : List ℕ). Exchange takes first (bytes ++ more) v rest status last)
      (sym (append_assoc (said_for reply) said later))
      (replied asked reply (still_begins bytes body next more begins) asks replies goes takes_it
      (follows e0 is more later rest status last e))
  follows (ended asked reply code begins ends asks replies some takes_it) is more later rest status last e =
      absurd (some-none code is)
  follows (passed_over {byte = byte} {bytes = bytes} never e0) is more later rest status last e =
      passed_over (still_never (byte ∷ bytes) more never) (follows e0 is more later rest status last e)

  -- what is left has no frame yet
  pub left_over : {first middle : S} {bytes said left : List ℕ} {end : Option ℕ}
      → Exchange takes first bytes said left end middle → end ≡ None
      → HasNoFrame left
  left_over (waits none) is = none
  left_over (replied asked reply begins asks replies goes takes_it e) is = left_over e is
  left_over (ended asked reply status begins ends asks replies some takes_it) is = absurd (some-none status is)
  left_over (passed_over never e) is = left_over e is

  -- What was said for the bytes that were read, where these are left and the service is in this state: a conversation
  -- about them and what follows goes on from there.
  abbrev pub GoesOn : S → List ℕ → List ℕ → S → List ℕ → Type 0
  GoesOn first input output service left =
      (more later rest : List ℕ) (status : Option ℕ) (last : S)
      → Exchange takes service (left ++ more) later rest status last
      → Exchange takes first (input ++ more) (output ++ later) rest status last

  -- a read, and a turn that doesn't end the conversation
  pub goes_further : (first : S) (input output : List ℕ) (old : S) (left given said : List ℕ) (next : S) (now : List ℕ)
      → GoesOn first input output old left
      → Exchange takes old (left ++ given) said now None next → GoesOn first (input ++ given) (output ++ said) next now
  goes_further first input output old left given said next now so e more later rest status last goes =
      let turn : Exchange takes old ((left ++ given) ++ more) (said ++ later) rest status last =
      follows e refl more later rest status last goes in
      let whole : Exchange takes first (input ++ (given ++ more)) (output ++ (said ++ later)) rest status last =
      so (given ++ more) (said ++ later) rest status last
      (subst (λ (v : List ℕ). Exchange takes old v (said ++ later) rest status last)
      (append_assoc left given more) turn) in
      subst (λ (v : List ℕ). Exchange takes first v ((output ++ said) ++ later) rest status last)
      (sym (append_assoc input given more))
      (subst (λ (v : List ℕ). Exchange takes first (input ++ (given ++ more)) v rest status last)
      (sym (append_assoc output said later)) whole)

  -- a read, and a turn that ends it
  pub ends_so : (first : S) (input output : List ℕ) (old : S) (left given said now : List ℕ) (status : Option ℕ)
      (last : S) → GoesOn first input output old left
      → Exchange takes old (left ++ given) said now status last
      → Exchange takes first (input ++ given) (output ++ said) now status last
  ends_so first input output old left given said now status last so e = so given said now status last e

  -- the input ends
  pub stops_so : (first : S) (input output : List ℕ) (service : S) (left : List ℕ)
      → GoesOn first input output service left → HasNoFrame left
      → Exchange takes first input output left None service
  stops_so first input output service left so none =
      let whole : Exchange takes first (input ++ []) (output ++ []) left None service =
      so [] [] left None service
      (subst (λ (v : List ℕ). Exchange takes service v [] left None service) (sym (append-nil left)) (waits none)) in
      subst (λ (v : List ℕ). Exchange takes first v output left None service) (append-nil input)
      (subst (λ (v : List ℕ). Exchange takes first (input ++ []) v left None service) (append-nil output) whole)
