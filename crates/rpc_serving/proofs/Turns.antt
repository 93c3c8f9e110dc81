-- Conversations, one message after the other.
use Rattle.std.proofs.Common.{◌≡◌, ◌==◌, Bool, false, ℕ, zero, suc, ◌<◌, List, [], ◌∷◌, ◌++◌, length, drop, Option}
use Rattle.std.proofs.Common.{Some, None, sym, ap, ◌∙◌, subst, append_assoc, arith, length-drop}
use Rattle.std.proofs.lemmas.Bool.Decides.{nat_tests}
use Rattle.std.proofs.lemmas.List.{append-nil}
use Rattle.json.specs.Json.{Json}
use Rattle.rpc_messages.specs.Messages.{Asks, AsksForEnd}
use Rattle.rpc_messages.specs.Replies.{EndsOnlyIf, Replies}
use Rattle.rpc_messages.specs.declared.reply.Reply.{Reply}
use Rattle.rpc_messages.specs.declared.reply.Reply.TheVariants.{Nothing, Answer, Notification, Request, Exit}
use Rattle.rpc_serving.specs.Exchange.{Exchange, waits, replied, ended, passed_over, said_for, status_of}
use Rattle.rpc_serving.specs.Frames.{BeginsWithFrame, HasNoFrame, IsSkipped, NeverHasFrame}

-- the reply that a body needs
abbrev pub IsReplyTo : List ℕ → Reply → Type 0
IsReplyTo body reply = (asked : Option Json) × Asks body asked × Replies asked reply

none-some : (status : ℕ) → None ≡ Some status → ⊥
none-some status e = cc

asks_for_end : (asks : Type 0) (reply : Reply) (status : ℕ) → EndsOnlyIf asks reply
    → status_of reply ≡ Some status → asks
asks_for_end asks Nothing status h some = absurd (none-some status some)
asks_for_end asks (Answer body) status h some = absurd (none-some status some)
asks_for_end asks (Notification body) status h some = absurd (none-some status some)
asks_for_end asks (Request body) status h some = absurd (none-some status some)
asks_for_end asks (Exit code) status h some = h

pub never_now : (now : List ℕ) → NeverHasFrame now → HasNoFrame now
never_now now never = subst HasNoFrame (append-nil now) (never [])

pub some_left : (n : ℕ) (is_empty : Bool) → is_empty ≡ (n == 0) → is_empty ≡ false → 0 < n
some_left n is_empty e false_is = grind (arith, nat_tests)

-- the first byte, and all others that are left out
each : (now : List ℕ) (count : ℕ) → NeverHasFrame now
    → ((k : ℕ) → 0 < k → k < count → NeverHasFrame (drop k now)) → (k : ℕ) → k < count
    → NeverHasFrame (drop k now)
each now count never garbage zero less = never
each now count never garbage (suc k) less = garbage (suc k) (omega arith) less

pub fewer : (now new : List ℕ) → 0 < length now → IsSkipped now new → length new < length now
fewer now new some is = omega (arith, ap length is.left, length-drop is.count now, is.some, some)

module _ {S : Type 0} (takes : List ℕ → S → Reply → S → Type 0) where
  -- What was said for a beginning of the bytes, and the state that the service is in now: a conversation about the
  -- others goes on from there.
  abbrev pub LeadsTo : S → List ℕ → List ℕ → S → List ℕ → Type 0
  LeadsTo first start said service now =
      (later rest : List ℕ) (status : Option ℕ) (last : S) → Exchange takes service now later rest status last
      → Exchange takes first start (said ++ later) rest status last

  pub begun : (first : S) (start : List ℕ) → LeadsTo first start [] first start
  begun first start later rest status last e = e

  pub goes_on : (first : S) (start said : List ℕ) (old next : S) (now body more new : List ℕ) (reply : Reply)
      → LeadsTo first start said old now
      → BeginsWithFrame now body more → IsReplyTo body reply
      → status_of reply ≡ None → takes body old reply next → new ≡ said ++ said_for reply
      → LeadsTo first start new next more
  goes_on first start said old next now body more new reply leads begins r none takes_it is later rest status last e =
      let joined : said ++ (said_for reply ++ later) ≡ new ++ later = sym (append_assoc said (said_for reply) later)
      ∙ ap (λ (v : List ℕ). v ++ later) (sym is) in
      subst (λ (v : List ℕ). Exchange takes first start v rest status last) joined
      (leads (said_for reply ++ later) rest status last (replied r.0 reply begins r.1 r.2 none takes_it e))

  pub finished : (first : S) (start said : List ℕ) (old last : S) (now body more new : List ℕ) (reply : Reply)
      (status : ℕ) → LeadsTo first start said old now
      → BeginsWithFrame now body more
      → IsReplyTo body reply → EndsOnlyIf (AsksForEnd body) reply → status_of reply ≡ Some status
      → takes body old reply last → new ≡ said ++ said_for reply
      → Exchange takes first start new more (Some status) last
  finished first start said old last now body more new reply status leads begins r ends some takes_it is =
      subst (λ (v : List ℕ). Exchange takes first start v more (Some status) last) (sym is)
      (leads (said_for reply) more (Some status) last
      (ended r.0 reply status begins (asks_for_end _ reply status ends some) r.1 r.2 some takes_it))

  pub waiting : (first : S) (start said : List ℕ) (service : S) (now : List ℕ)
      → LeadsTo first start said service now → HasNoFrame now
      → Exchange takes first start said now None service
  waiting first start said service now leads none =
      subst (λ (v : List ℕ). Exchange takes first start v now None service) (append-nil said)
      (leads [] now None service (waits none))

  passes : (first : S) (start said : List ℕ) (service : S) (now : List ℕ) → LeadsTo first start said service now
      → NeverHasFrame now → 0 < length now
      → LeadsTo first start said service (drop 1 now)
  passes first start said service [] leads never some = absurd (omega (arith, some))
  passes first start said service (byte ∷ bytes) leads never some =
      λ later rest status last e. leads later rest status last (passed_over never e)

  skips : (first : S) (start said : List ℕ) (service : S) (now : List ℕ) (count : ℕ)
      → LeadsTo first start said service now
      → ((k : ℕ) → k < count → NeverHasFrame (drop k now)) → LeadsTo first start said service (drop count now)
  skips first start said service now zero leads never = leads
  skips first start said service [] (suc count) leads never = leads
  skips first start said service (byte ∷ bytes) (suc count) leads never =
      skips first start said service bytes count
      (passes first start said service (byte ∷ bytes) leads (never 0 (omega arith)) (omega arith))
      (λ k less. never (suc k) (omega (arith, less)))

  pub skipped : (first : S) (start said : List ℕ) (service : S) (now new : List ℕ)
      → LeadsTo first start said service now → NeverHasFrame now
      → IsSkipped now new → LeadsTo first start said service new
  skipped first start said service now new leads never is =
      subst (LeadsTo first start said service) (sym is.left)
      (skips first start said service now is.count leads (each now is.count never is.garbage))
