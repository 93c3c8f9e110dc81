-- What the texts of whole messages are.
use Rattle.std.proofs.Common.{◌≡◌, ℕ, ℤ, ◌≤◌, List, [], ◌∷◌, ◌++◌, Option, Some, length, length-append, arith, drop, ap}
use Rattle.std.proofs.Common.{sym, ◌∙◌, subst, inl, inr}
use Rattle.std.proofs.lemmas.List.{drop-append-le}
use Rattle.std.specs.Prelude.{◌≢◌}
use lib.IntN.{pos, neg_ℤ}
use Rattle.json.specs.Json as json
use Rattle.json.specs.Json.{Json, Members}
use Rattle.json.specs.Token.{Token, end_object}
use Rattle.json.specs.Tree.{json_tokens}
use Rattle.rpc_messages.proofs.Nested.{after_both, nests, value_of}
use Rattle.rpc_messages.specs.Answers.{AreOfObject, HasTokens, IsAnswerOf, answer_front, error_member}
use Rattle.rpc_messages.specs.Answers.{notification_front}
use Rattle.rpc_messages.specs.Answers.{request_front, response_front}
use Rattle.rpc_messages.specs.Messages.{IsAnswer, IsError, IsNotification, IsNotificationOf, IsRequest, IsRequestOf}
use Rattle.rpc_messages.specs.Messages.{IsResult}
use Rattle.rpc_messages.specs.Nesting.{after_all}
use Rattle.rpc_messages.specs.declared.nesting.Expected.{Expected}
use Rattle.rpc_messages.specs.declared.nesting.Expected.TheVariants.{Value}

-- the text of a result
result_text : (id result : Json) (body : List ℕ)
    → HasTokens (answer_front id ++ (json_tokens result ++ end_object ∷ [])) body → IsResult id result body
result_text json.null result body h = record { utf8 = h.utf8; is = h.is }
result_text (json.boolean b) result body h = record { utf8 = h.utf8; is = h.is }
result_text (json.number s) result body h = record { utf8 = h.utf8; is = h.is }
result_text (json.string s) result body h = record { utf8 = h.utf8; is = h.is }
result_text (json.array js) result body h = record { utf8 = h.utf8; is = h.is }
result_text (json.object ms) result body h = record { utf8 = h.utf8; is = h.is }

-- the text of an error
pub error_text : (id : Json) (code : ℤ) (text body : List ℕ)
    → HasTokens (response_front id ++ (error_member code text ++ end_object ∷ [])) body
    → IsError id code text body
error_text json.null code text body h = record { utf8 = h.utf8; is = h.is }
error_text (json.boolean b) code text body h = record { utf8 = h.utf8; is = h.is }
error_text (json.number s) code text body h = record { utf8 = h.utf8; is = h.is }
error_text (json.string s) code text body h = record { utf8 = h.utf8; is = h.is }
error_text (json.array js) code text body h = record { utf8 = h.utf8; is = h.is }
error_text (json.object ms) code text body h = record { utf8 = h.utf8; is = h.is }

pub error_answers : (id : Json) (code : ℤ) (text body : List ℕ) → IsError id code text body → IsAnswer id body
error_answers id code text body h = record { is = inr (code, text, h) }

-- a result that is written whole
module _ (id : Json) (written ts : List Token) (body : List ℕ) (begun : written ≡ answer_front id ++ ts) where
  whole : (j : Json) → ts ≡ json_tokens j → HasTokens (written ++ end_object ∷ []) body → IsResult id j body
  whole j e h =
      let is : written ++ end_object ∷ [] ≡ answer_front id ++ (json_tokens j ++ end_object ∷ []) =
      ap (λ (x : List Token). x ++ end_object ∷ []) (begun ∙ ap (λ (x : List Token). answer_front id ++ x) e) in
      result_text id j body (subst (λ (x : List Token). HasTokens x body) is h)

  nested : after_all (drop 6 written) (Some (Value ∷ [])) ≡ Some [] → (j : Json) × (ts ≡ json_tokens j)
  nested e = value_of ts (ap (λ (x : List Token). after_all (drop 6 x) (Some (Value ∷ []))) (sym begun) ∙ e)

  pub whole_answers : after_all (drop 6 written) (Some (Value ∷ [])) ≡ Some []
      → HasTokens (written ++ end_object ∷ []) body → IsAnswer id body
  whole_answers e h =
      let value = nested e in
      record { is = inl (value.0, whole value.0 value.1 h) }

  pub whole_is : after_all (drop 6 written) (Some (Value ∷ [])) ≡ Some [] → HasTokens (written ++ end_object ∷ []) body
      → IsAnswerOf id ts body
  whole_is e h =
      let value = nested e in
      record { result = λ j is. whole j is h; refused = λ none. absurd (none value.0 value.1) }

  -- tokens that are not one value are refused
  pub refused_is : (text : List ℕ) → after_all (drop 6 written) (Some (Value ∷ [])) ≢ Some []
      → IsError id (neg_ℤ (pos 32603)) text body → IsAnswerOf id ts body
  refused_is text none h = record {
    result = λ j is.
        (absurd (none (ap (λ (x : List Token). after_all (drop 6 x) (Some (Value ∷ [])))
        (begun ∙ ap (λ (x : List Token). answer_front id ++ x) is)
        ∙ nests j)));
    refused = λ _. (text, h);
  }

-- what is expected, after more tokens
pub still_nested : (old new ts : List Token) (was now : Option (List Expected)) → new ≡ old ++ ts → 6 ≤ length old
    → was ≡ after_all (drop 6 old) (Some (Value ∷ []))
    → now ≡ after_all ts was → now ≡ after_all (drop 6 new) (Some (Value ∷ []))
still_nested old new ts was now added long so_far more =
    let rest : drop 6 new ≡ drop 6 old ++ ts = ap (drop 6) added ∙ drop-append-le 6 old ts long in
    more ∙ ap (after_all ts) so_far ∙ sym (after_both (drop 6 old) ts (Some (Value ∷ [])))
    ∙ ap (λ (x : List Token). after_all x (Some (Value ∷ []))) (sym rest)

pub still_long : (old new ts : List Token) → new ≡ old ++ ts → 6 ≤ length old → 6 ≤ length new
still_long old new ts added long = omega (arith, ap length added, length-append old ts, long)

-- ---- notifications and requests

-- parameters that are those of an object
as_object : (front ts : List Token) (body : List ℕ) (members : Members) → ts ≡ json_tokens (json.object members)
    → HasTokens (front ++ (ts ++ end_object ∷ [])) body
    → HasTokens (front ++ (json_tokens (json.object members) ++ end_object ∷ [])) body
as_object front ts body members e h = subst (λ (x : List Token). HasTokens (front ++ (x ++ end_object ∷ [])) body) e h

pub notification_text : (method : List ℕ) (ts : List Token) (body : List ℕ) (members : Members)
    → ts ≡ json_tokens (json.object members)
    → HasTokens (notification_front method ++ (ts ++ end_object ∷ [])) body → IsNotificationOf method members body
notification_text method ts body members e h =
    let is = as_object (notification_front method) ts body members e h in
    record { utf8 = is.utf8; is = is.is }

pub notifies : (method : List ℕ) (ts : List Token) (body : List ℕ) → AreOfObject ts
    → HasTokens (notification_front method ++ (ts ++ end_object ∷ [])) body
    → IsNotification body
notifies method ts body o h =
    record { method = method; params = o.members; notifies = notification_text method ts body o.members o.is h }

pub request_text : (id method : List ℕ) (ts : List Token) (body : List ℕ) (members : Members)
    → ts ≡ json_tokens (json.object members)
    → HasTokens (request_front id method ++ (ts ++ end_object ∷ [])) body → IsRequestOf id method members body
request_text id method ts body members e h =
    let is = as_object (request_front id method) ts body members e h in
    record { utf8 = is.utf8; is = is.is }

pub requests : (id method : List ℕ) (ts : List Token) (body : List ℕ) → AreOfObject ts
    → HasTokens (request_front id method ++ (ts ++ end_object ∷ [])) body → IsRequest body
requests id method ts body o h =
    record { id = id; method = method; params = o.members; requests = request_text id method ts body o.members o.is h }
