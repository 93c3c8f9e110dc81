-- How an answer is written, part by part.
use Rattle.std.specs.Fmt.{signed_decimal}
use Rattle.std.specs.Prelude.{◌≡◌, ◌≢◌, ℕ, ℤ, ◌≤◌, List, [], ◌∷◌, ◌++◌, Some, codes, drop, length}
use Rattle.std.specs.Str.{IsUtf8}
use lib.IntN.{pos, neg_ℤ}
use Rattle.json.specs.Json as json
use Rattle.json.specs.Json.{Json, Members}
use Rattle.json.specs.Lex.{tokens}
use Rattle.json.specs.Token.{Token, begin_object, end_object, key, string, number, null}
use Rattle.json.specs.Tree.{json_tokens}
use Rattle.rpc_messages.specs.Messages.{IsError, IsResult}
use Rattle.rpc_messages.specs.Nesting.{after_all, expected_in}
use Rattle.rpc_messages.specs.declared.message.LongAnswer.TheInside.{Inside}
use Rattle.rpc_messages.specs.declared.nesting.Expected.TheVariants.{Value}

-- the token of a request's id
abbrev pub id_token : Json → Token
id_token json.null = null
id_token (json.boolean b) = null
id_token (json.number s) = number s
id_token (json.string s) = string s
id_token (json.array js) = null
id_token (json.object ms) = null

abbrev pub response_front : Json → List Token
response_front id = begin_object ∷ key (codes "jsonrpc") ∷ string (codes "2.0") ∷ key (codes "id") ∷ id_token id ∷ []

-- the member `error` of an answer that refuses a request
abbrev pub error_member : ℤ → List ℕ → List Token
error_member code text =
    key (codes "error") ∷ begin_object ∷ key (codes "code") ∷ number (signed_decimal code) ∷ key (codes "message")
    ∷ string text ∷ end_object ∷ []

-- the members of a notification or a request up to its parameters
abbrev pub call_front : List ℕ → List Token
call_front method = key (codes "method") ∷ string method ∷ key (codes "params") ∷ []

abbrev pub notification_front : List ℕ → List Token
notification_front method = begin_object ∷ key (codes "jsonrpc") ∷ string (codes "2.0") ∷ call_front method

abbrev pub request_front : List ℕ → List ℕ → List Token
request_front id method =
    begin_object ∷ key (codes "jsonrpc") ∷ string (codes "2.0") ∷ key (codes "id") ∷ string id ∷ call_front method

-- the body is text of these tokens
pub record HasTokens (ts : List Token) (body : List ℕ) : Type 0 where
  pub utf8 : IsUtf8 body
  pub is : tokens body ≡ ts

-- the tokens of an answer to the request with this id, up to its result
abbrev pub answer_front : Json → List Token
answer_front id = begin_object ∷ key (codes "jsonrpc") ∷ string (codes "2.0") ∷ key (codes "id") ∷ id_token id
    ∷ key (codes "result") ∷ []

-- an answer to the request with this id is written up to its result, and some tokens of that
pub record IsBegun (id : Json) (written : List Token) : Type 0 where
  pub result : List Token
  pub is : written ≡ answer_front id ++ result

-- the tokens are those of an object
pub record AreOfObject (ts : List Token) : Type 0 where
  pub members : Members
  pub is : ts ≡ json_tokens (json.object members)

-- The body answers the request with this id: the result is the value of these tokens, and where they are not those of
-- one value, it is refused as an internal error (JSON-RPC 2.0, section 5.1).
pub record IsAnswerOf (id : Json) (ts : List Token) (body : List ℕ) : Type 0 where
  pub result : (value : Json) → ts ≡ json_tokens value → IsResult id value body
  pub refused : ((value : Json) → ts ≢ json_tokens value) → (text : List ℕ) × IsError id (neg_ℤ (pos 32603)) text body

-- what comes after the front nests as what is still expected says
pub record IsNested (answer : Inside) : Type 0 where
  pub before : answer.out.before ≡ []
  pub front : 6 ≤ length answer.out.tokens
  pub nests : expected_in answer.nesting ≡ after_all (drop 6 answer.out.tokens) (Some (Value ∷ []))
