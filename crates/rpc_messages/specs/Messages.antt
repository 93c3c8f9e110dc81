-- What has to be answered, and what an answer, a notification and a request of the server are.
use Rattle.std.specs.Fmt.{signed_decimal}
use Rattle.std.specs.Prelude.{◌≡◌, ◌⊎◌, ℕ, ℤ, List, Option, Some, None, codes}
use Rattle.std.specs.Str.{IsUtf8}
use Rattle.json.specs.Find.{get}
use Rattle.json.specs.Json.{Json, Members, array, boolean, document, member, no_members, null, number, object, string}
use Rattle.json.specs.Lex.{tokens}
use Rattle.json.specs.Tree.{json_tokens}

-- ---- requests

-- The id of the answer that a message has to get, by the message's id and its method (JSON-RPC 2.0, sections 4 and 5).
-- What has both is a request. What has only an id is a response, and what has only a method a notification: neither is
-- answered. What has none of both is refused, with the id null.
abbrev pub asked_by : Option Json → Option Json → Option Json
asked_by (Some id) (Some method) = Some id
asked_by (Some id) None = None
asked_by None (Some method) = None
asked_by None None = Some null

abbrev pub asked : Json → Option Json
asked message = asked_by (get (codes "id") message) (get (codes "method") message)

-- The body is not read as JSON: it is no JSON, or its arrays and objects nest deeper than 128 levels, or a text in it
-- has an escape of half a surrogate pair, which no UTF-8 can hold.
abbrev pub IsNoJson : List ℕ → Type 0
IsNoJson body = IsUtf8 body → document body ≡ None

-- the body is this JSON
abbrev pub IsJson : List ℕ → Json → Type 0
IsJson body message = IsUtf8 body × (document body ≡ Some message)

-- The id of the answer that a body has to get: its message's, and null for a body that is not read as JSON.
abbrev pub Asks : List ℕ → Option Json → Type 0
Asks body id = (IsNoJson body × (id ≡ Some null)) ⊎ ((message : Json) × IsJson body message × (id ≡ asked message))

-- the message is the notification `exit`
abbrev pub IsExit : Json → Type 0
IsExit message = (get (codes "id") message ≡ None) × (get (codes "method") message ≡ Some (string (codes "exit")))

-- the body is the notification `exit`
abbrev pub AsksForEnd : List ℕ → Type 0
AsksForEnd body = (message : Json) × IsJson body message × IsExit message

-- ---- answers, notifications and requests

-- the body is JSON text of this value, however deep it nests
pub record IsTextOf (value : Json) (body : List ℕ) : Type 0 where
  pub utf8 : IsUtf8 body
  pub is : tokens body ≡ json_tokens value

-- The id of the answer to a request with this id: the same. What is neither a number nor a text, as no request's id is,
-- counts as null.
abbrev pub id_of : Json → Json
id_of null = null
id_of (boolean b) = null
id_of (number s) = number s
id_of (string s) = string s
id_of (array js) = null
id_of (object ms) = null

-- a response (JSON-RPC 2.0, section 5) to the request with this id, with this member besides `jsonrpc` and `id`
abbrev pub response : Json → List ℕ → Json → Json
response id name value =
    object (member (codes "jsonrpc") (string (codes "2.0"))
    (member (codes "id") (id_of id) (member name value no_members)))

-- the object of an error (section 5.1)
abbrev pub error_of : ℤ → List ℕ → Json
error_of code text = object
    (member (codes "code") (number (signed_decimal code)) (member (codes "message") (string text) no_members))

-- the body is the response to the request with this id that has this result
abbrev pub IsResult : Json → Json → List ℕ → Type 0
IsResult id result body = IsTextOf (response id (codes "result") result) body

-- the body is the response to the request with this id that refuses it, with this code and this text
abbrev pub IsError : Json → ℤ → List ℕ → List ℕ → Type 0
IsError id code text body = IsTextOf (response id (codes "error") (error_of code text)) body

-- The body answers the request with this id: it is an object that has `jsonrpc`, this id, and either a result or an
-- error.
pub record IsAnswer (id : Json) (body : List ℕ) : Type 0 where
  pub is : ((result : Json) × IsResult id result body) ⊎ ((code : ℤ) × (text : List ℕ) × IsError id code text body)

-- a notification (section 4.1) of this method: it has no id, and its parameters are members by name (section 4.2)
abbrev pub notification : List ℕ → Members → Json
notification method params =
    object (member (codes "jsonrpc") (string (codes "2.0"))
    (member (codes "method") (string method) (member (codes "params") (object params) no_members)))

-- the body is a notification of this method with these parameters
abbrev pub IsNotificationOf : List ℕ → Members → List ℕ → Type 0
IsNotificationOf method params body = IsTextOf (notification method params) body

-- a request (section 4) with an id that is a text: the same with this id
abbrev pub request : List ℕ → List ℕ → Members → Json
request id method params =
    object (member (codes "jsonrpc") (string (codes "2.0"))
    (member (codes "id") (string id) (member (codes "method") (string method)
    (member (codes "params") (object params) no_members))))

-- the body is a request with this id, of this method with these parameters
abbrev pub IsRequestOf : List ℕ → List ℕ → Members → List ℕ → Type 0
IsRequestOf id method params body = IsTextOf (request id method params) body

-- the body is a request of the server's
pub record IsRequest (body : List ℕ) : Type 0 where
  pub id : List ℕ
  pub method : List ℕ
  pub params : Members
  pub requests : IsRequestOf id method params body

-- the body is a notification, and no answer
pub record IsNotification (body : List ℕ) : Type 0 where
  pub method : List ℕ
  pub params : Members
  pub notifies : IsNotificationOf method params body
