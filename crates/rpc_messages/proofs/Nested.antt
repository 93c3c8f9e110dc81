-- Tokens that nest as expected are those of one value, and the tokens of a value nest so.
use Rattle.std.proofs.Common.{◌≡◌, ℕ, suc, ◌+◌, ◌<◌, List, [], ◌∷◌, ◌++◌, Option, Some, None, ap, sym, refl, subst, ◌∙◌}
use Rattle.std.proofs.Common.{append_assoc, map, length, take, get_or, arith}
use Rattle.std.proofs.Math.Seq.{take-suc}
use Rattle.std.proofs.lemmas.Grind.{flat_map-append}
use Rattle.std.proofs.lemmas.List.{append-nil}
use Rattle.std.proofs.lemmas.List.Concat.{flat_map-cons}
use Rattle.std.specs.List.{flat_map}
use Rattle.std.specs.Prelude.{option_and_then, option_map}
use Rattle.json.specs.Json as json
use Rattle.json.specs.Json.{Json, Items, Members}
use Rattle.json.specs.Token.{Token, begin_object, end_object, begin_array, end_array, key, string, number, boolean}
use Rattle.json.specs.Token.{null, bad}
use Rattle.json.specs.Tree.{json_tokens, items_tokens, members_tokens}
use Rattle.rpc_messages.specs.Nesting.{after, after_all, after_key, after_items, after_members, after_value}
use Rattle.rpc_messages.specs.Pieces.{number_token, tokens_of}
use Rattle.rpc_messages.specs.declared.nesting.Expected.{Expected}
use Rattle.rpc_messages.specs.declared.nesting.Expected.TheVariants.{Value, Item, Member}
use Rattle.rpc_messages.specs.declared.pieces.Piece.{Piece}

abbrev Open : Type 0
Open = List Expected

pub never : (ts : List Token) → after_all ts None ≡ None
never [] = refl
never (t ∷ ts) = never ts

pub after_both : (a b : List Token) (state : Option Open) → after_all (a ++ b) state ≡ after_all b (after_all a state)
after_both [] b state = refl
after_both (t ∷ a) b state = after_both a b (option_and_then (after t) state)

-- ---- what is expected is what came

-- tokens are those of the expected values
abbrev Means : Open → List Token → Type 0
Means [] ts = ts ≡ []
Means (Value ∷ outer) ts = (j : Json) × (rest : List Token) × (ts ≡ json_tokens j ++ rest) × Means outer rest
Means (Item ∷ outer) ts = (js : Items) × (rest : List Token) × (ts ≡ items_tokens js ++ rest) × Means outer rest
Means (Member ∷ outer) ts = (ms : Members) × (rest : List Token) × (ts ≡ members_tokens ms ++ rest) × Means outer rest

none_some : {A : Type 0} (a : A) → None ≡ Some a → ⊥
none_some a e = cc

some_is : {A : Type 0} (a b : A) → Some a ≡ Some b → a ≡ b
some_is a b e = cc

-- something was expected all along
was_some : (ts : List Token) (o : Option Open) (end : Open) → after_all ts o ≡ Some end
    → (state : Open) × (o ≡ Some state)
was_some ts None end h = absurd (none_some end (sym (never ts) ∙ h))
was_some ts (Some state) end h = (state, refl)

-- a value came, and then what was expected after it
value_first : (state next : Open) (j : Json) (ts rest : List Token) → after_value state ≡ Some next
    → ts ≡ json_tokens j ++ rest → Means next rest
    → Means state ts
value_first [] next j ts rest h e m = absurd (none_some next h)
value_first (Value ∷ outer) next j ts rest h e m =
    (j, rest, e, subst (λ (o : Open). Means o rest) (sym (some_is outer next h)) m)
value_first (Item ∷ outer) next j ts rest h e m =
    let later : Means (Item ∷ outer) rest =
    subst (λ (o : Open). Means o rest) (sym (some_is (Item ∷ outer) next h)) m in (
      json.item j later.0,
      later.1,
      e ∙ ap (λ (x : List Token). json_tokens j ++ x) later.2
          ∙ sym (append_assoc (json_tokens j) (items_tokens later.0) later.1),
      later.3,
    )
value_first (Member ∷ outer) next j ts rest h e m = absurd (none_some next h)

-- a value opened whose parts, with its end, are expected next
array_first : (state next : Open) (o : Option Open) (ts : List Token) → after_value state ≡ o
    → option_map (λ (outer : Open). Item ∷ outer) o ≡ Some next
    → Means next ts
    → Means state (begin_array ∷ ts)
array_first state next None ts is h m = absurd (none_some next h)
array_first state next (Some outer) ts is h m =
    let inner : Means (Item ∷ outer) ts = subst (λ (o : Open). Means o ts) (sym (some_is (Item ∷ outer) next h)) m in
    value_first state outer (json.array inner.0) (begin_array ∷ ts) inner.1 is
    (ap (λ (x : List Token). begin_array ∷ x) inner.2) inner.3

object_first : (state next : Open) (o : Option Open) (ts : List Token) → after_value state ≡ o
    → option_map (λ (outer : Open). Member ∷ outer) o ≡ Some next → Means next ts
    → Means state (begin_object ∷ ts)
object_first state next None ts is h m = absurd (none_some next h)
object_first state next (Some outer) ts is h m =
    let inner : Means (Member ∷ outer) ts =
    subst (λ (o : Open). Means o ts) (sym (some_is (Member ∷ outer) next h)) m in
    value_first state outer (json.object inner.0) (begin_object ∷ ts) inner.1 is
    (ap (λ (x : List Token). begin_object ∷ x) inner.2) inner.3

items_end : (state next : Open) (ts : List Token) → after_items state ≡ Some next → Means next ts
    → Means state (end_array ∷ ts)
items_end [] next ts h m = absurd (none_some next h)
items_end (Value ∷ outer) next ts h m = absurd (none_some next h)
items_end (Item ∷ outer) next ts h m =
    (json.no_items, ts, refl, subst (λ (o : Open). Means o ts) (sym (some_is outer next h)) m)
items_end (Member ∷ outer) next ts h m = absurd (none_some next h)

members_end : (state next : Open) (ts : List Token) → after_members state ≡ Some next → Means next ts
    → Means state (end_object ∷ ts)
members_end [] next ts h m = absurd (none_some next h)
members_end (Value ∷ outer) next ts h m = absurd (none_some next h)
members_end (Item ∷ outer) next ts h m = absurd (none_some next h)
members_end (Member ∷ outer) next ts h m =
    (json.no_members, ts, refl, subst (λ (o : Open). Means o ts) (sym (some_is outer next h)) m)

key_first : (state next : Open) (s : List ℕ) (ts : List Token) → after_key state ≡ Some next → Means next ts
    → Means state (key s ∷ ts)
key_first [] next s ts h m = absurd (none_some next h)
key_first (Value ∷ outer) next s ts h m = absurd (none_some next h)
key_first (Item ∷ outer) next s ts h m = absurd (none_some next h)
key_first (Member ∷ outer) next s ts h m =
    let later : Means (Value ∷ Member ∷ outer) ts =
    subst (λ (o : Open). Means o ts) (sym (some_is (Value ∷ Member ∷ outer) next h)) m in
    let j : Json = later.0 in
    let more : Means (Member ∷ outer) later.1 = later.3 in (
      json.member s j more.0,
      more.1,
      ap (λ (x : List Token). key s ∷ x) (later.2 ∙ ap (λ (x : List Token). json_tokens j ++ x) more.2
          ∙ sym (append_assoc (json_tokens j) (members_tokens more.0) more.1)),
      more.3,
    )

token_first : (t : Token) (state next : Open) (ts : List Token) → after t state ≡ Some next → Means next ts
    → Means state (t ∷ ts)
token_first begin_object state next ts h m = object_first state next (after_value state) ts refl h m
token_first end_object state next ts h m = members_end state next ts h m
token_first begin_array state next ts h m = array_first state next (after_value state) ts refl h m
token_first end_array state next ts h m = items_end state next ts h m
token_first (key s) state next ts h m = key_first state next s ts h m
token_first (string s) state next ts h m = value_first state next (json.string s) (string s ∷ ts) ts h refl m
token_first (number s) state next ts h m = value_first state next (json.number s) (number s ∷ ts) ts h refl m
token_first (boolean b) state next ts h m = value_first state next (json.boolean b) (boolean b ∷ ts) ts h refl m
token_first null state next ts h m = value_first state next json.null (null ∷ ts) ts h refl m
token_first bad state next ts h m = absurd (none_some next h)

some_cons : (x : Expected) (state : Open) → Some (x ∷ state) ≡ Some [] → ⊥
some_cons x state e = cc

means : (ts : List Token) (state : Open) → after_all ts (Some state) ≡ Some [] → Means state ts
means [] [] h = refl
means [] (x ∷ state) h = absurd (some_cons x state h)
means (t ∷ ts) state h =
    let next = was_some ts (after t state) [] h in
    let later : after_all ts (Some next.0) ≡ Some [] = subst (λ (o : Option Open). after_all ts o ≡ Some []) next.1 h in
    token_first t state next.0 ts next.1 (means ts next.0 later)

-- tokens that nest as one value are those of a value
pub value_of : (ts : List Token) → after_all ts (Some (Value ∷ [])) ≡ Some [] → (j : Json) × (ts ≡ json_tokens j)
value_of ts h =
    let m : Means (Value ∷ []) ts = means ts (Value ∷ []) h in
    (m.0, m.2 ∙ ap (λ (x : List Token). json_tokens m.0 ++ x) m.3 ∙ append-nil (json_tokens m.0))

-- ---- what comes is expected

-- tokens of the parts of a value, with its end
opened : (inner : Expected) (ts rest : List Token) (o : Option Open)
    → ((outer : Open) → after_all ts (Some (inner ∷ outer)) ≡ after_all rest (Some outer))
    → after_all ts (option_map (λ (outer : Open). inner ∷ outer) o) ≡ after_all rest o
opened inner ts rest None each = never ts ∙ sym (never rest)
opened inner ts rest (Some outer) each = each outer

mutual
  takes : (j : Json) (rest : List Token) (state : Open)
      → after_all (json_tokens j ++ rest) (Some state) ≡ after_all rest (after_value state)
  takes json.null rest state = refl
  takes (json.boolean b) rest state = refl
  takes (json.number s) rest state = refl
  takes (json.string s) rest state = refl
  takes (json.array js) rest state =
      opened Item (items_tokens js ++ rest) rest (after_value state) (λ outer. takes_items js rest outer)
  takes (json.object ms) rest state =
      opened Member (members_tokens ms ++ rest) rest (after_value state) (λ outer. takes_members ms rest outer)

  takes_items : (js : Items) (rest : List Token) (outer : Open)
      → after_all (items_tokens js ++ rest) (Some (Item ∷ outer)) ≡ after_all rest (Some outer)
  takes_items json.no_items rest outer = refl
  takes_items (json.item j js) rest outer =
      ap (λ (ts : List Token). after_all ts (Some (Item ∷ outer))) (append_assoc (json_tokens j) (items_tokens js) rest)
      ∙ takes j (items_tokens js ++ rest) (Item ∷ outer) ∙ takes_items js rest outer

  takes_members : (ms : Members) (rest : List Token) (outer : Open)
      → after_all (members_tokens ms ++ rest) (Some (Member ∷ outer)) ≡ after_all rest (Some outer)
  takes_members json.no_members rest outer = refl
  takes_members (json.member k j ms) rest outer =
      ap (λ (ts : List Token). after_all ts (Some (Value ∷ Member ∷ outer)))
      (append_assoc (json_tokens j) (members_tokens ms) rest)
      ∙ takes j (members_tokens ms ++ rest) (Value ∷ Member ∷ outer) ∙ takes_members ms rest outer

-- the tokens of a value nest as one value
pub nests : (j : Json) → after_all (json_tokens j) (Some (Value ∷ [])) ≡ Some []
nests j = ap (λ (ts : List Token). after_all ts (Some (Value ∷ []))) (sym (append-nil (json_tokens j)))
    ∙ takes j [] (Value ∷ [])

-- ---- a list of numbers is one value

numbers : (counts : List ℕ) (outer : Open)
    → after_all (map number_token counts ++ end_array ∷ []) (Some (Item ∷ outer)) ≡ Some outer
numbers [] outer = refl
numbers (count ∷ counts) outer = numbers counts outer

pub list_of_numbers : (counts : List ℕ) (o : Option Open)
    → after_all (begin_array ∷ (map number_token counts ++ end_array ∷ [])) o ≡ option_and_then after_value o
list_of_numbers counts None = never (map number_token counts ++ end_array ∷ [])
list_of_numbers counts (Some state) =
    opened Item (map number_token counts ++ end_array ∷ []) [] (after_value state) (numbers counts)

-- ---- pieces, one after the other

pub one_more : (pieces : List Piece) (k : ℕ) (d : Piece) (first old new : Option Open) → k < length pieces
    → old ≡ after_all (flat_map tokens_of (take k pieces)) first
    → new ≡ after_all (tokens_of (get_or pieces k d)) old
    → new ≡ after_all (flat_map tokens_of (take (k + 1) pieces)) first
one_more pieces k d first old new within so_far added =
    let piece = get_or pieces k d in
    let next : k + 1 ≡ suc k = omega arith in
    let last : flat_map tokens_of (piece ∷ []) ≡ tokens_of piece =
    flat_map-cons tokens_of piece [] ∙ append-nil (tokens_of piece) in
    let taken : flat_map tokens_of (take (k + 1) pieces) ≡ flat_map tokens_of (take k pieces) ++ tokens_of piece =
    ap (λ (n : ℕ). flat_map tokens_of (take n pieces)) next ∙ ap (flat_map tokens_of) (take-suc pieces k d within)
    ∙ flat_map-append tokens_of (take k pieces) (piece ∷ [])
    ∙ ap (λ (x : List Token). flat_map tokens_of (take k pieces) ++ x) last in
    added ∙ ap (after_all (tokens_of piece)) so_far
    ∙ sym (after_both (flat_map tokens_of (take k pieces)) (tokens_of piece) first)
    ∙ ap (λ (x : List Token). after_all x first) (sym taken)
