-- Whether tokens of JSON nest as those of one value.
use Rattle.std.specs.Prelude.{List, [], ◌∷◌, Option, Some, None, cond, option_and_then, option_map, reverse}
use Rattle.json.specs.Token.{Token, begin_object, end_object, begin_array, end_array, key, string, number, boolean}
use Rattle.json.specs.Token.{null, bad}
use Rattle.rpc_messages.specs.declared.nesting.Expected.{Expected}
use Rattle.rpc_messages.specs.declared.nesting.Expected.TheVariants.{Value, Item, Member}
use Rattle.rpc_messages.specs.declared.nesting.Nesting.{Nesting}

-- what is expected, the innermost first, after a value
abbrev pub after_value : List Expected → Option (List Expected)
after_value [] = None
after_value (Value ∷ outer) = Some outer
after_value (Item ∷ outer) = Some (Item ∷ outer)
after_value (Member ∷ outer) = None

abbrev pub after_items : List Expected → Option (List Expected)
after_items [] = None
after_items (Value ∷ outer) = None
after_items (Item ∷ outer) = Some outer
after_items (Member ∷ outer) = None

abbrev pub after_members : List Expected → Option (List Expected)
after_members [] = None
after_members (Value ∷ outer) = None
after_members (Item ∷ outer) = None
after_members (Member ∷ outer) = Some outer

abbrev pub after_key : List Expected → Option (List Expected)
after_key [] = None
after_key (Value ∷ outer) = None
after_key (Item ∷ outer) = None
after_key (Member ∷ outer) = Some (Value ∷ Member ∷ outer)

-- a value opens, in which this is expected
abbrev pub after_open : Expected → List Expected → Option (List Expected)
after_open inner state = option_map (λ outer. inner ∷ outer) (after_value state)

abbrev pub after : Token → List Expected → Option (List Expected)
after begin_object state = after_open Member state
after end_object state = after_members state
after begin_array state = after_open Item state
after end_array state = after_items state
after (key s) state = after_key state
after (string s) state = after_value state
after (number s) state = after_value state
after (boolean b) state = after_value state
after null state = after_value state
after bad state = None

-- what is expected after tokens; `None` once a token was not expected
abbrev pub after_all : List Token → Option (List Expected) → Option (List Expected)
after_all [] state = state
after_all (t ∷ ts) state = after_all ts (option_and_then (after t) state)

-- what is expected, the innermost first
abbrev pub expected_in : Nesting → Option (List Expected)
expected_in nesting = cond nesting.is_sound (Some (reverse nesting.expected.items)) None
