-- The tokens of pieces that grow.
use Rattle.std.proofs.Common.{◌≡◌, List, ◌++◌, ap, ◌∙◌, append_assoc}
use Rattle.std.proofs.lemmas.Grind.{flat_map-append}
use Rattle.std.specs.List.{flat_map}
use Rattle.json.specs.Token.{Token}
use Rattle.rpc_messages.specs.Pieces.{tokens_of}
use Rattle.rpc_messages.specs.declared.pieces.Piece.{Piece}

-- some pieces are added
pub added : (old pieces new : List Piece) → new ≡ old ++ pieces
    → flat_map tokens_of new ≡ flat_map tokens_of old ++ flat_map tokens_of pieces
added old pieces new is = ap (flat_map tokens_of) is ∙ flat_map-append tokens_of old pieces

-- some pieces with these tokens are added
pub added_as : (old pieces new : List Piece) (tokens : List Token) → new ≡ old ++ pieces
    → flat_map tokens_of pieces ≡ tokens
    → flat_map tokens_of new ≡ flat_map tokens_of old ++ tokens
added_as old pieces new tokens is same =
    added old pieces new is ∙ ap (λ (x : List Token). flat_map tokens_of old ++ x) same

-- more tokens after some
pub added_after : (old middle new some more : List Token) → middle ≡ old ++ some → new ≡ middle ++ more
    → new ≡ old ++ (some ++ more)
added_after old middle new some more first then =
    then ∙ ap (λ (x : List Token). x ++ more) first ∙ append_assoc old some more
