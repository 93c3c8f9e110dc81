-- The answer to the first request.
use Rattle.std.proofs.Common.{◌≡◌, refl, Bool, true, false, ℕ, List, [], ◌∷◌, ◌++◌, ap, append_assoc, ◌∙◌, drop}
use Rattle.std.proofs.lemmas.Grind.{flat_map-append}
use Rattle.std.specs.List.{flat_map}
use Rattle.std.specs.Prelude.{codes}
use Rattle.json.specs.Json.{Json}
use Rattle.json.specs.Token.{Token, begin_object, key, string}
use Rattle.json.specs.Tree.{json_tokens}
use Rattle.line_index.specs.declared.PositionEncoding.{PositionEncoding}
use Rattle.line_index.specs.declared.PositionEncoding.TheVariants.{Utf8, Utf16}
use Rattle.rpc_messages.specs.Answers.{IsAnswerOf}
use Rattle.rpc_messages.specs.Pieces.{tokens_of}
use Rattle.rpc_messages.specs.declared.pieces.Piece.{Piece}
use Rattle.gqlls_server.specs.Announcement.{IsAnnounced, announcement, encoding_name, renaming}

-- the tokens in front of the other capabilities
abbrev pub front_of : PositionEncoding → List Token
front_of encoding = begin_object ∷ key (codes "capabilities") ∷ begin_object ∷ key (codes "positionEncoding")
    ∷ string (encoding_name encoding) ∷ []

whole : (encoding : PositionEncoding) (asks_first : Bool) (version : List ℕ)
    → front_of encoding ++ drop 5 (json_tokens (announcement Utf16 asks_first version))
    ≡ json_tokens (announcement encoding asks_first version)
whole Utf8 true version = refl
whole Utf8 false version = refl
whole Utf16 true version = refl
whole Utf16 false version = refl

-- the tokens behind renaming are the same for all clients
pub served : (asks_first : Bool) (version : List ℕ) (others : List Token)
    → others ≡ drop 7 (json_tokens (announcement Utf16 false version))
    → key (codes "renameProvider")
    ∷ (json_tokens (renaming asks_first) ++ others) ≡ drop 5 (json_tokens (announcement Utf16 asks_first version))
served true version others is =
    ap (λ (x : List Token). key (codes "renameProvider") ∷ (json_tokens (renaming true) ++ x)) is
served false version others is =
    ap (λ (x : List Token). key (codes "renameProvider") ∷ (json_tokens (renaming false) ++ x)) is

-- the tokens of pieces that are written one after the other, the first of them for renaming
pub written : (asks_first : Bool) (version : List ℕ)
    (old one two three now renamed served_pieces types end : List Piece)
    → one ≡ old ++ renamed → two ≡ one ++ served_pieces → three ≡ two ++ types → now ≡ three ++ end
    → flat_map tokens_of renamed ≡ key (codes "renameProvider") ∷ json_tokens (renaming asks_first)
    → flat_map tokens_of (served_pieces ++ (types ++ end)) ≡ drop 7 (json_tokens (announcement Utf16 false version))
    → flat_map tokens_of now ≡ flat_map tokens_of old ++ drop 5 (json_tokens (announcement Utf16 asks_first version))
written asks_first version old one two three now renamed served_pieces types end first second third last names others =
    let joined : now ≡ old ++ (renamed ++ (served_pieces ++ (types ++ end))) =
    last ∙ ap (λ (x : List Piece). x ++ end)
    (third ∙ ap (λ (x : List Piece). x ++ types) (second ∙ ap (λ (x : List Piece). x ++ served_pieces) first))
    ∙ append_assoc ((old ++ renamed) ++ served_pieces) types end
    ∙ append_assoc (old ++ renamed) served_pieces (types ++ end)
    ∙ append_assoc old renamed (served_pieces ++ (types ++ end)) in
    ap (flat_map tokens_of) joined ∙ flat_map-append tokens_of old (renamed ++ (served_pieces ++ (types ++ end)))
    ∙ ap (λ (x : List Token). flat_map tokens_of old ++ x)
    (flat_map-append tokens_of renamed (served_pieces ++ (types ++ end))
    ∙ ap (λ (x : List Token). x ++ flat_map tokens_of (served_pieces ++ (types ++ end))) names
    ∙ served asks_first version (flat_map tokens_of (served_pieces ++ (types ++ end))) others)

pub announced : (id : Json) (encoding : PositionEncoding) (asks_first : Bool) (version : List ℕ)
    (front tokens : List Token) (body : List ℕ)
    → front ≡ front_of encoding → tokens ≡ front ++ drop 5 (json_tokens (announcement Utf16 asks_first version))
    → IsAnswerOf id tokens body
    → IsAnnounced id encoding asks_first body
announced id encoding asks_first version front tokens body begins joined answers =
    let all : tokens ≡ json_tokens (announcement encoding asks_first version) =
    joined ∙ ap (λ (x : List Token). x ++ drop 5 (json_tokens (announcement Utf16 asks_first version))) begins
    ∙ whole encoding asks_first version in
    (version, answers.result _ all)
