-- How the edits of a rename are written.
use Rattle.std.specs.List.{flat_map}
use Rattle.std.specs.Prelude.{ℕ, List, [], ◌∷◌, ◌++◌, map}
use Rattle.json.specs.Token.{Token, begin_array, end_array, key}
use Rattle.json.specs.Tree.{json_tokens}
use Rattle.apollo_tree.specs.Order.{Place, range_at}
use Rattle.gqlls_server.specs.Renaming.{KnownFile, edit_of}
use Rattle.gqlls_server.specs.State.{known_of}
use Rattle.gqlls_server.specs.declared.documents.Known.{Known}

-- the tokens of the edits of some ranges of a document
abbrev pub range_tokens : KnownFile → List ℕ → List (ℕ × ℕ) → List Token
range_tokens one name = flat_map (λ (range : ℕ × ℕ). json_tokens (edit_of one.1.file name range))

-- those of the document's member, if there are some
abbrev pub edit_tokens : KnownFile → List ℕ → List (ℕ × ℕ) → List Token
edit_tokens one name [] = []
edit_tokens one name (range ∷ ranges) =
    key one.0 ∷ (begin_array ∷ (range_tokens one name (range ∷ ranges) ++ end_array ∷ []))

-- those of the member of a document that is known
abbrev pub known_tokens : (KnownFile → List Place) → List ℕ → Known → List Token
known_tokens places name known = edit_tokens (known_of known) name (map range_at (places (known_of known)))

-- those of all documents' members
abbrev pub edits_tokens : (KnownFile → List Place) → List ℕ → List KnownFile → List Token
edits_tokens places name = flat_map (λ (one : KnownFile). edit_tokens one name (map range_at (places one)))
