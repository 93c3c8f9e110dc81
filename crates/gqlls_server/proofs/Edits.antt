-- The edits of a rename, as they are written.
use Rattle.std.proofs.Common.{◌≡◌, ◌≢◌, ℕ, List, [], ◌∷◌, ◌++◌, ap, append_assoc, map, refl, sym, ◌∙◌}
use Rattle.std.proofs.lemmas.List.Concat.{flat_map-cons}
use Rattle.std.proofs.lemmas.List.Folds.{flat_map-map}
use Rattle.std.specs.List.{flat_map}
use Rattle.std.specs.Prelude.{codes}
use Rattle.json.specs.Json.{Members}
use Rattle.json.specs.Token.{Token, begin_array, begin_object, end_array, end_object, key}
use Rattle.json.specs.Tree.{items_tokens, json_tokens, members_tokens}
use Rattle.apollo_tree.specs.Order.{Place, range_at}
use Rattle.line_index.specs.declared.PositionEncoding.{PositionEncoding}
use Rattle.editor_answers.proofs.Added.{added_after}
use Rattle.editor_answers.specs.Parts.{bounds}
use Rattle.editor_answers.specs.Results.{change_tokens}
use Rattle.editor_answers.specs.declared.span.Span.{Span}
use Rattle.gqlls_server.specs.Edits.{edit_tokens, edits_tokens, known_tokens, range_tokens}
use Rattle.gqlls_server.specs.Renaming.{KnownFile, edit_of, edits_of, items_of, with_edits, workspace_edit}
use Rattle.gqlls_server.specs.State.{known_of}
use Rattle.gqlls_server.specs.declared.documents.Known.{Known}

items_written : (one : KnownFile) (name : List ℕ) (ranges : List (ℕ × ℕ))
    → items_tokens (items_of (map (edit_of one.1.file name) ranges)) ≡ range_tokens one name ranges ++ end_array ∷ []
items_written one name [] = refl
items_written one name (range ∷ ranges) =
    let edit = λ (r : ℕ × ℕ). json_tokens (edit_of one.1.file name r) in
    ap (λ (x : List Token). edit range ++ x) (items_written one name ranges)
    ∙ sym (append_assoc (edit range) (range_tokens one name ranges) (end_array ∷ []))
    ∙ ap (λ (x : List Token). x ++ end_array ∷ []) (sym (flat_map-cons edit range ranges))

member_written : (one : KnownFile) (name : List ℕ) (ranges : List (ℕ × ℕ)) (others : Members)
    → members_tokens (with_edits one name ranges others) ≡ edit_tokens one name ranges ++ members_tokens others
member_written one name [] others = refl
member_written one name (range ∷ ranges) others =
    ap (λ (x : List Token). key one.0 ∷ (begin_array ∷ (x ++ members_tokens others)))
    (items_written one name (range ∷ ranges))

members_written : (places : KnownFile → List Place) (name : List ℕ) (known : List KnownFile)
    → members_tokens (edits_of places name known) ≡ edits_tokens places name known ++ end_object ∷ []
members_written places name [] = refl
members_written places name (one ∷ known) =
    let tokens = λ (one : KnownFile). edit_tokens one name (map range_at (places one)) in
    member_written one name (map range_at (places one)) (edits_of places name known)
    ∙ ap (λ (x : List Token). tokens one ++ x) (members_written places name known)
    ∙ sym (append_assoc (tokens one) (edits_tokens places name known) (end_object ∷ []))
    ∙ ap (λ (x : List Token). x ++ end_object ∷ []) (sym (flat_map-cons tokens one known))

-- the result, by the tokens of its pieces
pub result_written : (places : KnownFile → List Place) (name : List ℕ) (known : List Known)
    (front middle whole : List Token)
    → front ≡ begin_object ∷ key (codes "changes") ∷ begin_object ∷ []
    → middle ≡ front ++ flat_map (known_tokens places name) known
    → whole ≡ middle ++ end_object ∷ end_object ∷ []
    → whole ≡ json_tokens (workspace_edit places name (map known_of known))
result_written places name known front middle whole begins goes_on ends =
    let edits = edits_tokens places name (map known_of known) in
    let same : flat_map (known_tokens places name) known ≡ edits =
    sym (flat_map-map (λ (one : KnownFile). edit_tokens one name (map range_at (places one))) known_of known) in
    let begun = λ (x : List Token). begin_object ∷ key (codes "changes") ∷ begin_object ∷ x in
    ends ∙ ap (λ (x : List Token). x ++ end_object ∷ end_object ∷ [])
    (goes_on ∙ ap (λ (x : List Token). x ++ flat_map (known_tokens places name) known) begins ∙ ap begun same)
    ∙ ap begun (sym (append_assoc edits (end_object ∷ []) (end_object ∷ [])))
    ∙ ap (λ (x : List Token). begun (x ++ end_object ∷ [])) (sym (members_written places name (map known_of known)))

-- the edits of parts of a document, in its text
pub parts_written : (one : KnownFile) (name : List ℕ) (found : List Span) (encoding : PositionEncoding) (text : List ℕ)
    → found ≢ [] → encoding ≡ one.1.file.content.encoding → text ≡ one.1.file.content.text
    → key one.0 ∷ (begin_array ∷ (flat_map (change_tokens encoding text name) found ++ end_array ∷ []))
    ≡ edit_tokens one name (map bounds found)
parts_written one name [] encoding text some same_encoding same_text = absurd (some refl)
parts_written one name (part ∷ found) encoding text some same_encoding same_text =
    let written = λ (x : List Token). key one.0 ∷ (begin_array ∷ (x ++ end_array ∷ [])) in
    ap (λ (e : PositionEncoding). written (flat_map (change_tokens e text name) (part ∷ found))) same_encoding
    ∙ ap (λ (t : List ℕ). written (flat_map (change_tokens one.1.file.content.encoding t name) (part ∷ found)))
    same_text
    ∙ ap written (sym (flat_map-map (λ (range : ℕ × ℕ). json_tokens (edit_of one.1.file name range))
    bounds (part ∷ found)))

-- the same, after some pieces
pub pieces_written : (one : KnownFile) (name : List ℕ) (found : List Span) (encoding : PositionEncoding) (text : List ℕ)
    (old first second new : List Token)
    → found ≢ [] → encoding ≡ one.1.file.content.encoding → text ≡ one.1.file.content.text
    → first ≡ old ++ key one.0 ∷ begin_array ∷ [] → second ≡ first ++ flat_map (change_tokens encoding text name) found
    → new ≡ second ++ end_array ∷ []
    → new ≡ old ++ edit_tokens one name (map bounds found)
pieces_written one name found encoding text old first second new some same_encoding same_text begins goes_on ends =
    let changes = flat_map (change_tokens encoding text name) found in
    added_after old first new (key one.0 ∷ begin_array ∷ []) (changes ++ end_array ∷ []) begins
    (added_after first second new changes (end_array ∷ []) goes_on ends)
    ∙ ap (λ (x : List Token). old ++ x) (parts_written one name found encoding text some same_encoding same_text)
