-- Edits by byte offsets, as a client makes them.
use Rattle.std.proofs.Common.{◌≡◌, ◌==◌, ◌≤◌, Bool, ℕ, zero, suc, ◌+◌, ◌-◌, List, [], ◌∷◌, ◌++◌, append_assoc, arith}
use Rattle.std.proofs.Common.{ap, drop, length, map, drop-drop, length-append, length-drop, refl, subst, sym, take, ◌∙◌}
use Rattle.std.proofs.Common.{inl, inr}
use Rattle.std.proofs.Math.Seq.{take-add}
use Rattle.std.proofs.lemmas.Bool.{cases_Bool}
use Rattle.std.proofs.lemmas.List.Concat.{flat_map-cons}
use Rattle.std.proofs.lemmas.Str.{chars-nil, IsCharBoundary-from_drop, IsUtf8-append, IsUtf8-between, IsUtf8-drop}
use Rattle.std.proofs.lemmas.Str.{IsUtf8-take}
use Rattle.std.specs.List.{flat_map}
use Rattle.std.specs.Prelude.{◌&&◌, if◌then◌else◌, slice_index, slice_range}
use Rattle.std.specs.Str.{IsCharBoundary, IsUtf8}
use Rattle.json.specs.Token.{Token, begin_array, end_array}
use Rattle.json.specs.Tree.{items_tokens, json_tokens}
use Rattle.line_index.proofs.TextLemmas.{units-append}
use Rattle.line_index.specs.Positions.{IsCursor, offset_of, units, units_of}
use Rattle.line_index.specs.declared.PositionEncoding.{PositionEncoding}
use Rattle.editor_diagnostics.proofs.Cursors.{read_at}
use Rattle.editor_diagnostics.specs.Positions.{cursor_at, position_of}
use Rattle.editor_text.proofs.EditLemmas.{back, front, mono}
use Rattle.editor_text.specs.Answered.{AreEditsOf, edit_tokens, text_edit}
use Rattle.editor_text.specs.Edited.{AreApart, TextEdit, edited, edits_value, items_of_edits}
use Rattle.editor_text.specs.Finding.{AreAfter, AreEdits, spliced}
use Rattle.editor_text.specs.declared.differences.Edit.{Edit}

-- ---- offsets

cursor_stays : (text : List ℕ) (k : ℕ) → IsCursor text k → cursor_at text k ≡ k
cursor_stays text zero cursor = refl
cursor_stays text (suc k) cursor = elim (cases_Bool (slice_index text k == 13 && slice_index text (suc k) == 10)) [
  | inl both ↦ absurd (cursor.apart k refl both)
  | inr apart ↦ ap (λ (b : Bool). if b then k else suc k) apart
]

-- how many units are in front of a byte offset
abbrev before : PositionEncoding → List ℕ → ℕ → ℕ
before e text k = length (units e (take k text))

read : (e : PositionEncoding) (text : List ℕ) (k : ℕ) → IsUtf8 text → IsCursor text k
    → offset_of e (units e text) (position_of e text k) ≡ before e text k
read e text k utf8 cursor = read_at e text k utf8 cursor.boundary ∙ ap (before e text) (cursor_stays text k cursor)

units_between : (e : PositionEncoding) (text : List ℕ) (a b : ℕ) → IsUtf8 text → a ≤ b → IsCharBoundary text a
    → IsCharBoundary text b
    → slice_range (units e text) (before e text a) (before e text b) ≡ units e (slice_range text a b)
units_between e text a b u le x y =
    let to : a + (b - a) ≡ b = omega arith in
    let rest : IsUtf8 (drop a text) = IsUtf8-drop text a u x in
    let after : IsUtf8 (drop (b - a) (drop a text)) =
    subst IsUtf8 (sym (drop-drop (b - a) a text ∙ ap (λ (n : ℕ). drop n text) to)) (IsUtf8-drop text b u y) in
    let fits : b - a ≤ length (drop a text) = (let left = length-drop a text in omega (arith, left, y.0)) in
    let parts : take b text ≡ take a text ++ slice_range text a b =
    ap (λ (n : ℕ). take n text) (sym to) ∙ take-add a (b - a) text in
    let count : before e text b ≡ before e text a + length (units e (slice_range text a b)) =
    ap (λ (x : List ℕ). length (units e x)) parts
    ∙ ap length (units-append e (take a text) (slice_range text a b) (IsUtf8-take text a u x)
    (IsUtf8-between text a b u le x y))
    ∙ length-append (units e (take a text)) (units e (slice_range text a b)) in
    let more : length (units e (slice_range text a b)) ≡ before e text b - before e text a = omega (arith, count) in
    ap (λ (v : List ℕ). take (before e text b - before e text a) v) (back e text a (before e text a) u x refl)
    ∙ front e (drop a text) (b - a) (before e text b - before e text a) rest
    (IsCharBoundary-from_drop (drop a text) (b - a) fits after) more

-- ---- edits

spliced_utf8 : (text : List ℕ) (from : ℕ) (edits : List Edit) → IsUtf8 text → IsCursor text from
    → AreAfter text from edits → IsUtf8 (spliced text from edits)
spliced_utf8 text from [] u at after = IsUtf8-drop text from u at.boundary
spliced_utf8 text from (edit ∷ edits) u at after =
    IsUtf8-append _ _ (IsUtf8-between text from edit.start u after.0.after at.boundary after.0.starts.boundary)
    (IsUtf8-append _ _ after.0.utf8 (spliced_utf8 text edit.end edits u after.0.ends after.1))

makes : (e : PositionEncoding) (text : List ℕ) (from : ℕ) (edits : List Edit) → IsUtf8 text → IsCursor text from
    → AreAfter text from edits
    → edited e (units e text) (before e text from) (map (text_edit e text) edits) ≡ units e (spliced text from edits)
makes e text from [] u at after = back e text from (before e text from) u at.boundary refl
makes e text from (edit ∷ edits) u at after =
    let first = after.0 in
    let unit : List ℕ = units e text in
    let more : List TextEdit = map (text_edit e text) edits in
    let rest : List ℕ = spliced text edit.end edits in
    let rest_utf8 : IsUtf8 rest = spliced_utf8 text edit.end edits u first.ends after.1 in
    ap (λ (k : ℕ). slice_range unit (before e text from) k
    ++ (units e edit.text.now ++ edited e unit (offset_of e unit (position_of e text edit.end)) more))
    (read e text edit.start u first.starts)
    ∙ ap (λ (k : ℕ). slice_range unit (before e text from) (before e text edit.start)
    ++ (units e edit.text.now ++ edited e unit k more))
    (read e text edit.end u first.ends)
    ∙ ap (λ (x : List ℕ). slice_range unit (before e text from) (before e text edit.start)
    ++ (units e edit.text.now ++ x))
    (makes e text edit.end edits u first.ends after.1)
    ∙ ap (λ (x : List ℕ). x ++ (units e edit.text.now ++ units e rest))
    (units_between e text from edit.start u first.after at.boundary first.starts.boundary)
    ∙ ap (λ (x : List ℕ). units e (slice_range text from edit.start) ++ x)
    (sym (units-append e edit.text.now rest first.utf8 rest_utf8))
    ∙ sym (units-append e (slice_range text from edit.start) (edit.text.now ++ rest)
    (IsUtf8-between text from edit.start u first.after at.boundary first.starts.boundary)
    (IsUtf8-append _ _ first.utf8 rest_utf8))

apart : (e : PositionEncoding) (text : List ℕ) (from : ℕ) (edits : List Edit) → IsUtf8 text → IsCursor text from
    → AreAfter text from edits
    → AreApart e (units e text) (before e text from) (map (text_edit e text) edits)
apart e text from [] u at after = tt
apart e text from (edit ∷ edits) u at after =
    let first = after.0 in
    let starts = read e text edit.start u first.starts in
    let ends = read e text edit.end u first.ends in (
      subst (λ (k : ℕ). before e text from ≤ k) (sym starts)
          (mono e text from edit.start u first.after at.boundary first.starts.boundary),
      subst (λ (k : ℕ). k ≤ offset_of e (units e text) (position_of e text edit.end)) (sym starts)
          (subst (λ (k : ℕ). before e text edit.start ≤ k) (sym ends)
          (mono e text edit.start edit.end u first.ordered first.starts.boundary first.ends.boundary)),
      subst (λ (k : ℕ). AreApart e (units e text) k (map (text_edit e text) edits)) (sym ends)
          (apart e text edit.end edits u first.ends after.1),
    )

begins : (text : List ℕ) → IsUtf8 text → IsCursor text 0
begins text u = record {
  boundary = IsCharBoundary-from_drop text 0 (omega arith) u;
  apart = λ j is both. (let never : ⊥ = omega (arith, is) in never);
}

none_before : (e : PositionEncoding) (text : List ℕ) → before e text 0 ≡ 0
none_before e text = ap (λ (cs : List ℕ). length (flat_map (units_of e) cs)) chars-nil

pub edits_of : (e : PositionEncoding) (old new : List ℕ) (edits : List Edit) → AreEdits old new edits
    → AreEditsOf e old new (edits_value (map (text_edit e old) edits))
edits_of e old new edits are = record {
  edits = map (text_edit e old) edits;
  is = refl;
  makes = λ u. record {
    apart = subst (λ (k : ℕ). AreApart e (units e old) k (map (text_edit e old) edits)) (none_before e old)
        (apart e old 0 edits u (begins old u) are.after);
    made = ap (λ (k : ℕ). edited e (units e old) k (map (text_edit e old) edits)) (sym (none_before e old))
        ∙ makes e old 0 edits u (begins old u) are.after ∙ ap (units e) are.made;
  };
}

-- ---- their JSON

items : (e : PositionEncoding) (text : List ℕ) (edits : List Edit)
    → items_tokens (items_of_edits (map (text_edit e text) edits)) ≡ flat_map (edit_tokens e text) edits
    ++ end_array ∷ []
items e text [] = refl
items e text (edit ∷ edits) =
    ap (λ (x : List Token). edit_tokens e text edit ++ x) (items e text edits)
    ∙ sym (append_assoc (edit_tokens e text edit) (flat_map (edit_tokens e text) edits) (end_array ∷ []))
    ∙ ap (λ (x : List Token). x ++ end_array ∷ []) (sym (flat_map-cons (edit_tokens e text) edit edits))

pub result_tokens : (e : PositionEncoding) (text : List ℕ) (edits : List Edit)
    → begin_array ∷ (flat_map (edit_tokens e text) edits ++ end_array ∷ [])
    ≡ json_tokens (edits_value (map (text_edit e text) edits))
result_tokens e text edits = ap (λ (x : List Token). begin_array ∷ x) (sym (items e text edits))

pub written : (begun one two three four es : List Token) → one ≡ begun → two ≡ one ++ begin_array ∷ []
    → three ≡ two ++ es → four ≡ three ++ end_array ∷ []
    → four ≡ begun ++ begin_array ∷ (es ++ end_array ∷ [])
written begun one two three four es p q r s =
    s ∙ ap (λ (x : List Token). x ++ end_array ∷ [])
    (r ∙ ap (λ (x : List Token). x ++ es) (q ∙ ap (λ (x : List Token). x ++ begin_array ∷ []) p))
    ∙ append_assoc (begun ++ begin_array ∷ []) es (end_array ∷ [])
    ∙ append_assoc begun (begin_array ∷ []) (es ++ end_array ∷ [])
