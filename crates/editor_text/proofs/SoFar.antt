-- Edits up to two offsets.
use Rattle.std.proofs.Common.{◌≡◌, ◌≤◌, ℕ, ◌+◌, ◌-◌, List, [], ◌∷◌, ◌++◌, append_assoc, arith, ap, drop, refl, subst}
use Rattle.std.proofs.Common.{sym, take, ◌∙◌}
use Rattle.std.proofs.Math.Seq.{take-add}
use Rattle.std.proofs.lemmas.List.{append-nil, take-append-drop}
use Rattle.std.proofs.lemmas.Str.{IsCharBoundary-from_drop}
use Rattle.std.specs.Prelude.{slice_range}
use Rattle.std.specs.Str.{IsCharBoundary, IsUtf8}
use Rattle.line_index.specs.Positions.{IsCursor}
use Rattle.editor_text.specs.Finding.{AreAfter, AreEdits, IsStep, spliced}
use Rattle.editor_text.specs.declared.differences.Edit.{Edit}
use Rattle.editor_text.specs.declared.differences.Step.{Step}

-- the edits so far make the new text up to one offset of the old text up to another, whatever edits come after them
pub record AreSoFar (old new : List ℕ) (from to : ℕ) (edits : List Edit) : Type 0 where
  pub cursor : IsCursor old from
  pub boundary : IsCharBoundary new to
  pub after : (more : List Edit) → AreAfter old from more → AreAfter old 0 (edits ++ more)
  pub made : (more : List Edit) → spliced old 0 (edits ++ more) ≡ take to new ++ spliced old from more

-- a part after the front of a text
front_and : (text : List ℕ) (a b : ℕ) → a ≤ b → take a text ++ slice_range text a b ≡ take b text
front_and text a b le =
    let to : a + (b - a) ≡ b = omega arith in sym (ap (λ (n : ℕ). take n text) (sym to) ∙ take-add a (b - a) text)

made_of : (old new : List ℕ) (from to : ℕ) (step : Step) (edits more : List Edit) (edit : Edit)
    → IsStep old new from to step
    → edit.start ≡ step.start → edit.end ≡ step.end → edit.text.now ≡ slice_range new step.text_start step.text_end
    → spliced old 0 (edits ++ (edit ∷ more)) ≡ take to new ++ spliced old from (edit ∷ more)
    → spliced old 0 (edits ++ (edit ∷ more)) ≡ take step.text_end new ++ spliced old step.end more
made_of old new from to step edits more edit is start end text so =
    let rest : List ℕ = spliced old step.end more in
    let parts : spliced old from (edit ∷ more) ≡ slice_range new to step.text_start
    ++ (slice_range new step.text_start step.text_end ++ rest) =
    ap (λ (k : ℕ). slice_range old from k ++ (edit.text.now ++ spliced old edit.end more)) start
    ∙ ap (λ (k : ℕ). slice_range old from step.start ++ (edit.text.now ++ spliced old k more)) end
    ∙ ap (λ (x : List ℕ). slice_range old from step.start ++ (x ++ rest)) text
    ∙ ap (λ (x : List ℕ). x ++ (slice_range new step.text_start step.text_end ++ rest)) is.same in
    so ∙ ap (λ (x : List ℕ). take to new ++ x) parts
    ∙ sym (append_assoc (take to new) (slice_range new to step.text_start)
    (slice_range new step.text_start step.text_end ++ rest))
    ∙ ap (λ (x : List ℕ). x ++ (slice_range new step.text_start step.text_end ++ rest))
    (front_and new to step.text_start is.text_after)
    ∙ sym (append_assoc (take step.text_start new) (slice_range new step.text_start step.text_end) rest)
    ∙ ap (λ (x : List ℕ). x ++ rest) (front_and new step.text_start step.text_end is.text_ordered)

-- one more edit
pub one_more : (old new : List ℕ) (from to : ℕ) (step : Step) (edits : List Edit) (edit : Edit)
    → AreSoFar old new from to edits → IsStep old new from to step
    → edit.start ≡ step.start → edit.end ≡ step.end → edit.text.now ≡ slice_range new step.text_start step.text_end
    → IsUtf8 edit.text.now
    → AreSoFar old new step.end step.text_end (edits ++ edit ∷ [])
one_more old new from to step edits edit so is start end text utf8 = record {
  cursor = is.ends;
  boundary = is.text_ends;
  after = λ more later. subst (λ (x : List Edit). AreAfter old 0 x) (sym (append_assoc edits (edit ∷ []) more))
      (so.after (edit ∷ more) (
        record {
          after = subst (λ (k : ℕ). from ≤ k) (sym start) is.after;
          ordered = subst (λ (k : ℕ). k ≤ edit.end) (sym start)
              (subst (λ (k : ℕ). step.start ≤ k) (sym end) is.ordered);
          starts = subst (IsCursor old) (sym start) is.starts;
          ends = subst (IsCursor old) (sym end) is.ends;
          utf8 = utf8;
        },
        subst (λ (k : ℕ). AreAfter old k more) (sym end) later,
      ));
  made = λ more. ap (λ (x : List Edit). spliced old 0 x) (append_assoc edits (edit ∷ []) more)
      ∙ made_of old new from to step edits more edit is start end text (so.made (edit ∷ more));
}

-- all of them, where the rest is the same
pub finished : (old new : List ℕ) (from to : ℕ) (edits : List Edit) → AreSoFar old new from to edits
    → drop from old ≡ drop to new → AreEdits old new edits
finished old new from to edits so same = record {
  after = subst (λ (x : List Edit). AreAfter old 0 x) (append-nil edits) (so.after [] tt);
  made = ap (λ (x : List Edit). spliced old 0 x) (sym (append-nil edits)) ∙ so.made []
      ∙ ap (λ (x : List ℕ). take to new ++ x) same ∙ take-append-drop to new;
}

-- none
pub none_yet : (old new : List ℕ) → IsUtf8 old → IsUtf8 new → AreSoFar old new 0 0 []
none_yet old new utf8 new_utf8 = record {
  cursor = record {
    boundary = IsCharBoundary-from_drop old 0 (omega arith) utf8;
    apart = λ j is both. (let never : ⊥ = omega (arith, is) in never);
  };
  boundary = IsCharBoundary-from_drop new 0 (omega arith) new_utf8;
  after = λ more later. later;
  made = λ more. refl;
}
