-- Lines of JSON.
use Rattle.std.proofs.Common.{◌≡◌, ◌∙◌, ℕ, List, [], ◌∷◌, ◌++◌, refl, sym, ap, subst, append_assoc}
use Rattle.std.specs.Prelude.{Bool, codes}
use Rattle.json.specs.Json.{Members, member, no_members, object, string}
use Rattle.json.specs.Token.{Token, begin_array, begin_object, end_array, end_object, key}
use Rattle.json.specs.Tree.{json_tokens, members_tokens}
use Rattle.json.specs.Written.{Written}
use Rattle.marked_lines.specs.Places.{BeginsWith, column_number, line_number}
use Rattle.gqlcheck_run.proofs.Members.{adds_both, object_after}
use Rattle.gqlcheck_run.specs.JsonLines.{Adds, AddsMember, AddsMembers, IsEnded, number_tokens, place_tokens}
use Rattle.gqlcheck_run.specs.Numbers.{capped, json_number}
use Rattle.gqlcheck_run.specs.Places.{BeginsWithJson, BeginsWithLine, BeginsWithResult}
use Rattle.gqlcheck_run.specs.SarifResults.{artifact_location, locations, physical_location, region, region_members}
use Rattle.gqlcheck_run.specs.SarifResults.{separator}

-- ---- a line

-- It grows what was there.
pub grown : (w : Written) (lines output : List ℕ) → w.before ≡ lines → IsEnded w output → BeginsWith output lines
grown w lines output before ended =
    record {
      rest = ended.line ++ 10 ∷ [];
      is = ended.joined
          ∙ ap (λ (b : List ℕ). b ++ (ended.line ++ 10 ∷ [])) before;
    }

-- the same after something else
pub grown_after : (w : Written) (lines part output : List ℕ) → w.before ≡ lines ++ part → IsEnded w output
    → BeginsWith output lines
grown_after w lines part output before ended = record {
  rest = part ++ (ended.line ++ 10 ∷ []);
  is = ended.joined ∙ ap (λ (b : List ℕ). b ++ (ended.line ++ 10 ∷ [])) before
      ∙ append_assoc lines part (ended.line ++ 10 ∷ []);
}

-- Its first members are known.
first_line : (before output : List ℕ) (front : List Token) (first : Members → Members) (w x y : Written)
    → ((others : Members) → front ++ members_tokens others ≡ members_tokens (first others)) → w.before ≡ before
    → w.tokens ≡ begin_object ∷ []
    → Adds front w x → AddsMembers x y → IsEnded y output
    → (others : Members) × BeginsWithLine before (object (first others)) output
first_line before output front first w x y law was began at_front more ended =
    let others : Members = more.are.before no_members in
    let ts : y.tokens ≡ ((begin_object ∷ []) ++ front) ++ more.added =
    more.adds.tokens ∙ ap (λ (ts : List Token). ts ++ more.added)
    (at_front.tokens ∙ ap (λ (ts : List Token). ts ++ front) began) in
    let members : (front ++ more.added) ++ end_object ∷ [] ≡ members_tokens (first others) =
    append_assoc front more.added (end_object ∷ [])
    ∙ ap (λ (ts : List Token). front ++ ts) (more.are.is no_members) ∙ law others in (
      others,
      record {
        line = ended.line;
        is = ended.is ∙ ap (λ (ts : List Token). ts ++ end_object ∷ []) ts
            ∙ ap (λ (ts : List Token). begin_object ∷ ts) members;
        rest = [];
        joined = ended.joined ∙ ap (λ (b : List ℕ). b ++ (ended.line ++ 10 ∷ []))
            (more.adds.before ∙ at_front.before ∙ was);
      },
    )

-- ---- in JSON

pub json_place_line : (name source lines output : List ℕ) (start offset : ℕ) (w x y : Written) → w.before ≡ lines
    → w.tokens ≡ begin_object ∷ []
    → Adds (place_tokens name source start) w x → AddsMembers x y → IsEnded y output → start ≡ offset → lines ≡ []
    → BeginsWithJson name source offset output
json_place_line name source lines output start offset w x y was began placed more ended same empty =
    subst (λ (n : ℕ). BeginsWithJson name source n output) same
    (first_line [] output (place_tokens name source start)
    (λ others. member (codes "file") (string name) (member (codes "line") (json_number (line_number source start))
    (member (codes "column") (json_number (column_number source start)) others)))
    w x y (λ others. refl) (was ∙ empty) began placed more ended)

-- ---- in a SARIF log

pub region_added : (source : List ℕ) (start : ℕ) (a b c d e f : Written)
    → Adds (key (codes "region") ∷ begin_object ∷ []) a b
    → Adds (number_tokens (codes "startLine") (capped (line_number source start))) b c
    → Adds (number_tokens (codes "startColumn") (capped (column_number source start))) c d
    → AddsMembers d e → Adds (end_object ∷ []) e f
    → (others : Members) × AddsMember (codes "region") (region source start others) a f
region_added source start a b c d e f opened line column more closed =
    object_after (codes "region")
    (number_tokens (codes "startLine") (capped (line_number source start))
    ++ number_tokens (codes "startColumn") (capped (column_number source start)))
    (region_members source start) a d e f (λ others. refl)
    (adds_both _ _ a b d opened (adds_both _ _ b c d line column)) more closed

pub location_added : (uri source : List ℕ) (start : ℕ) (others : Members) (a b c d e : Written)
    → Adds (key (codes "physicalLocation") ∷ begin_object ∷ []) a b
    → AddsMember (codes "artifactLocation") (artifact_location uri) b c
    → AddsMember (codes "region") (region source start others) c d → Adds (end_object ∷ []) d e
    → AddsMember (codes "physicalLocation") (physical_location uri source start others) a e
location_added uri source start others a b c d e opened file part closed =
    adds_both _ _ a b e opened (adds_both _ _ b c e file (adds_both _ _ c d e part closed))

pub locations_added : (uri source : List ℕ) (start : ℕ) (others : Members) (a b c d : Written)
    → Adds (key (codes "locations") ∷ begin_array ∷ begin_object ∷ []) a b
    → AddsMember (codes "physicalLocation") (physical_location uri source start others) b c
    → Adds (end_object ∷ end_array ∷ []) c d
    → AddsMember (codes "locations") (locations uri source start others) a d
locations_added uri source start others a b c d opened place closed =
    let at : List Token = json_tokens (physical_location uri source start others) in
    subst (λ (ts : List Token). Adds
    (key (codes "locations") ∷ begin_array ∷ begin_object ∷ key (codes "physicalLocation") ∷ ts) a d)
    (sym (append_assoc at (end_object ∷ []) (end_array ∷ [])))
    (adds_both _ _ a b d opened (adds_both _ _ b c d place closed))

pub result_line : (uri source lines output : List ℕ) (follows : Bool) (within : Members)
    (start offset : ℕ) (w x y : Written)
    → w.before ≡ lines ++ separator follows → w.tokens ≡ begin_object ∷ []
    → AddsMember (codes "locations") (locations uri source start within) w x → AddsMembers x y → IsEnded y output
    → start ≡ offset → lines ≡ []
    → BeginsWithResult uri source offset output
result_line uri source lines output follows within start offset w x y was began placed more ended same empty =
    let it =
    first_line (separator follows) output (key (codes "locations") ∷ json_tokens (locations uri source start within))
    (λ others. member (codes "locations") (locations uri source start within) others) w x y (λ others. refl)
    (was ∙ ap (λ (ls : List ℕ). ls ++ separator follows) empty) began placed more ended in
    subst (λ (n : ℕ). BeginsWithResult uri source n output) same (follows, within, it.0, it.1)
