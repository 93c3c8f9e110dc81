-- Bytes that begin no frame, by the name of its first field.
use Rattle.std.proofs.Common.{◌≡◌, ℕ, ◌+◌, ◌-◌, ◌<◌, ◌≤◌, true, false, Some, None, List, [], ◌∷◌, ◌++◌, ap}
use Rattle.std.proofs.Common.{append_assoc, arith, drop, inl, inr, length, length-append, map, max, subst, sym, take}
use Rattle.std.proofs.Common.{◌∙◌}
use Rattle.std.proofs.Math.ListN.{get_or-append}
use Rattle.std.proofs.Math.Seq.{get_or-append_seam, take-length}
use Rattle.std.proofs.lemmas.Bool.{cases_lt, false≢true}
use Rattle.std.proofs.lemmas.List.{drop-drop, get_or-drop, length-drop}
use Rattle.std.proofs.lemmas.List.Concat.{flat_map-cons}
use Rattle.std.specs.List.{flat_map}
use Rattle.std.specs.Prelude.{◌≢◌, slice_index}
use Rattle.httparse.specs.Grammar.{Field, IsField, LineEnd, ReadsSection, is_token_byte, print_end, print_field}
use Rattle.httparse.specs.Grammar.{print_section}
use Rattle.httparse.specs.Spans.{name_and_value}
use Rattle.rpc_serving.specs.Frames.{AreGarbage, BeginsWithFrame, IsSkipped, NeverHasFrame, length_in}

-- ---- the name of the first field

-- the bytes begin with a name and a colon
record IsNamed (bytes : List ℕ) (count : ℕ) : Type 0 where
  some : 0 < count
  short : count < 4096
  name : (j : ℕ) → j < count → is_token_byte (slice_index bytes j) ≡ true
  colon : slice_index bytes count ≡ 58

no-length : (n : ℕ) → None ≡ Some n → ⊥
no-length n e = cc

-- a section with a field begins with that field's name and a colon
front : (field : Field) (fields : List Field) (last : LineEnd)
    → print_section (field ∷ fields) last ≡ field.name
    ++ 58 ∷ (field.raw ++ (print_end field.end ++ (flat_map print_field fields ++ print_end last)))
front field fields last =
    ap (λ (x : List ℕ). x ++ print_end last) (flat_map-cons print_field field fields)
    ∙ append_assoc (print_field field) (flat_map print_field fields) (print_end last)
    ∙ append_assoc (field.name ++ 58 ∷ field.raw) (print_end field.end) (flat_map print_field fields ++ print_end last)
    ∙ append_assoc field.name (58 ∷ field.raw) (print_end field.end ++ (flat_map print_field fields ++ print_end last))

named : (bytes name tail rest : List ℕ) → bytes ≡ (name ++ 58 ∷ tail) ++ rest → 0 < length name
    → length (name ++ 58 ∷ tail) ≤ 4096
    → ((j : ℕ) → j < length name → is_token_byte (slice_index name j) ≡ true) → IsNamed bytes (length name)
named bytes name tail rest eq some short tokens =
    let is : bytes ≡ name ++ 58 ∷ (tail ++ rest) = eq ∙ append_assoc name (58 ∷ tail) rest in
    record {
      some = some;
      short = omega (arith, short, length-append name (58 ∷ tail));
      name = λ j less. ap (λ (b : List ℕ). is_token_byte (slice_index b j)) is
          ∙ ap is_token_byte (get_or-append name (58 ∷ (tail ++ rest)) 0 j less) ∙ tokens j less;
      colon = ap (λ (b : List ℕ). slice_index b (length name)) is ∙ get_or-append_seam name 58 (tail ++ rest) 0;
    }

named_by : (bytes frame body rest : List ℕ) (fields : List Field) (last : LineEnd) (n : ℕ)
    → ReadsSection frame fields last body
    → length_in (map name_and_value fields) ≡ Some n → length (print_section fields last) ≤ 4096 → bytes ≡ frame ++ rest
    → (count : ℕ) × IsNamed bytes count
named_by bytes frame body rest [] last n reads says short eq = absurd (no-length n says)
named_by bytes frame body rest (field ∷ fields) last n reads says short eq =
    let tail : List ℕ = field.raw ++ (print_end field.end ++ (flat_map print_field fields ++ print_end last)) in
    let section = reads.1 ∙ ap (λ (x : List ℕ). x ++ body) (front field fields last) in
    let is : bytes ≡ (field.name ++ 58 ∷ tail) ++ (body ++ rest) =
    eq ∙ ap (λ (x : List ℕ). x ++ rest) section ∙ append_assoc (field.name ++ 58 ∷ tail) body rest in
    let checked : IsField field = reads.0 0 field (omega arith) in (
      length field.name,
      named bytes field.name tail (body ++ rest) is checked.name.0
          (subst (λ (x : List ℕ). length x ≤ 4096) (front field fields last) short)
          (λ j less. checked.name.1 j 0 less),
    )

name_of : (bytes body rest : List ℕ) → BeginsWithFrame bytes body rest → (count : ℕ) × IsNamed bytes count
name_of bytes body rest begins =
    let f = begins.1 in named_by bytes begins.0 body rest f.fields f.last _ f.head f.says f.short begins.2

-- ---- bytes without such a name

same_byte : (bytes more : List ℕ) (j : ℕ) → j < length bytes → slice_index (bytes ++ more) j ≡ slice_index bytes j
same_byte bytes more j less = get_or-append bytes more 0 j less

colon_is_no_token : (n : ℕ) → n ≡ 58 → is_token_byte n ≡ true → ⊥
unfolding is_token_byte
colon_is_no_token n is token = false≢true (ap is_token_byte (sym is) ∙ token)

-- the name would have another byte than those of names
ended : (bytes : List ℕ) (end : ℕ) → end < length bytes
    → ((j : ℕ) → j < end → is_token_byte (slice_index bytes j) ≡ true)
    → is_token_byte (slice_index bytes end) ≡ false → (0 < end → slice_index bytes end ≢ 58) → NeverHasFrame bytes
ended bytes end within tokens stops no_colon more body rest begins =
    let found = name_of (bytes ++ more) body rest begins in
    let name = found.1 in
    elim (cases_lt found.0 end) [
      | inl before ↦ colon_is_no_token (slice_index bytes found.0)
          (sym (same_byte bytes more found.0 (omega (arith, before, within))) ∙ name.colon)
          (tokens found.0 before)
      | inr after ↦ elim (cases_lt end found.0) [
        | inl behind ↦ false≢true
            (sym stops ∙ (ap is_token_byte (sym (same_byte bytes more end within)) ∙ name.name end behind))
        | inr at ↦
            let same : found.0 ≡ end = omega (arith, after, at) in
            no_colon (omega (arith, same, name.some))
            (sym (same_byte bytes more end within) ∙ ap (slice_index (bytes ++ more)) (sym same) ∙ name.colon)
      ]
    ]

-- the name would be longer than a head
endless : (bytes : List ℕ) → 4096 ≤ length bytes
    → ((j : ℕ) → j < length bytes → is_token_byte (slice_index bytes j) ≡ true) → NeverHasFrame bytes
endless bytes long tokens more body rest begins =
    let found = name_of (bytes ++ more) body rest begins in
    let within : found.0 < length bytes = omega (arith, long, found.1.short) in
    colon_is_no_token (slice_index bytes found.0) (sym (same_byte bytes more found.0 within) ∙ found.1.colon)
    (tokens found.0 within)

module _ (bytes : List ℕ) (name : ℕ) (tokens : (j : ℕ) → j < name → is_token_byte (slice_index bytes j) ≡ true) where
  token_behind : (k j : ℕ) → k + j < name → is_token_byte (slice_index (drop k bytes) j) ≡ true
  token_behind k j less = ap is_token_byte (get_or-drop k bytes j 0) ∙ tokens (k + j) less

  -- up to a byte that no name has, where that is no colon behind a name
  pub stopped : name < length bytes → is_token_byte (slice_index bytes name) ≡ false
      → (0 < name → slice_index bytes name ≢ 58)
      → AreGarbage bytes (name + 1)
  stopped within stops no_colon k less =
      let to : k + (name - k) ≡ name = omega (arith, less) in
      let byte : slice_index (drop k bytes) (name - k) ≡ slice_index bytes name =
      get_or-drop k bytes (name - k) 0 ∙ ap (slice_index bytes) to in
      ended (drop k bytes) (name - k) (omega (arith, length-drop k bytes, within, less))
      (λ j before. token_behind k j (omega (arith, before)))
      (ap is_token_byte byte ∙ stops) (λ some is. no_colon (omega (arith, some)) (sym byte ∙ is))

  -- up to the last that a head may be shorter than
  pub unstopped : name ≡ length bytes → (count : ℕ) → count ≡ name + 1 - 4096 → AreGarbage bytes count
  unstopped whole count is k less =
      endless (drop k bytes) (omega (arith, length-drop k bytes, whole, is, less))
      (λ j within. token_behind k j (omega (arith, within, length-drop k bytes, whole, is, less)))

-- ---- one part after the other

pub none : (bytes : List ℕ) → AreGarbage bytes 0
none bytes k less = absurd (omega (arith, less))

pub rest : (bytes : List ℕ) (passed : ℕ) → take (length bytes - passed) (drop passed bytes) ≡ drop passed bytes
rest bytes passed = ap (λ (n : ℕ). take n (drop passed bytes)) (sym (length-drop passed bytes))
    ∙ take-length (drop passed bytes)

pub joined : (bytes : List ℕ) (passed count : ℕ) → AreGarbage bytes passed → AreGarbage (drop passed bytes) count
    → AreGarbage bytes (passed + count)
joined bytes passed count first second k less = elim (cases_lt k passed) [
  | inl before ↦ first k before
  | inr behind ↦
      let to : passed + (k - passed) ≡ k = omega (arith, behind) in
      subst NeverHasFrame (drop-drop (k - passed) passed bytes ∙ ap (λ (n : ℕ). drop n bytes) to)
      (second (k - passed) (omega (arith, less, behind)))
]

-- what is left out, and one byte at least
pub skipped : (old : List ℕ) (passed count : ℕ) (new : List ℕ) → count ≡ max passed 1 → new ≡ drop count old
    → AreGarbage old passed → IsSkipped old new
skipped old passed count new is left garbage = record {
  count = count;
  some = omega (arith, is);
  left = left;
  garbage = λ k some less. garbage k (omega (arith, is, some, less));
}
