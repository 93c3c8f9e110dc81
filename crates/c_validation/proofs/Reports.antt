-- The rows of violations and their messages, one after another.
use Rattle.std.proofs.Common.{◌≡◌, ◌∙◌, ◌<◌, ◌+◌, ap, sym, suc, ℕ, List, [], ◌∷◌, ◌++◌, length, map, take, get_or, refl}
use Rattle.std.proofs.Common.{arith}
use Rattle.std.proofs.lemmas.Grind.{flat_map-append}
use Rattle.std.proofs.lemmas.List.{append-nil, length-append, map_more}
use Rattle.validation_rules.specs.Violations.{Breach, as_breach}
use Rattle.validation_rules.specs.declared.violations.Violation.{Violation}
use Rattle.document_validation.specs.Messages.{message_of}
use Rattle.c_validation.specs.Rows.{messages, violation_row, violation_rows}
use Rattle.c_validation.specs.declared.rows.ViolationRow.{ViolationRow}

rows-end : (offset : ℕ) (bs : List Breach) (b : Breach)
    → violation_rows offset (bs ++ b ∷ []) ≡ violation_rows offset bs
    ++ violation_row (offset + length (messages bs)) (message_of b) b ∷ []
rows-end offset [] b = let same : offset ≡ offset + 0 = omega arith in
    ap (λ n. violation_row n (message_of b) b ∷ []) same
rows-end offset (x ∷ bs) b =
    let rest : ℕ = offset + length (message_of x) in
    let same : rest + length (messages bs) ≡ offset + length (message_of x ++ messages bs) =
    omega (arith, length-append (message_of x) (messages bs)) in
    ap (λ (rows : List ViolationRow). violation_row offset (message_of x) x ∷ rows)
    (rows-end rest bs b ∙ ap (λ n. violation_rows rest bs ++ violation_row n (message_of b) b ∷ []) same)

messages-end : (bs : List Breach) (b : Breach) → messages (bs ++ b ∷ []) ≡ messages bs ++ message_of b
messages-end bs b = flat_map-append message_of bs (b ∷ []) ∙ ap (λ end. messages bs ++ end) (append-nil (message_of b))

-- the breaches of the first violations
abbrev pub first : ℕ → List Violation → List Breach
first i vs = map as_breach (take i vs)

-- the rows and the messages after one more violation
pub next-row : (vs : List Violation) (i : ℕ) (v : Violation) (rows more : List ViolationRow) (row : ViolationRow)
    (at : ℕ) (words : List ℕ) → i < length vs
    → v ≡ get_or vs i v → at ≡ length (messages (first i vs)) → words ≡ message_of (as_breach v)
    → row ≡ violation_row at words (as_breach v)
    → rows ≡ violation_rows 0 (first i vs) → more ≡ rows ++ row ∷ [] → more ≡ violation_rows 0 (first (i + 1) vs)
next-row vs i v rows more row at words inside is a w r rs m =
    let last : first (i + 1) vs ≡ first i vs ++ as_breach v ∷ [] =
    map_more as_breach vs i v inside ∙ ap (λ (x : Violation). first i vs ++ as_breach x ∷ []) (sym is) in
    let b : Breach = as_breach v in
    let passed : List Breach = first i vs in
    let offset : at ≡ 0 + length (messages passed) = omega (arith, a) in
    let made : row ≡ violation_row (0 + length (messages passed)) (message_of b) b =
    r ∙ ap (λ n. violation_row n words b) offset
    ∙ ap (λ (said : List ℕ). violation_row (0 + length (messages passed)) said b) w in
    rw last (m ∙ ap (λ (xs : List ViolationRow). xs ++ row ∷ []) rs
    ∙ ap (λ (x : ViolationRow). violation_rows 0 passed ++ x ∷ []) made
    ∙ sym (rows-end 0 passed b))

pub next-messages : (vs : List Violation) (i : ℕ) (v : Violation) (said more words : List ℕ) → i < length vs
    → v ≡ get_or vs i v → words ≡ message_of (as_breach v) → said ≡ messages (first i vs) → more ≡ said ++ words
    → more ≡ messages (first (i + 1) vs)
next-messages vs i v said more words inside is w s m =
    let last : first (i + 1) vs ≡ first i vs ++ as_breach v ∷ [] =
    map_more as_breach vs i v inside ∙ ap (λ (x : Violation). first i vs ++ as_breach x ∷ []) (sym is) in
    rw last (m ∙ ap (λ (xs : List ℕ). xs ++ words) s ∙ ap (λ (xs : List ℕ). messages (first i vs) ++ xs) w
    ∙ sym (messages-end (first i vs) (as_breach v)))

pub length-rows : (offset : ℕ) (bs : List Breach) → length (violation_rows offset bs) ≡ length bs
length-rows offset [] = refl
length-rows offset (b ∷ bs) = ap suc (length-rows (offset + length (message_of b)) bs)

-- there are no violations where there are no breaches
pub no-violations : (vs : List Violation) → map as_breach vs ≡ [] → vs ≡ []
no-violations [] none = refl
no-violations (v ∷ vs) none = absurd (cc)
