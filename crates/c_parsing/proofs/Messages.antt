-- The messages of the first errors, and their rows.
use Rattle.std.proofs.Common.{◌≡◌, ◌∙◌, ◌≤◌, ◌<◌, ◌+◌, ap, sym, refl, ℕ, zero, suc, List, [], ◌∷◌, ◌++◌, length, take}
use Rattle.std.proofs.Common.{set, get_or, arith}
use Rattle.std.proofs.lemmas.List.{append-nil, append_assoc, length-append}
use Rattle.std.specs.List.{flat_map}
use Rattle.apollo_tree.proofs.Filling.{filled-by-one-more}
use Rattle.apollo_parser.specs.Cut.{Item, texts}
use Rattle.apollo_parser.specs.Diagnostics.{Diagnostic}
use Rattle.apollo_parser.specs.Filled.{filled}
use Rattle.apollo_parser.specs.Forests.{text}
use Rattle.apollo_parser.specs.Parsed.{Parsed}
use Rattle.apollo_parser.specs.Promise.{Promise}
use Rattle.apollo_parser.specs.Reads.{items_of}
use Rattle.c_parsing.specs.Rows.{error_row, error_rows, messages}
use Rattle.c_parsing.specs.declared.rows.ErrorRow.{ErrorRow}

first-of : {X : Type 0} (f : X → List ℕ) (n : ℕ) (xs : List X)
    → length (flat_map f (take n xs)) ≤ length (flat_map f xs)
first-of f zero xs = omega arith
first-of f (suc n) [] = omega arith
first-of f (suc n) (x ∷ xs) =
    omega (arith, length-append (f x) (flat_map f (take n xs)), length-append (f x) (flat_map f xs), first-of f n xs)

-- the first messages have no more bytes than all
pub messages-within : (n : ℕ) (es : List Diagnostic) → length (messages (take n es)) ≤ length (messages es)
messages-within n es = first-of (λ (e : Diagnostic). e.message) n es

-- a tree's text has no more bytes than the source
pub text-within : {source : List ℕ} {r k : ℕ} (t : Parsed) → Promise source r k t → length (text t.tree) ≤ length source
text-within {source} {r} {k} t p =
    let first : length (texts (take k (items_of source))) ≤ length (texts (items_of source)) =
    first-of (λ (item : Item). item.text) k (items_of source) in
    omega (arith, ap length p.lossless, ap length p.cut.joined, first)

-- the messages with the next error's
pub messages-more : (es : List Diagnostic) (i j : ℕ) (d : Diagnostic) → j ≡ i + 1 → i < length es
    → messages (take j es) ≡ messages (take i es) ++ (get_or es i d).message
messages-more [] i j d e l = absurd (omega arith)
messages-more (x ∷ es) i zero d e l = absurd (omega arith)
messages-more (x ∷ es) zero (suc j) d e l = let none : j ≡ 0 = omega arith in rw none (append-nil x.message)
messages-more (x ∷ es) (suc i) (suc j) d e l =
    ap (λ (r : List ℕ). x.message ++ r) (messages-more es i j d (omega arith) (omega arith))
    ∙ sym (append_assoc x.message (messages (take i es)) (get_or es i d).message)

pub length-error_rows : (offset : ℕ) (es : List Diagnostic) → length (error_rows offset es) ≡ length es
length-error_rows offset [] = refl
length-error_rows offset (e ∷ es) = ap suc (length-error_rows (offset + length e.message) es)

pub error-row-there : (offset i : ℕ) (es : List Diagnostic) (d : ErrorRow) (e : Diagnostic) → i < length es
    → get_or (error_rows offset es) i d ≡ error_row (offset + length (messages (take i es))) (get_or es i e)
error-row-there offset i [] d e l = absurd (omega arith)
error-row-there offset zero (x ∷ es) d e l = let same : offset ≡ offset + 0 = omega arith in
    ap (λ (n : ℕ). error_row n x) same
error-row-there offset (suc i) (x ∷ es) d e l =
    let same : offset + length x.message + length (messages (take i es))
    ≡ offset + length (x.message ++ messages (take i es)) = omega (
      arith,
      length-append x.message (messages (take i es)),
    ) in
    error-row-there (offset + length x.message) i es d e (omega arith)
    ∙ ap (λ (n : ℕ). error_row n (get_or es i e)) same

-- ---- a loop over the errors, at the error with the index i, whose message is m

pub next-messages : (es : List Diagnostic) (i : ℕ) (e : Diagnostic) (m : List ℕ) → e ≡ get_or es i e
    → m ≡ e.message → i < length es
    → messages (take i es) ++ m ≡ messages (take (i + 1) es)
next-messages es i e m is w l =
    ap (λ (x : List ℕ). messages (take i es) ++ x) (w ∙ ap (λ (x : Diagnostic). x.message) is)
    ∙ sym (messages-more es i (i + 1) e refl l)

pub next-offset : (es : List Diagnostic) (i at : ℕ) (e : Diagnostic) (m : List ℕ) → e ≡ get_or es i e → m ≡ e.message
    → at ≡ length (messages (take i es))
    → i < length es
    → at + length m ≡ length (messages (take (i + 1) es))
next-offset es i at e m is w p l = omega (arith, p, simp length-append at (ap length (next-messages es i e m is w l)))

pub next-fits : (es : List Diagnostic) (i at : ℕ) (e : Diagnostic) (m : List ℕ) → e ≡ get_or es i e → m ≡ e.message
    → at ≡ length (messages (take i es))
    → i < length es
    → at + length m ≤ length (messages es)
next-fits es i at e m is w p l = omega (arith, next-offset es i at e m is w p l, messages-within (i + 1) es)

pub next-row : (buffer rows : List ErrorRow) (es : List Diagnostic) (i at : ℕ) (e : Diagnostic) (row : ErrorRow)
    → rows ≡ filled buffer (take i (error_rows 0 es))
    → e ≡ get_or es i e → row ≡ error_row at e → at ≡ length (messages (take i es)) → i < length buffer → i < length es
    → set rows i row ≡ filled buffer (take (i + 1) (error_rows 0 es))
next-row buffer rows es i at e row f is r p l k =
    let all : List ErrorRow = error_rows 0 es in
    let offset : at ≡ 0 + length (messages (take i es)) = omega (arith, p) in
    let there : error_row at e ≡ get_or all i row =
    ap (λ (n : ℕ). error_row n e) offset ∙ ap (λ (x : Diagnostic). error_row (0 + length (messages (take i es))) x) is
    ∙ sym (error-row-there 0 i es row e k) in
    let more : i < length all = omega (arith, length-error_rows 0 es) in
    ap (λ (xs : List ErrorRow). set xs i row) f
    ∙ ap (λ (x : ErrorRow). set (filled buffer (take i all)) i x) (r ∙ there)
    ∙ filled-by-one-more buffer all i (i + 1) row refl l more
