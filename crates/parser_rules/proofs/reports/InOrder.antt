-- Reports come in the order of the text.
use Rattle.std.proofs.Common.{◌≡◌, ℕ, zero, suc, Bool, ◌+◌, ◌-◌, ◌≤◌, List, [], ◌∷◌, ◌++◌, length, map, Option, Some}
use Rattle.std.proofs.Common.{None, get_or, sym, ap, subst, append-nil, arith}
use Rattle.std.proofs.lemmas.List.Elements.{All-nil, All-cons}
use Rattle.std.proofs.lemmas.List.Sorted.{IsNonDecreasingBy-from_all_adjacent}
use Rattle.std.specs.List.{All, AllAdjacentBelow}
use Rattle.std.specs.List.Sorted.{IsNonDecreasing}
use Rattle.std.specs.Prelude.{⊤}
use Rattle.lexical_grammar.proofs.Limited.{limited-end}
use Rattle.lexical_grammar.proofs.Offsets.{item-some}
use Rattle.lexical_grammar.specs.Answers.{Answer, gives, limit_at, limit_index_at, limited}
use Rattle.lexical_grammar.specs.Cut.{Item, Cut, CutFrom, texts}
use Rattle.lexical_grammar.specs.declared.TokenKind.{TokenKind}
use Rattle.lexical_grammar.specs.declared.TokenKind.TheVariants as token
use Rattle.parser_rules.specs.Reports.{Reported, no_more, bad_text, token_limit, fault, recursion_limit, passed}
use Rattle.parser_rules.specs.State.{Report}

abbrev offset_of : Answer → ℕ
offset_of (gives item) = item.index
offset_of (limit_at index) = index

-- the numbers rise or stay, from this one on
abbrev Rises : ℕ → List ℕ → Type 0
Rises low [] = ⊤
Rises low (n ∷ ns) = (low ≤ n) × Rises n ns

abbrev offsets : List Answer → List ℕ
offsets answers = map offset_of answers

abbrev indices : List Report → List ℕ
indices reports = map (λ (r : Report). r.index) reports

from-lower : (low high : ℕ) (ns : List ℕ) → low ≤ high → Rises high ns → Rises low ns
from-lower low high [] h rise = tt
from-lower low high (n ∷ ns) h rise = let above = rise.0 in (omega (arith, above), rise.1)

reports-rise : {taken : Bool} {answers : List Answer} {reports : List Report} (low : ℕ) → Reported taken answers reports
    → Rises low (offsets answers)
    → Rises low (indices reports)
reports-rise low no_more rise = tt
reports-rise low (bad_text {item = item} e reported) rise = (rise.0, reports-rise item.index reported rise.1)
reports-rise low (token_limit {index = index} reported) rise = (rise.0, reports-rise index reported rise.1)
reports-rise low (fault message {item = item} e i reported) rise =
    (rise.0, reports-rise item.index reported (omega arith, rise.1))
reports-rise low (recursion_limit {item = item} e i reported) rise =
    (rise.0, reports-rise item.index reported (omega arith, rise.1))
reports-rise low (passed {item = item} {answers = answers} e reported) rise =
    reports-rise low reported (from-lower low item.index (offsets answers) rise.0 rise.1)

-- ---- the answers of a cut

-- the limit is reported at the item's offset, or one byte before it
pub limit-near : (found : Option TokenKind) (offset : ℕ)
    → (offset - 1 ≤ limit_index_at found offset) × (limit_index_at found offset ≤ offset)
limit-near None offset = (omega arith, omega arith)
limit-near (Some token.Eof) offset = (omega arith, omega arith)
limit-near (Some _) offset = (omega arith, omega arith)

cut-rises : (max_items offset low : ℕ) (items : List Item) → low ≤ offset - 1 → CutFrom offset items
    → Rises low (offsets (limited max_items items))
cut-rises max_items offset low [] h cut = absurd cut
cut-rises zero offset low (item ∷ []) h cut =
    subst (λ (i : Item). Rises low (offsets (limited zero (i ∷ [])))) (sym cut) (h, tt)
cut-rises (suc k) offset low (item ∷ []) h cut =
    let at : item.index ≡ offset = ap (λ (i : Item). i.index) cut in
    (omega (arith, at), subst (λ answers. Rises item.index (offsets answers)) (sym (limited-end k)) tt)
cut-rises zero offset low (item ∷ next ∷ items) h cut =
    let at = cut.0 in
    let above = (limit-near item.kind item.index).0 in
    (omega (arith, at, above), tt)
cut-rises (suc k) offset low (item ∷ next ∷ items) h cut =
    let at = cut.0 in
    let some = item-some item.kind item.text (texts (next ∷ items)) cut.1 in (
      omega (arith, at),
      cut-rises k (offset + length item.text) item.index (next ∷ items)
          (omega (arith, at, some)) cut.2,
    )

-- ---- as the standard library says it

adjacent : (low : ℕ) (ns : List ℕ) → Rises low ns → AllAdjacentBelow (λ (m n : ℕ). m ≤ n) ns (length ns)
adjacent low [] rise k d h = absurd (omega arith)
adjacent low (m ∷ []) rise k d h = absurd (omega arith)
adjacent low (m ∷ n ∷ ns) rise zero d h = rise.1.0
adjacent low (m ∷ n ∷ ns) rise (suc k) d h =
    let next : suc (k + 1) ≡ suc k + 1 = omega arith in
    subst (λ j. get_or (n ∷ ns) k d ≤ get_or (m ∷ n ∷ ns) j d) next (adjacent m (n ∷ ns) rise.1 k d (omega arith))

front-rises : (low : ℕ) (es later : List Report) → Rises low (indices (es ++ later)) → Rises low (indices es)
front-rises low [] later rises = tt
front-rises low (report ∷ es) later rises = (rises.0, front-rises report.index es later rises.1)

-- also the first of them
pub in-order-front : {taken : Bool} (max_items : ℕ) (source : List ℕ) (items : List Item) (es later : List Report)
    → Cut source items
    → Reported taken (limited max_items items) (es ++ later)
    → IsNonDecreasing (map (λ (report : Report). report.index) es)
in-order-front max_items source items es later cut reported =
    IsNonDecreasingBy-from_all_adjacent (λ (n : ℕ). n) (indices es) (adjacent 0 (indices es)
    (front-rises 0 es later (reports-rise 0 reported (cut-rises max_items 0 0 items (omega arith) cut.each))))

pub in-order : {taken : Bool} {reports : List Report} (max_items : ℕ) (source : List ℕ) (items : List Item)
    → Cut source items
    → Reported taken (limited max_items items) reports
    → IsNonDecreasing (map (λ (report : Report). report.index) reports)
in-order {taken = taken} {reports = reports} max_items source items cut reported =
    in-order-front max_items source items reports [] cut
    (subst (Reported taken (limited max_items items)) (sym (append-nil reports)) reported)

-- reports up to an offset
abbrev pub AllUpTo : ℕ → List Report → Type 0
AllUpTo n = All (λ (e : Report). e.index ≤ n)

up-to-last : (low : ℕ) (es : List Report) (report : Report) → Rises low (indices (es ++ report ∷ []))
    → (low ≤ report.index) × AllUpTo report.index es
up-to-last low [] report rises = (rises.0, All-nil (λ (x : Report). x.index ≤ report.index))
up-to-last low (other_report ∷ es) report rises = let l = rises.0 in let (b, a) =
    up-to-last other_report.index es report rises.1 in
    (omega (arith, l, b), All-cons (λ (x : Report). x.index ≤ report.index) other_report es b a)

pub before-last : {taken : Bool} (max_items : ℕ) (source : List ℕ) (items : List Item) (es : List Report)
    (report : Report) → Cut source items
    → Reported taken (limited max_items items) (es ++ report ∷ []) → AllUpTo report.index es
before-last max_items source items es report cut reported = (up-to-last 0 es report
    (reports-rise 0 reported (cut-rises max_items 0 0 items (omega arith) cut.each))).1
