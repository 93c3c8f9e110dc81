-- A second call, with the room that the first one counted.
use Rattle.std.proofs.Common.{◌≡◌, ◌∙◌, ◌⊎◌, ℕ, suc, List, [], ◌∷◌, length, refl, sym, ap, subst, ⊎_elim, arith}
use Rattle.std.proofs.Math.Logic.{∥∥₁_elim}
use Rattle.std.proofs.Props.{props}
use Rattle.std.specs.Prelude.{filter, map, not}
use Rattle.lexical_grammar.proofs.StringValues.{quoted-one, block-one, one-form}
use Rattle.lexical_grammar.specs.Strings.{Quoted}
use Rattle.lexical_grammar.specs.Values.{Block}
use Rattle.apollo_parser.proofs.OneParse.{one-parse}
use Rattle.apollo_parser.specs.Answers.{Answer, gives, limit_at, is_token}
use Rattle.apollo_parser.specs.Compact.{compact_elements, compact_from}
use Rattle.apollo_parser.specs.Diagnostics.{Diagnostic, Subject}
use Rattle.apollo_parser.specs.Filled.{filled}
use Rattle.apollo_parser.specs.LexErrors.{AreLexErrors, IsLexError}
use Rattle.apollo_parser.specs.Order.{Element, order}
use Rattle.apollo_parser.specs.Parsed.{Parsed}
use Rattle.apollo_parser.specs.StringValues.{IsStringValue}
use Rattle.c_parsing.proofs.Messages.{length-error_rows}
use Rattle.c_parsing.specs.Again.{HasItemRoom, HasRoom, HoldItems, HoldParse}
use Rattle.c_parsing.specs.Items.{ItemBuffers, ItemsOutcome, item_counts, item_row}
use Rattle.c_parsing.specs.Outcomes.{Buffers, Outcome, counts_of, OK, StringOutcome}
use Rattle.c_parsing.specs.Rows.{error_rows, messages}
use Rattle.c_parsing.specs.declared.rows.ByteCount.{ByteCount}
use Rattle.c_parsing.specs.declared.rows.Counts.{Counts}

-- a buffer of just the length is filled with the items
pub filled-whole : {A : Type 0} (buffer items : List A) → length buffer ≡ length items → filled buffer items ≡ items
filled-whole [] [] same = refl
filled-whole [] (x ∷ xs) same = absurd (omega (arith, same))
filled-whole (b ∷ bs) [] same = absurd (omega (arith, same))
filled-whole (b ∷ bs) (x ∷ xs) same = ap (λ rest. x ∷ rest) (filled-whole bs xs (omega (arith, same)))

length-rows : (index : ℕ) (es : List Element) → length (compact_from index es) ≡ length es
length-rows index [] = refl
length-rows index (e ∷ es) = ap suc (length-rows (suc index) es)

-- ---- strings

text-prop : (xs ys : List ℕ) → IsProp (xs ≡ ys)
text-prop xs ys = hlevel props

same-value : (text value other : List ℕ) → (Quoted text value ⊎ Block text value)
    → (Quoted text other ⊎ Block text other) → value ≡ other
same-value text value other first second = ⊎_elim
    (λ (q : Quoted text value). ⊎_elim (λ (p : Quoted text other). quoted-one text value other q p)
    (λ (b : Block text other). absurd (one-form text value other q b)) second)
    (λ (b : Block text value). ⊎_elim (λ (q : Quoted text other). absurd (one-form text other value q b))
    (λ (d : Block text other). block-one text value other b d) second)
    first

one-value : (text value other : List ℕ) → IsStringValue text value → IsStringValue text other → value ≡ other
one-value text value other first second =
    ∥∥₁_elim first (text-prop value other)
    (λ f. ∥∥₁_elim second (text-prop value other) (λ s. same-value text value other f s))

pub string-value-again : (literal before after room value : List ℕ) (first second : ByteCount)
    → StringOutcome literal before after first → first.status ≡ OK
    → StringOutcome literal room value second → second.status ≡ OK → length room ≡ first.bytes
    → IsStringValue literal value
string-value-again literal before after room value first second one ok two ok' asked =
    let f = one.ok ok in
    let s = two.ok ok' in
    let same : f.0 ≡ s.0 = one-value literal f.0 s.0 f.1 s.1 in
    subst (IsStringValue literal) (sym (s.2 ∙ filled-whole room s.0 (asked ∙ f.3 ∙ ap length same))) s.1

-- ---- parses

pub parse-again : (source : List ℕ) (r k : ℕ) (before after room filled_room : Buffers) (first second : Counts)
    → Outcome source r k before after first
    → first.status ≡ OK
    → Outcome source r k room filled_room second → second.status ≡ OK
    → (second ≡ first) × (HasRoom room first → HoldParse source r k filled_room)
parse-again source r k before after room filled_room first second one ok two ok' =
    let f = one.ok ok in
    let s = two.ok ok' in
    let same : f.0 ≡ s.0 = one-parse f.0 s.0 f.1.promise.by_rules s.1.promise.by_rules in (
      s.3 ∙ ap counts_of (sym same) ∙ sym f.3,
      λ asked. record {
        parsed = s.0;
        parse = s.1;
        elements = ap (λ (b : Buffers). b.elements) s.2
            ∙ filled-whole room.elements (compact_elements s.0.tree)
            (asked.elements ∙ ap (λ (c : Counts). c.elements) f.3 ∙ ap (λ (p : Parsed). length (order p.tree)) same
            ∙ sym (length-rows 0 (order s.0.tree)));
        errors = ap (λ (b : Buffers). b.errors) s.2
            ∙ filled-whole room.errors (error_rows 0 s.0.errors)
            (asked.errors ∙ ap (λ (c : Counts). c.errors) f.3 ∙ ap (λ (p : Parsed). length p.errors) same
            ∙ sym (length-error_rows 0 s.0.errors));
        messages = ap (λ (b : Buffers). b.messages) s.2
            ∙ filled-whole room.messages (messages s.0.errors)
            (asked.messages ∙ ap (λ (c : Counts). c.message_bytes) f.3
            ∙ ap (λ (p : Parsed). length (messages p.errors)) same);
      },
    )

-- ---- items

diagnostic : List ℕ → Subject → ℕ → Diagnostic
diagnostic message subject index = record { message = message; subject = subject; index = index }

same-parts : (d e : Diagnostic) → d.message ≡ e.message → d.subject ≡ e.subject → d.index ≡ e.index → d ≡ e
unfolding diagnostic
same-parts d e message subject index =
    ap (λ m. diagnostic m d.subject d.index) message ∙ ap (λ s. diagnostic e.message s d.index) subject
    ∙ ap (λ i. diagnostic e.message e.subject i) index

same-error : (answer : Answer) (d e : Diagnostic) → IsLexError answer d → IsLexError answer e → d ≡ e
same-error (limit_at index) d e first second = first ∙ sym second
same-error (gives item) d e first second =
    same-parts d e (first.2 ∙ sym second.2) (first.0 ∙ sym second.0) (first.1 ∙ sym second.1)

same-errors : (answers : List Answer) (ds es : List Diagnostic) → AreLexErrors answers ds
    → AreLexErrors answers es → ds ≡ es
same-errors [] [] [] first second = refl
same-errors [] [] (e ∷ es) first second = absurd second
same-errors [] (d ∷ ds) es first second = absurd first
same-errors (answer ∷ answers) [] es first second = absurd first
same-errors (answer ∷ answers) (d ∷ ds) [] first second = absurd second
same-errors (answer ∷ answers) (d ∷ ds) (e ∷ es) first second =
    ap (λ x. x ∷ ds) (same-error answer d e first.0 second.0)
    ∙ ap (λ xs. e ∷ xs) (same-errors answers ds es first.1 second.1)

length-items : (answers : List Answer) → length (map item_row answers) ≡ length answers
length-items [] = refl
length-items (answer ∷ answers) = ap suc (length-items answers)

pub items-again : (source : List ℕ) (k : ℕ) (before after room filled_room : ItemBuffers) (first second : Counts)
    → ItemsOutcome source k before after first
    → first.status ≡ OK
    → ItemsOutcome source k room filled_room second → second.status ≡ OK
    → (second ≡ first) × (HasItemRoom room first → HoldItems source k filled_room)
items-again source k before after room filled_room first second one ok two ok' =
    let f = one.ok ok in
    let s = two.ok ok' in
    let same : f.0 ≡ s.0 = f.2.answers_are ∙ sym s.2.answers_are in
    let errors : f.1 ≡ s.1 =
    same-errors _ f.1 s.1 (subst (λ answers. AreLexErrors (filter (λ answer. not (is_token answer)) answers) f.1)
    same f.2.errors_are)
    s.2.errors_are in
    let counts : first ≡ second =
    f.4 ∙ ap (λ answers. item_counts answers f.1) same ∙ ap (item_counts s.0) errors ∙ sym s.4 in (
      sym counts,
      λ asked. record {
        answers = s.0;
        diagnostics = s.1;
        lexed = s.2;
        items = ap (λ (b : ItemBuffers). b.items) s.3
            ∙ filled-whole room.items (map item_row s.0)
            (asked.items ∙ ap (λ (c : Counts). c.elements) (counts ∙ s.4) ∙ sym (length-items s.0));
        errors = ap (λ (b : ItemBuffers). b.errors) s.3
            ∙ filled-whole room.errors (error_rows 0 s.1)
            (asked.errors ∙ ap (λ (c : Counts). c.errors) (counts ∙ s.4) ∙ sym (length-error_rows 0 s.1));
        messages = ap (λ (b : ItemBuffers). b.messages) s.3
            ∙ filled-whole room.messages (messages s.1)
            (asked.messages ∙ ap (λ (c : Counts). c.message_bytes) (counts ∙ s.4));
      },
    )
