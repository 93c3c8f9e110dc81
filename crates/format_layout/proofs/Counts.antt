-- How many items a text gets, token by token.
use Rattle.std.proofs.Common.{◌≡◌, ℕ, zero, suc, ◌+◌, ◌*◌, ◌<◌, ◌≤◌, ◌⊎◌, inl, inr, List, [], ◌∷◌, length, refl, ap}
use Rattle.std.proofs.Common.{◌∙◌, subst, arith}
use Rattle.std.specs.Str.{IsUtf8}
use Rattle.lexical_grammar.proofs.Cuts.{tok-some}
use Rattle.lexical_grammar.proofs.Joined.{items-tokens, joined-cut}
use Rattle.lexical_grammar.proofs.TheCut.{is-cut}
use Rattle.lexical_grammar.specs.Answers.{Answer, IsTokenText, answer_text, limited}
use Rattle.lexical_grammar.specs.Cut.{Item, Word, Cut, CutFrom}
use Rattle.lexical_grammar.specs.Edges.{items_at}
use Rattle.lexical_grammar.specs.Reads.{items_of}
use Rattle.lexical_grammar.specs.declared.TokenKind.{TokenKind}
use Rattle.lexical_grammar.specs.declared.TokenKind.TheVariants.{Eof}
use Rattle.lexical_grammar.specs.declared.edge.Edge.{Edge}
use Rattle.document_grammar.proofs.Texts.{one-cut}
use Rattle.format_layout.specs.Laid.{Laid}
use Rattle.format_layout.specs.Lengths.{most_items}

items-length : (words : List Word) (offset : ℕ) → length (items_at offset words) ≡ length words + 1
items-length [] offset = refl
items-length (word ∷ words) offset = omega (arith, items-length words (offset + length word.text))

-- a text has the items that were written, and the end
pub laid-items : (text : List ℕ) (edge : Edge) (most : ℕ) (words : List Word) → IsUtf8 text → Laid text edge most words
    → length (items_of text) ≤ 2 * most + 2
laid-items text edge most words u l =
    let cut = subst (λ t. Cut t (items_at 0 l.all)) l.spelled (joined-cut l.all l.tokens l.apart) in
    let same : items_at 0 l.all ≡ items_of text =
    one-cut text (items_at 0 l.all) (items_of text) cut (is-cut text u) (items-tokens l.all 0) in
    omega (arith, l.few, items-length l.all 0, ap (λ (items : List Item). length items) same)

-- one, for a text that is not empty
abbrev pub some : List ℕ → ℕ
some [] = 0
some (b ∷ text) = 1

-- how many of the answers have a text: all but the end
abbrev pub with_text : List Answer → ℕ
with_text [] = 0
with_text (answer ∷ answers) = some (answer_text answer) + with_text answers

abbrev items_with_text : List Item → ℕ
items_with_text [] = 0
items_with_text (item ∷ items) = some item.text + items_with_text items

some-small : (text : List ℕ) → some text ≤ 1
some-small [] = omega arith
some-small (b ∷ text) = omega arith

cut-with-text : (offset : ℕ) (items : List Item) → CutFrom offset items → items_with_text items + 1 ≤ length items
cut-with-text offset [] c = absurd c
cut-with-text offset (item ∷ []) c = omega (arith, ap (λ (i : Item). some i.text) c)
cut-with-text offset (item ∷ next ∷ items) c =
    omega (arith, some-small item.text, cut-with-text (offset + length item.text) (next ∷ items) c.2)

limited-with-text : (allowed : ℕ) (items : List Item) → length items ≤ allowed
    → with_text (limited allowed items) ≡ items_with_text items
limited-with-text zero [] le = refl
limited-with-text (suc allowed) [] le = refl
limited-with-text zero (item ∷ items) le = absurd (omega arith)
limited-with-text (suc allowed) (item ∷ items) le =
    ap (λ n. some item.text + n) (limited-with-text allowed items (omega arith))

-- nothing is written
pub begun-count : (before : ℕ) (source : List ℕ) (answers : List Answer) (allowed : ℕ) → before ≡ 0 → IsUtf8 source
    → answers ≡ limited allowed (items_of source) → length (items_of source) ≤ allowed
    → before + 2 * with_text answers + 2 ≤ 2 * length (items_of source)
begun-count before source answers allowed none u e le =
    let all = ap with_text e ∙ limited-with-text allowed (items_of source) le in
    omega (arith, none, all, cut-with-text 0 (items_of source) (is-cut source u).each)

token-some : (kind : TokenKind) (text : List ℕ) → IsTokenText kind text → (kind ≡ Eof) ⊎ (0 < length text)
token-some Eof text t = inl refl
token-some kind text t = inr (tok-some kind text t)

one : (text : List ℕ) → 0 < length text → some text ≡ 1
one [] h = absurd (omega arith)
one (b ∷ text) h = refl

-- a token is written, of which the end is nothing
pub written-count : (before after all : ℕ) (kind : TokenKind) (answer : Answer) (old rest : List Answer)
    → old ≡ answer ∷ rest
    → IsTokenText kind (answer_text answer) → (kind ≡ Eof → after ≡ before) → after ≤ before + 2
    → before + 2 * with_text old + 2 ≤ all → after + 2 * with_text rest + 2 ≤ all
written-count before after all kind answer old rest e token end two left =
    elim (token-some kind (answer_text answer) token) [
      | inl is ↦ omega (arith, ap with_text e, left, end is)
      | inr more ↦ omega (arith, ap with_text e, left, two, one (answer_text answer) more)
    ]

-- an answer is passed over
pub left-count : (before all : ℕ) (answer : Answer) (old rest : List Answer) → old ≡ answer ∷ rest
    → before + 2 * with_text old + 2 ≤ all → before + 2 * with_text rest + 2 ≤ all
left-count before all answer old rest e left = omega (arith, ap with_text e, left)

-- the last line is ended
pub ended-count : (before after left items written : ℕ) → items ≤ 2 * after + 2 → after ≡ before
    → before + left + 2 ≤ 2 * written
    → items ≤ most_items written
ended-count before after left items written few same fits = omega arith
