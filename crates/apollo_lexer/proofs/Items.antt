-- The items of a text are its first item and those of the text after it.
use Rattle.std.proofs.Common.{◌≡◌, ℕ, zero, suc, ◌+◌, ◌-◌, ◌<◌, ◌≤◌, List, [], ◌∷◌, length, take, drop, Some, None}
use Rattle.std.proofs.Common.{refl, sym, ap, ◌∙◌, arith}
use Rattle.std.proofs.Common.{Option, subst, cond, eqb, false}
use Rattle.std.proofs.Common.{length-take-le}
use Rattle.std.proofs.lemmas.Bool.Decides.{nat_tests}
use Rattle.std.specs.Prelude.{max}
use Rattle.lexical_grammar.proofs.Limited.{limited-end}
use Rattle.lexical_grammar.proofs.Sound.{sound}
use Rattle.lexical_grammar.proofs.TheCut
use Rattle.lexical_grammar.specs.Answers.{Answer, gives, limit_at, limit_index, limit_index_at, limited}
use Rattle.lexical_grammar.specs.Cut.{Item, end_at}
use Rattle.lexical_grammar.specs.Reads.{token_at, item_of_token, first_item, items_from}
use Rattle.lexical_grammar.specs.Tokens.{Tok}
use Rattle.lexical_grammar.specs.declared.TokenKind.{TokenKind}
use Rattle.lexical_grammar.specs.declared.TokenKind.TheVariants.{Eof}

max-next : (n : ℕ) → max n (n + 1) ≡ n + 1
max-next n = grind (arith, nat_tests)

-- the first item, and the items of the text after it
pub first-then : (offset : ℕ) (source : List ℕ) → 0 < length source → 0 < (first_item source).1
    → (first_item source).1 ≤ length source
    → items_from offset 0 source
    ≡ record { kind = (first_item source).0; text = take (first_item source).1 source; index = offset }
    ∷ items_from (offset + (first_item source).1) 0 (drop (first_item source).1 source)
first-then offset [] some one within = absurd (omega arith)
first-then offset (b ∷ bs) some one within = TheCut.first-then offset b bs one within

-- at the end
pub end-then : (offset : ℕ) (source : List ℕ) → length source ≡ 0 → items_from offset 0 source ≡ end_at offset ∷ []
unfolding items_from
end-then offset [] e = refl
end-then offset (b ∷ bs) e = absurd (omega arith)

-- what a lexer answers next, where it has more to give, and where it has not
pub limited-some : (allowed : ℕ) (item : Item) (items : List Item) → 0 < allowed
    → limited allowed (item ∷ items) ≡ gives item ∷ limited (allowed - 1) items
limited-some zero item items some = absurd (omega arith)
limited-some (suc n) item items some = let less : suc n - 1 ≡ n = omega arith in
    ap (λ m. gives item ∷ limited m items) (sym less)

pub limited_none : (allowed : ℕ) (item : Item) (items : List Item) → allowed ≡ 0
    → limited allowed (item ∷ items) ≡ limit_at (limit_index item) ∷ []
limited_none zero item items e = refl
limited_none (suc n) item items e = absurd (omega arith)

-- the first item is not the end
not_end : (kind : TokenKind) (offset : ℕ) → (kind ≡ Eof → ⊥) → limit_index_at (Some kind) offset ≡ offset
not_end Eof offset h = absurd (h refl)
not_end _ offset h = refl

token-not-end : (kind : TokenKind) (text : List ℕ) → Tok kind text → kind ≡ Eof → ⊥
token-not-end kind text tok e = subst (λ k. Tok k text) e tok

first-not-end : (offset : ℕ) (source : List ℕ) (found : Option (TokenKind × ℕ)) → token_at source ≡ found
    → limit_index_at (item_of_token source found).0 offset ≡ offset
first-not-end offset source None e = refl
first-not-end offset source (Some token) e =
    not_end token.0 offset (token-not-end token.0 (take token.1 source) (sound source token.0 token.1 e).stands.token)

-- the limit is met
limit-met : (count limit offset : ℕ) (source : List ℕ) → limit < count + 1 → 0 < length source
    → limited (limit - count) (items_from offset 0 source) ≡ limit_at offset ∷ []
unfolding items_from
limit-met count limit offset [] met some = absurd (omega arith)
limit-met count limit offset (b ∷ bs) met some =
    limited_none (limit - count)
    (record { kind = (first_item (b ∷ bs)).0; text = take (first_item (b ∷ bs)).1 (b ∷ bs); index = offset })
    (items_from (1 + offset) ((first_item (b ∷ bs)).1 - 1) bs) (omega arith)
    ∙ ap (λ n. limit_at n ∷ []) (first-not-end offset (b ∷ bs) (token_at (b ∷ bs)) refl)

limit-met-end : (count limit offset : ℕ) (source : List ℕ) → limit < count + 1 → length source ≡ 0
    → limited (limit - count) (items_from offset 0 source) ≡ limit_at (offset - 1) ∷ []
limit-met-end count limit offset source met none =
    ap (limited (limit - count)) (end-then offset source none)
    ∙ limited_none (limit - count) (end_at offset) [] (omega arith)

some-more : (n : ℕ) → 0 < n → eqb n 0 ≡ false
some-more n h = grind (arith, nat_tests)

pub limit-met-at : (count limit offset : ℕ) (source : List ℕ) → limit < count + 1
    → limited (limit - count) (items_from offset 0 source) ≡ limit_at (cond (eqb (length source) 0) (offset - 1) offset)
    ∷ []
limit-met-at count limit offset [] met = limit-met-end count limit offset [] met refl
limit-met-at count limit offset (b ∷ bs) met =
    rw (some-more (length (b ∷ bs)) (omega arith)) (limit-met count limit offset (b ∷ bs) met (omega arith))

-- the end comes
pub end-comes : (count limit offset : ℕ) (source : List ℕ) → count + 1 ≤ limit → length source ≡ 0
    → limited (limit - count) (items_from offset 0 source) ≡ gives (end_at offset) ∷ []
end-comes count limit offset source more none =
    ap (limited (limit - count)) (end-then offset source none)
    ∙ limited-some (limit - count) (end_at offset) [] (omega arith)
    ∙ ap (λ l. gives (end_at offset) ∷ l) (limited-end (limit - count - 1))

-- an item is given, and those of the text after it are left
pub items-next : (offset : ℕ) (source text after : List ℕ) (kind : Option TokenKind) → 0 < length source
    → kind ≡ (first_item source).0 → text ≡ take (first_item source).1 source
    → after ≡ drop (first_item source).1 source
    → 0 < (first_item source).1 → (first_item source).1 + length after ≡ length source
    → items_from offset 0 source ≡ record { kind = kind; text = text; index = offset }
    ∷ items_from (offset + length text) 0 after
items-next offset source text after kind some k t a one within =
    let n = (first_item source).1 in
    let len : length text ≡ n = ap (λ (l : List ℕ). length l) t ∙ length-take-le n source (omega arith) in
    first-then offset source some one (omega arith)
    ∙ (λ i. record { kind = sym k i; text = sym t i; index = offset } ∷ items_from (offset + sym len i) 0 (sym a i))

-- an item comes
pub item-comes : (limit count next_limit next_count : ℕ) (item : Item) (items rest left : List Item)
    → count + 1 ≤ limit → next_limit ≡ limit
    → next_count ≡ count + 1
    → items ≡ item ∷ rest → left ≡ drop 1 items
    → limited (limit - count) items ≡ gives item ∷ limited (next_limit - next_count) left
item-comes limit count next_limit next_count item items rest left more same one first others =
    let less : limit - count - 1 ≡ next_limit - next_count = omega arith in
    let left_is : left ≡ rest = others ∙ ap (drop 1) first in
    ap (limited (limit - count)) first ∙ limited-some (limit - count) item rest (omega arith)
    ∙ (λ i. gives item ∷ limited (less i) (sym left_is i))

-- the count rose by one, and an answer less is left
pub high-kept : (high next count : ℕ) (answer : Answer) (old new : List Answer) → old ≡ answer ∷ new → high ≡ count
    → next ≡ max high (count + 1)
    → next + length new ≡ high + length old
high-kept high next count answer old new e same asked =
    omega (arith, ap (λ (l : List Answer). length l) e, max-next high)
