-- What was cut stays within the budget.
use Rattle.std.proofs.Common.{◌≡◌, ℕ, zero, suc, ◌+◌, ◌-◌, ◌*◌, ◌≤◌, length, subst, Option, Some, None, is_some, List}
use Rattle.std.proofs.Common.{[], ◌∷◌, refl, sym, ◌∙◌, ap, Bool, true, false, if◌then◌else◌, arith}
use Rattle.lexical_grammar.specs.Answers.{Answer, gives, limit_at, limited, is_given}
use Rattle.lexical_grammar.specs.Cut.{Item}
use Rattle.lexical_grammar.specs.declared.TokenKind.{TokenKind}
use Rattle.document_grammar.proofs.Booleans.{not-some}
use Rattle.document_grammar.specs.declared.kind.SyntaxKind.{SyntaxKind}
use Rattle.parser_rules.specs.State.{Text, Lexeme, ignored}
use Rattle.apollo_lexer.specs.Answers.{error_answer, answers_left, items_left}
use Rattle.apollo_lexer.specs.declared.lexer.Lexer.{Lexer}
use Rattle.parser_state.specs.Lookahead.{given, looked, shown, spared, all_given}

-- no more is looked at than is given
on_kind : List Answer → Option SyntaxKind → ℕ
on_kind rest found = elim found [ Some leaf ↦ looked rest + 1 | None ↦ 1 ]

at_kind : List Answer → Option TokenKind → ℕ
unfolding on_kind
at_kind rest k = elim k [ None ↦ looked rest + 1 | Some k ↦ on_kind rest (ignored k) ]

looked-is : (rest : List Answer) (text : Text) (index : ℕ) (k : TokenKind)
    → looked (gives (record { kind = Some k; text = text; index = index }) ∷ rest) ≡ on_kind rest (ignored k)
unfolding looked on_kind
looked-is rest text index k = refl

item-few : (rest : List Answer) (o : Option TokenKind) → looked rest ≤ given rest → at_kind rest o ≤ given rest + 1
unfolding at_kind
item-few rest None h = omega (arith, h)
item-few rest (Some k) h =
    elim (ignored k) as (λ o. on_kind rest o ≤ given rest + 1) [ Some leaf ↦ omega (arith, h) | None ↦ omega arith ]

pub looked-given : (xs : List Answer) → looked xs ≤ given xs
unfolding looked at_kind on_kind
looked-given [] = omega arith
looked-given (limit_at index ∷ rest) = looked-given rest
looked-given (gives item ∷ rest) = item-few rest item.kind (looked-given rest)

pub spared-given : (known : Bool) (xs : List Answer) → spared known xs ≤ given xs
spared-given false xs = omega arith
spared-given true xs = looked-given xs

-- ---- what a copy looks at

abbrev token_of : TokenKind → Text → ℕ → Answer
token_of k text index = gives (record { kind = Some k; text = text; index = index })

pub looked-end : (xs : List Answer) → xs ≡ [] → looked xs ≡ 0
unfolding looked
looked-end xs e = ap looked e

some-more : (rest : List Answer) (o : Option SyntaxKind) → is_some o ≡ true → on_kind rest o ≡ looked rest + 1
unfolding on_kind
some-more rest None e = absurd cc
some-more rest (Some leaf) e = refl

pub looked-ignored : (xs rest : List Answer) (k : TokenKind) (text : Text) (index : ℕ) (found : Option SyntaxKind)
    → xs ≡ token_of k text index ∷ rest
    → found ≡ ignored k
    → is_some found ≡ true → looked xs ≡ looked rest + 1
looked-ignored xs rest k text index found e f i =
    ap looked e ∙ looked-is rest text index k ∙ ap (on_kind rest) (sym f) ∙ some-more rest found i

pub looked-found : (xs rest : List Answer) (k : TokenKind) (text : Text) (index : ℕ) (found : Option SyntaxKind)
    → xs ≡ token_of k text index ∷ rest
    → found ≡ ignored k
    → is_some found ≡ false → looked xs ≡ 1
unfolding on_kind
looked-found xs rest k text index found e f i =
    ap looked e ∙ looked-is rest text index k ∙ ap (on_kind rest) (sym f ∙ not-some found i)

-- how many items bad text is, and the limit: one, and none
abbrev pub cut_of : Bool → ℕ
cut_of true = 0
cut_of false = 1

-- what the lexer counts there
counted-bad : (limit : Bool) (text : Text) (index : ℕ)
    → (if is_given (error_answer limit text index) then 1 else 0) ≡ cut_of limit
counted-bad true text index = refl
counted-bad false text index = refl

looked-bad : (xs rest : List Answer) (limit : Bool) (text : Text) (index : ℕ)
    → xs ≡ error_answer limit text index ∷ rest
    → looked xs ≡ looked rest + cut_of limit
unfolding looked
looked-bad xs rest true text index e = let l = ap looked e in omega (arith, l)
looked-bad xs rest false text index e = ap looked e

given-bad : (xs rest : List Answer) (limit : Bool) (text : Text) (index : ℕ) → xs ≡ error_answer limit text index ∷ rest
    → given xs ≡ given rest + cut_of limit
given-bad xs rest true text index e = let g = ap given e in omega (arith, g)
given-bad xs rest false text index e = ap given e

-- a copy takes what is no token
pub bad-counted : (c d : ℕ) (xs rest : List Answer) (limit : Bool) (text : Text) (index : ℕ)
    → xs ≡ error_answer limit text index ∷ rest
    → d ≡ c + (if is_given (error_answer limit text index) then 1 else 0) → d + looked rest ≡ c + looked xs
bad-counted c d xs rest limit text index e n = let l = looked-bad xs rest limit text index e in let b =
    counted-bad limit text index in omega (arith, l, b, n)

-- ---- an answer is taken: m items may be cut in all

abbrev Within : Bool → List Answer → ℕ → ℕ → Type 0
Within known xs c m = c + 2 * given xs ≤ m + spared known xs

pub after-token : (known : Bool) (xs rest : List Answer) (k : TokenKind) (text : Text) (index : ℕ)
    (found : Option SyntaxKind) (c d m : ℕ)
    → xs ≡ token_of k text index ∷ rest
    → found ≡ ignored k → is_some found ≡ false → d ≡ c + 1 → Within known xs c m → d + 2 * given rest ≤ m
after-token false xs rest k text index found c d m e f i n h = let g = ap given e in omega (arith, g, n, h)
after-token true xs rest k text index found c d m e f i n h = let g = ap given e in let l =
    looked-found xs rest k text index found e f i in
    omega (arith, g, l, n, h)

pub after-ignored : (known : Bool) (xs rest : List Answer) (k : TokenKind) (text : Text) (index : ℕ)
    (found : Option SyntaxKind) (c d m : ℕ)
    → xs ≡ token_of k text index ∷ rest
    → found ≡ ignored k → is_some found ≡ true → d ≡ c + 1 → Within known xs c m → Within known rest d m
after-ignored false xs rest k text index found c d m e f i n h = let g = ap given e in omega (arith, g, n, h)
after-ignored true xs rest k text index found c d m e f i n h = let g = ap given e in let l =
    looked-ignored xs rest k text index found e f i in
    omega (arith, g, l, n, h)

pub after-bad : (known : Bool) (xs rest : List Answer) (limit : Bool) (text : Text) (index : ℕ) (c d m : ℕ)
    → xs ≡ error_answer limit text index ∷ rest
    → d ≡ c + (if is_given (error_answer limit text index) then 1 else 0) → Within known xs c m → Within known rest d m
after-bad false xs rest limit text index c d m e n h = let g = given-bad xs rest limit text index e in let b =
    counted-bad limit text index in
    omega (arith, g, b, n, h)
after-bad true xs rest limit text index c d m e n h =
    let g = given-bad xs rest limit text index e in
    let b = counted-bad limit text index in
    let l = looked-bad xs rest limit text index e in
    omega (arith, g, b, l, n, h)

-- the token that a copy found stays the next one while only ignored ones and bad text are taken
pub still-shown : (known : Bool) (found o p : Option Lexeme) → o ≡ p → shown known found o ≡ o → shown known found p ≡ p
still-shown known found o p e h = subst (λ (q : Option Lexeme). shown known found q ≡ q) e h

-- ---- a lexer gives no more than its limit allows

given-limited : (n : ℕ) (items : List Item) → given (limited n items) ≤ n
given-limited n [] = omega arith
given-limited zero (item ∷ items) = omega arith
given-limited (suc n) (item ∷ items) = let h = given-limited n items in omega (arith, h)

given-length : (xs : List Answer) → given xs ≤ length xs
given-length [] = omega arith
given-length (limit_at index ∷ rest) = let h = given-length rest in omega (arith, h)
given-length (gives item ∷ rest) = let h = given-length rest in omega (arith, h)

pub given-all : (l : Lexer) → given (answers_left l) ≤ all_given l
unfolding answers_left
given-all l =
    let h = given-limited (l.limit_tracker.limit - l.limit_tracker.current) (items_left l) in
    let k = given-length (answers_left l) in
    omega (arith, h, k)
