-- What the items of a cut show: their significant tokens, and the end; and where each item of a cut is.
use Rattle.std.proofs.Common.{◌≡◌, ◌≢◌, ℕ, ◌+◌, ◌<◌, List, [], ◌∷◌, ◌++◌, length, take, true, Option, Some, None, refl}
use Rattle.std.proofs.Common.{sym, ap, ap₂, ◌∙◌, subst, arith, append_assoc, length-append}
use Rattle.std.proofs.lemmas.Bool.{and_parts}
use Rattle.std.proofs.lemmas.List.{map-append, take_at}
use Rattle.std.specs.Prelude.{map, is_some}
use Rattle.lexical_grammar.proofs.Cuts.{texts-append}
use Rattle.lexical_grammar.proofs.Offsets.{item-some}
use Rattle.lexical_grammar.specs.Cut.{Item, IsItem, Cut, CutFrom, texts, Significant, significant_word, are_tokens}
use Rattle.lexical_grammar.specs.declared.TokenKind.{TokenKind}
use Rattle.lexical_grammar.specs.declared.TokenKind.TheVariants as token
use Rattle.document_grammar.specs.Derivation.{Terminal, word, terminals}
use Rattle.document_grammar.specs.FirstError.{shown_kind, shown_item, shown}
use Rattle.document_grammar.specs.Sentence.{token_of, tokens_of}
use Rattle.document_grammar.specs.Tree.{Text, Token}

-- ---- items of a cut

-- an item that others follow
pub item-then : (offset : ℕ) (before : List Item) (item : Item) (more : List Item) (first : Item)
    → CutFrom offset (first ∷ (before ++ item ∷ more))
    → (first.index ≡ offset) × IsItem first.kind first.text (texts (before ++ item ∷ more))
    × CutFrom (offset + length first.text) (before ++ item ∷ more)
item-then offset [] item more first cut = cut
item-then offset (b ∷ before) item more first cut = cut

-- each item is at its offset
pub index-at : (offset : ℕ) (before : List Item) (item : Item) (more : List Item)
    → CutFrom offset (before ++ item ∷ more)
    → item.index ≡ offset + length (texts before)
index-at offset [] item [] cut = let e = ap (λ (i : Item). i.index) cut in omega (arith, e)
index-at offset [] item (next ∷ more) cut = let e = cut.0 in omega (arith, e)
index-at offset (first ∷ before) item more cut =
    let rest = item-then offset before item more first cut in
    let e = index-at (offset + length first.text) before item more rest.2 in
    omega (arith, e, length-append first.text (texts before))

-- the text before an item
pub text-before : (source : List ℕ) (before : List Item) (item : Item) (more : List Item)
    → Cut source (before ++ item ∷ more)
    → take item.index source ≡ texts before
text-before source before item more cut =
    let i = index-at 0 before item more cut.each in
    let e : item.index ≡ length (texts before) = omega (arith, i) in
    ap₂ (λ (n : ℕ) (s : List ℕ). take n s) e (sym (sym (texts-append before (item ∷ more)) ∙ cut.joined))
    ∙ take_at (texts before) (texts (item ∷ more)) _ refl

-- no item but the last is the end
pub not-the-end : (found : Option TokenKind) (text after : List ℕ) → IsItem found text after → found ≢ Some token.Eof
not-the-end None text after i e = absurd cc
not-the-end (Some token.Eof) text after i e = absurd i.token
not-the-end (Some _) text after i e = absurd cc

-- a significant token has some bytes
pub significant-some : (offset : ℕ) (before : List Item) (item : Item) (more : List Item)
    → CutFrom offset (before ++ item ∷ more)
    → Significant (item ∷ []) ≢ [] → 0 < length item.text
significant-some offset [] item [] cut h = absurd (h (ap (λ (i : Item). Significant (i ∷ [])) cut))
significant-some offset [] item (next ∷ more) cut h = item-some item.kind item.text (texts (next ∷ more)) cut.1
significant-some offset (first ∷ before) item more cut h =
    significant-some (offset + length first.text) before item more
    (item-then offset before item more first cut).2 h

-- ---- what they show

abbrev words : List Token → List Terminal
words w = map word w

shown-word : (k : TokenKind) (text : Text) → k ≢ token.Eof
    → shown_kind k text ≡ words (map token_of (significant_word (Some k) text))
shown-word token.Whitespace text h = refl
shown-word token.Comment text h = refl
shown-word token.Comma text h = refl
shown-word token.Eof text h = absurd (h refl)
shown-word _ text h = refl

item-shown : (found : Option TokenKind) (text after : List ℕ) → IsItem found text after
    → shown_item found text ≡ words (map token_of (significant_word found text))
item-shown None text after i = refl
item-shown (Some k) text after i = shown-word k text (λ e. not-the-end (Some k) text after i (ap Some e))

tokens-cons : (item : Item) (more : List Item)
    → tokens_of (item ∷ more) ≡ map token_of (significant_word item.kind item.text) ++ tokens_of more
tokens-cons item more = map-append token_of (significant_word item.kind item.text) (Significant more)

pub tokens-append : (before more : List Item) → tokens_of (before ++ more) ≡ tokens_of before ++ tokens_of more
tokens-append [] more = refl
tokens-append (item ∷ before) more =
    tokens-cons item (before ++ more)
    ∙ (ap (λ (w : List Token). map token_of (significant_word item.kind item.text) ++ w) (tokens-append before more)
    ∙ (sym (append_assoc (map token_of (significant_word item.kind item.text)) (tokens_of before) (tokens_of more))
    ∙ ap (λ (w : List Token). w ++ tokens_of more) (sym (tokens-cons item before))))

terminals-append : (v w : List Token) → terminals (v ++ w) ≡ words v ++ terminals w
terminals-append [] w = refl
terminals-append (a ∷ v) w = ap (λ (l : List Terminal). word a ∷ l) (terminals-append v w)

-- a cut shows its tokens, and the end
pub cut-shown : (offset : ℕ) (items : List Item) → CutFrom offset items → shown items ≡ terminals (tokens_of items)
cut-shown offset [] cut = absurd cut
cut-shown offset (item ∷ []) cut = subst (λ (i : Item). shown (i ∷ []) ≡ terminals (tokens_of (i ∷ []))) (sym cut) refl
cut-shown offset (item ∷ next ∷ items) cut =
    ap₂ (λ (a b : List Terminal). a ++ b) (item-shown item.kind item.text (texts (next ∷ items)) cut.1)
    (cut-shown (offset + length item.text) (next ∷ items) cut.2)
    ∙ (sym (terminals-append (map token_of (significant_word item.kind item.text)) (tokens_of (next ∷ items)))
    ∙ ap terminals (sym (tokens-cons item (next ∷ items))))

-- and before an item its tokens
pub before-shown : (offset : ℕ) (before : List Item) (item : Item) (more : List Item)
    → CutFrom offset (before ++ item ∷ more)
    → shown before ≡ words (tokens_of before)
before-shown offset [] item more cut = refl
before-shown offset (first ∷ before) item more cut =
    let rest = item-then offset before item more first cut in
    ap₂ (λ (a b : List Terminal). a ++ b) (item-shown first.kind first.text _ rest.1)
    (before-shown (offset + length first.text) before item more rest.2)
    ∙ (sym (map-append word (map token_of (significant_word first.kind first.text)) (tokens_of before))
    ∙ ap words (sym (tokens-cons first before)))

-- an item and those after it are a cut
pub cut-from : (offset : ℕ) (before : List Item) (item : Item) (more : List Item)
    → CutFrom offset (before ++ item ∷ more)
    → CutFrom (offset + length (texts before)) (item ∷ more)
cut-from offset [] item more cut = let e : offset + 0 ≡ offset = omega arith in rw e cut
cut-from offset (first ∷ before) item more cut =
    let e : offset + length (first.text ++ texts before) ≡ (offset + length first.text) + length (texts before) =
    omega (
      arith,
      length-append first.text (texts before),
    ) in
    subst (λ (n : ℕ). CutFrom n (item ∷ more)) (sym e)
    (cut-from (offset + length first.text) before item more (item-then offset before item more first cut).2)

-- ---- two items of one list

pub record Between (before : List Item) (x : Item) (before' : List Item) : Type 0 where
  pub mid : List Item
  pub split : before' ≡ before ++ x ∷ mid

-- one that begins before another is before it
pub earlier : (before : List Item) (x : Item) (more before' : List Item) (y : Item) (more' : List Item)
    → before ++ x ∷ more ≡ before' ++ y ∷ more'
    → length (texts before) < length (texts before') → Between before x before'
earlier before x more [] y more' e h = absurd (omega (arith, h))
earlier [] x more (b ∷ before') y more' e h = record { mid = before'; split = ap (λ (i : Item). i ∷ before') (cc) }
earlier (c ∷ before) x more (b ∷ before') y more' e h =
    let same : c ≡ b = cc in
    let t = ap (λ (i : Item). length i.text) same in
    let r = earlier before x more before' y more' (cc)
    (omega (arith, h, t, length-append c.text (texts before), length-append b.text (texts before'))) in
    record { mid = r.mid; split = ap₂ (λ (i : Item) (is : List Item). i ∷ is) (sym same) r.split }

pub tokens-before : (before : List Item) (more : List Item) → are_tokens (before ++ more) ≡ true
    → are_tokens before ≡ true
tokens-before [] more h = refl
tokens-before (item ∷ before) more h = let p = and_parts (is_some item.kind) (are_tokens (before ++ more)) h in
    (rw (p.0, tokens-before before more p.1) refl)
