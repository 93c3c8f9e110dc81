-- The significant tokens are among those that are kept.
use Rattle.std.proofs.Common.{◌≡◌, ℕ, List, [], ◌∷◌, ◌++◌, Option, Some, None, refl, sym, ap, ◌∙◌, append_assoc}
use Rattle.std.specs.List.{flat_map}
use Rattle.lexical_grammar.specs.Cut.{Item, Word, Significant, significant_word}
use Rattle.lexical_grammar.specs.Kept.{kept_word, kept_item, Kept}
use Rattle.lexical_grammar.specs.declared.TokenKind.{TokenKind}
use Rattle.lexical_grammar.specs.declared.TokenKind.TheVariants.{Whitespace, Comment, Comma, Eof}

abbrev pub significant : List Word → List Word
significant words = flat_map (λ word. significant_word (Some word.kind) word.text) words

significant-append : (xs ys : List Word) → significant (xs ++ ys) ≡ significant xs ++ significant ys
significant-append [] ys = refl
significant-append (x ∷ xs) ys = ap (λ l. significant_word (Some x.kind) x.text ++ l) (significant-append xs ys)
    ∙ sym (append_assoc (significant_word (Some x.kind) x.text) (significant xs) (significant ys))

significant-token : (kind : TokenKind) (text : List ℕ)
    → significant (kept_word (record { kind = kind; text = text })) ≡ significant_word (Some kind) text
significant-token Whitespace text = refl
significant-token Comment text = refl
significant-token Comma text = refl
significant-token Eof text = refl
significant-token _ text = refl

significant-item : (kind : Option TokenKind) (text : List ℕ)
    → significant (kept_item kind text) ≡ significant_word kind text
significant-item None text = refl
significant-item (Some kind) text = significant-token kind text

pub significant-kept : (items : List Item) → significant (Kept items) ≡ Significant items
significant-kept [] = refl
significant-kept (item ∷ items) =
    significant-append (kept_item item.kind item.text) (Kept items)
    ∙ ap (λ l. l ++ significant (Kept items)) (significant-item item.kind item.text)
    ∙ ap (λ l. significant_word item.kind item.text ++ l) (significant-kept items)
