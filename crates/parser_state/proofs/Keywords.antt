-- A text is a keyword's word exactly where its class is the keyword's.
use Rattle.std.proofs.Common.{◌≡◌, ℕ, Bool, true, false, not, ◌&&◌, eqb, List, [], ◌∷◌, Option, Some, None, is_some}
use Rattle.std.proofs.Common.{refl, sym, ◌∙◌, ap, subst, inl, inr, true≢false, eqb-true}
use Rattle.std.proofs.lemmas.Bool.{eqb-false, and_parts, and_right}
use Rattle.std.proofs.lemmas.Slice.Eq.{bytes_eq-Decides}
use Rattle.std.specs.Str.{bytes_eq}
use Rattle.lexical_grammar.specs.declared.TokenKind.TheVariants as token
use Rattle.document_grammar.proofs.Booleans.{either, implies, eqb-refl, and-l, and-r}
use Rattle.document_grammar.proofs.Keywords.{all_words, listed-at}
use Rattle.document_grammar.specs.Booleans.{◌and◌, ◌or◌}
use Rattle.document_grammar.specs.Choices.{is_keyword, word_beside, keyword_word}
use Rattle.document_grammar.specs.Derivation.{Listed}
use Rattle.document_grammar.specs.Kinds.{IDENT, words}
use Rattle.document_grammar.specs.Numbers.{number}
use Rattle.document_grammar.specs.declared.kind.SyntaxKind.{SyntaxKind}
use Rattle.grammar_machine.proofs.Rules.{listed}
use Rattle.grammar_machine.proofs.TableLemmas.{text-same}
use Rattle.grammar_machine.specs.Machine.{word_class, text_eq}
use Rattle.parser_rules.specs.State.{Text, Lexeme, same_kind, is_word}

-- the words of this kind are this text
abbrev only : ℕ → Text → Bool
only n s = all_words words (λ l y. not (eqb l n) or text_eq y s)

-- each word is its kind's only one, and has its class
abbrev own : ℕ → Text → Bool
own n s = eqb (word_class words s) n and only n s

words-own : all_words words own ≡ true
unfolding words ◌and◌ ◌or◌
words-own = refl

pub equal-bytes : (x y : Text) → bytes_eq x y ≡ true → x ≡ y
equal-bytes x y e = (bytes_eq-Decides x y).0 e

abbrev word_or : Text → Option Text → Text
word_or s None = s
word_or s (Some t) = t

-- a keyword is no other name
not-ident : (n : ℕ) → is_keyword n ≡ true → n ≡ IDENT → ⊥
not-ident n k i = true≢false (sym (subst (λ (m : ℕ). is_keyword m ≡ true) i k))

-- the word beside a kind is listed, and a listed word is beside its kind
beside-listed : (ws : List (ℕ × Text)) (n : ℕ) (s : Text) → word_beside ws n ≡ Some s → Listed ws n s
beside-listed [] n s e = absurd cc
beside-listed (w ∷ more) n s e = elim (either (eqb w.0 n)) [
  | inl p ↦ inl (eqb-true w.0 n p, ap (word_or []) (rw p at e))
  | inr p ↦ inr (beside-listed more n s (rw p at e))
]

listed-beside : (ws : List (ℕ × Text)) (n : ℕ) (s : Text) → Listed ws n s → word_beside ws n ≡ None → ⊥
listed-beside [] n s h e = absurd h
listed-beside (w ∷ more) n s h e = elim (either (eqb w.0 n)) [
  | inl p ↦ true≢false (ap is_some (rw p at e))
  | inr p ↦ elim h [
    | inl i ↦ eqb-false w.0 n p i.0
    | inr i ↦ listed-beside more n s i (rw p at e)
  ]
]

-- a text is the kind's word exactly where its class is the kind
word-class : (n : ℕ) (s : Text) → keyword_word n ≡ Some s → is_keyword n ≡ true → (x : Text)
    → bytes_eq x s ≡ eqb (word_class words x) n
unfolding keyword_word
word-class n s e other x =
    let h = listed-at words own n s words-own (beside-listed words n s e) in
    elim (either (bytes_eq x s)) [
      | inl p ↦ p ∙ sym (subst (λ (y : Text). eqb (word_class words y) n ≡ true)
          (sym (equal-bytes x s p)) (and-l _ _ h))
      | inr p ↦ elim (either (eqb (word_class words x) n)) [
        | inl q ↦ (
            let t = listed-at words (λ l y. not (eqb l n) or text_eq y s) n x (and-r _ _ h)
            (listed words n x (eqb-true _ _ q) (not-ident n other)) in
            absurd (true≢false (sym ((bytes_eq-Decides x s).1 (text-same x s (implies _ _ t (eqb-refl n)))) ∙ p)))
        | inr q ↦ p ∙ sym q
      ]
    ]

no-class : (n : ℕ) → keyword_word n ≡ None → is_keyword n ≡ true → (x : Text) → eqb (word_class words x) n ≡ false
unfolding keyword_word
no-class n e other x = elim (either (eqb (word_class words x) n)) [
  | inl q ↦ absurd (listed-beside words n x (listed words n x (eqb-true _ _ q) (not-ident n other)) e)
  | inr q ↦ q
]

-- the test of a name
pub name-is-word : (k : SyntaxKind) (x : Lexeme) (a b : Text) → is_keyword (number k) ≡ true
    → keyword_word (number k) ≡ Some b
    → true ≡ same_kind x.kind token.Name → a ≡ x.text → bytes_eq a b ≡ is_word k (Some x)
name-is-word k x a b h f n e =
    ap (λ (t : Text). bytes_eq t b) e ∙ word-class (number k) b f h x.text
    ∙ ap (λ (c : Bool). c && eqb (word_class words x.text) (number k)) n

-- the text of a token that is the keyword
pub word_is : (k : SyntaxKind) (x : Lexeme) (w : Text) → is_keyword (number k) ≡ true → keyword_word (number k) ≡ Some w
    → true ≡ is_word k (Some x)
    → x.text ≡ w
word_is k x w h f e = equal-bytes x.text w (word-class (number k) w f h x.text
    ∙ (and_parts (same_kind x.kind token.Name) (eqb (word_class words x.text) (number k)) (sym e)).1)

-- a kind without a word is no token
pub no_word : (k : SyntaxKind) (o : Option Lexeme) → is_keyword (number k) ≡ true
    → keyword_word (number k) ≡ None → is_word k o ≡ false
no_word k None h f = refl
no_word k (Some x) h f = and_right (same_kind x.kind token.Name) _ (no-class (number k) f h x.text)
