-- Tokens without a line end: all but white space and block strings.
use Rattle.std.proofs.Common.{◌≡◌, ℕ, Bool, true, List, [], ◌∷◌, ◌++◌, Some, refl, sym, ap, ◌∙◌, subst, arith}
use Rattle.std.proofs.lemmas.Bool.{and_parts, and_from, ne_eqb, not_from_false, or_from}
use Rattle.std.proofs.lemmas.Bool.Decides.{nat_tests}
use Rattle.std.proofs.lemmas.List.Folds.{list_all-append}
use Rattle.std.specs.List.{list_all}
use Rattle.lexical_grammar.proofs.NumberStates.{live-front}
use Rattle.lexical_grammar.specs.Characters.{is_comment_character, is_hex_digit, is_name_continue, is_name_start}
use Rattle.lexical_grammar.specs.Characters.{is_plain_string_character}
use Rattle.lexical_grammar.specs.NumberStates.{is_live, run, step}
use Rattle.lexical_grammar.specs.Strings.{StringCharacter, StringCharacters, Quoted, plain, escaped, fixed, braced}
use Rattle.lexical_grammar.specs.Strings.{pair, none, one_more, escaped_character}
use Rattle.lexical_grammar.specs.declared.NumberState.{NumberState as State}
use Rattle.lexical_grammar.specs.declared.NumberState.TheVariants.{Begin, Minus, Zero, Integer, Point, Fraction}
use Rattle.lexical_grammar.specs.declared.NumberState.TheVariants.{ExponentIndicator, ExponentSign, Exponent, Dead}

abbrev pub is_unbroken : List ℕ → Type 0
is_unbroken text = list_all is_comment_character text ≡ true

both : (xs ys : List ℕ) → is_unbroken xs → is_unbroken ys → is_unbroken (xs ++ ys)
both xs ys h k = list_all-append is_comment_character xs ys ∙ and_from _ _ h k

-- characters of a class that has no line terminator
pub of-class : (p : ℕ → Bool) → ((c : ℕ) → p c ≡ true → is_comment_character c ≡ true) → (text : List ℕ)
    → list_all p text ≡ true → is_unbroken text
of-class p class [] h = refl
of-class p class (c ∷ text) h = let q = and_parts (p c) (list_all p text) h in
    and_from _ _ (class c q.0) (of-class p class text q.1)

pub name-class : (c : ℕ) → is_name_continue c ≡ true → is_comment_character c ≡ true
name-class c h = grind (arith, nat_tests)

pub start-class : (c : ℕ) → is_name_start c ≡ true → is_comment_character c ≡ true
start-class c h = grind (arith, nat_tests)

hex-class : (c : ℕ) → is_hex_digit c ≡ true → is_comment_character c ≡ true
hex-class c h = grind (arith, nat_tests)

plain-class : (c : ℕ) → is_plain_string_character c ≡ true → is_comment_character c ≡ true
plain-class c h = grind (arith, nat_tests)

-- numbers
step-class : (s : State) (c : ℕ) → is_live (step s c) ≡ true → is_comment_character c ≡ true
step-class Begin c h = grind (arith, nat_tests)
step-class Minus c h = grind (arith, nat_tests)
step-class Zero c h = grind (arith, nat_tests)
step-class Integer c h = grind (arith, nat_tests)
step-class Point c h = grind (arith, nat_tests)
step-class Fraction c h = grind (arith, nat_tests)
step-class ExponentIndicator c h = grind (arith, nat_tests)
step-class ExponentSign c h = grind (arith, nat_tests)
step-class Exponent c h = grind (arith, nat_tests)
step-class Dead c h = absurd (cc)

pub of-number : (s : State) (text : List ℕ) → is_live (run s text) ≡ true → is_unbroken text
of-number s [] h = refl
of-number s (c ∷ text) h = and_from _ _ (step-class s c (live-front (step s c) text h)) (of-number (step s c) text h)

-- quoted strings
escaped-class : (e c : ℕ) → escaped_character e ≡ Some c → is_comment_character e ≡ true
escaped-class e c h = not_from_false _ (or_from _ _ (ne_eqb e 10 no_lf) (ne_eqb e 13 no_cr)) where
  no_lf : e ≡ 10 → ⊥
  no_lf u = let k : escaped_character 10 ≡ Some c = ap escaped_character (sym u) ∙ h in (cc)

  no_cr : e ≡ 13 → ⊥
  no_cr u = let k : escaped_character 13 ≡ Some c = ap escaped_character (sym u) ∙ h in (cc)

hex-unbroken : (digits : List ℕ) → list_all is_hex_digit digits ≡ true → is_unbroken digits
hex-unbroken digits h = of-class is_hex_digit hex-class digits h

character-unbroken : (text value : List ℕ) → StringCharacter text value → is_unbroken text
character-unbroken _ _ (plain {c} h) = and_from _ _ (plain-class c h) refl
character-unbroken _ _ (escaped {e} {c} h) = and_from _ _ (escaped-class e c h) refl
character-unbroken _ _ (fixed {text} {digits} f ok) = subst is_unbroken (sym f.spelled) (hex-unbroken digits f.hex)
character-unbroken _ _ (braced {text} {digits} f ok) =
    subst is_unbroken (sym f.spelled) (both digits (125 ∷ []) (hex-unbroken digits f.hex) refl)
character-unbroken _ _ (pair {high} {high_digits = hd} {low} {low_digits = ld} f h g l) =
    both high low (subst is_unbroken (sym f.spelled) (hex-unbroken hd f.hex))
    (subst is_unbroken (sym g.spelled) (hex-unbroken ld g.hex))

characters-unbroken : (text value : List ℕ) → StringCharacters text value → is_unbroken text
characters-unbroken _ _ none = refl
characters-unbroken _ _ (one_more {text} {value} {texts} {values} s ss) =
    both text texts (character-unbroken text value s) (characters-unbroken texts values ss)

pub of-quoted : (text value : List ℕ) → Quoted text value → is_unbroken text
of-quoted text value q =
    subst is_unbroken (sym q.spelled) (both q.inside (34 ∷ []) (characters-unbroken q.inside value q.characters) refl)
