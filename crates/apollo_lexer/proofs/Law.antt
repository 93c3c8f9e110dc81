-- The law of answers, and how many there are.
use Rattle.std.proofs.Common.{◌≡◌, ℕ, zero, suc, ◌+◌, ◌-◌, ◌<◌, ◌≤◌, ◌^◌, Bool, true, false, List, [], ◌∷◌, length}
use Rattle.std.proofs.Common.{take, Option, Some, None, refl, sym, arith}
use Rattle.std.proofs.lemmas.Bool.Decides.{nat_tests}
use Rattle.std.specs.Prelude.{min, if◌then◌else◌}
use Rattle.lexical_grammar.proofs.Limited.{token_text, not-last}
use Rattle.lexical_grammar.proofs.Sound.{sound}
use Rattle.lexical_grammar.specs.Answers.{Answer, limited}
use Rattle.lexical_grammar.specs.Answers.{IsItemText, IsLast, AreAnswers}
use Rattle.lexical_grammar.specs.Cut.{Item}
use Rattle.lexical_grammar.specs.Reads.{token_at, item_of_token, first_item, items_from}
use Rattle.lexical_grammar.specs.declared.TokenKind.{TokenKind}
use Rattle.apollo_lexer.specs.Answers.{answers_left, items_left}
use Rattle.apollo_lexer.specs.declared.lexer.Lexer.{Lexer}

item-text : (source : List ℕ) (found : Option (TokenKind × ℕ)) → token_at source ≡ found
    → IsItemText (item_of_token source found).0 (take (item_of_token source found).1 source)
item-text source None e = tt
item-text source (Some token) e = token_text token.0 (take token.1 source) (sound source token.0 token.1 e).stands.token

item-last : (source : List ℕ) (found : Option (TokenKind × ℕ)) (rest : List Answer) → token_at source ≡ found
    → IsLast (item_of_token source found).0 rest
item-last source None rest e = tt
item-last source (Some token) rest e =
    not-last token.0 (take token.1 source) rest (sound source token.0 token.1 e).stands.token

limited-are : (allowed offset inside : ℕ) (source : List ℕ)
    → AreAnswers (limited allowed (items_from offset inside source))
unfolding items_from
limited-are zero offset inside [] = refl
limited-are (suc zero) offset inside [] = (refl, (λ e. refl), tt)
limited-are (suc (suc n)) offset inside [] = (refl, (λ e. refl), tt)
limited-are allowed offset (suc inside) (b ∷ bs) = limited-are allowed (1 + offset) inside bs
limited-are zero offset zero (b ∷ bs) = refl
limited-are (suc n) offset zero (b ∷ bs) = (
  item-text (b ∷ bs) (token_at (b ∷ bs)) refl,
  item-last (b ∷ bs) (token_at (b ∷ bs)) _ refl,
  limited-are n (1 + offset) ((first_item (b ∷ bs)).1 - 1) bs,
)

unless-are : (done : Bool) (allowed offset : ℕ) (source : List ℕ)
    → AreAnswers (limited allowed (if done then [] else items_from offset 0 source))
unless-are true allowed offset source = none_are allowed where
  none_are : (allowed : ℕ) → AreAnswers (limited allowed [])
  none_are zero = tt
  none_are (suc n) = tt
unless-are false allowed offset source = limited-are allowed offset 0 source

pub answers-are-items : (l : Lexer) → AreAnswers (answers_left l)
unfolding answers_left items_left
answers-are-items l = unless-are l.is_finished (l.limit_tracker.limit - l.limit_tracker.current) l.index l.rest.now

-- ---- how many there are

min-next : (m n : ℕ) → min (m + 1) (n + 1) ≡ min m n + 1
min-next m n = grind (arith, nat_tests)

min-zero : (n : ℕ) → min 0 n ≡ 0
min-zero n = grind (arith, nat_tests)

min-one : (n : ℕ) → min (suc n) 1 ≡ 1
min-one n = grind (arith, nat_tests)

pub limited-length : (limit : ℕ) (items : List Item) → length (limited limit items) ≡ min (length items) (limit + 1)
limited-length zero [] = refl
limited-length (suc limit) [] = sym (min-zero (suc limit + 1))
limited-length zero (item ∷ items) = sym (min-one (length items))
limited-length (suc limit) (item ∷ items) =
    omega (arith, limited-length limit items, min-next (length items) (limit + 1))

-- an item but the end takes a byte
pub few-from : (offset inside : ℕ) (source : List ℕ) → length (items_from offset inside source) ≤ length source + 1
unfolding items_from
few-from offset inside [] = omega arith
few-from offset (suc inside) (b ∷ bs) = let h = few-from (1 + offset) inside bs in omega (arith, h)
few-from offset zero (b ∷ bs) = let h = few-from (1 + offset) ((first_item (b ∷ bs)).1 - 1) bs in omega (arith, h)

unless-few : (done : Bool) (allowed offset : ℕ) (source : List ℕ) → length source < 2 ^ 63
    → length (limited allowed (if done then [] else items_from offset 0 source)) < 2 ^ 64
unless-few true allowed offset source h = omega (arith, limited-length allowed [])
unless-few false allowed offset source h =
    omega (arith, limited-length allowed (items_from offset 0 source), few-from offset 0 source, h)

pub answers-fit : (l : Lexer) → length (answers_left l) < 2 ^ 64
unfolding answers_left items_left
answers-fit l = unless-few l.is_finished (l.limit_tracker.limit - l.limit_tracker.current) l.index l.rest.now
    (omega (arith, l.in_range))
