-- What a limited reader of items answers: the first items, as many as are allowed, and where there are more the limit.
use Rattle.std.proofs.Common.{◌≡◌, ℕ, zero, suc, ◌<◌, ◌≤◌, true, List, [], ◌∷◌, ◌++◌, length, take, Option, Some, None}
use Rattle.std.proofs.Common.{refl, sym, ap, ◌∙◌, arith, subst}
use Rattle.std.specs.List.{list_all}
use Rattle.std.specs.Prelude.{map}
use Rattle.lexical_grammar.specs.Answers.{Answer, gives, limit_at, limited, is_given, is_end, IsTokenText, IsItemText}
use Rattle.lexical_grammar.specs.Answers.{IsLast, AreAnswers, answers_text}
use Rattle.lexical_grammar.specs.Cut.{Item, IsItem, CutFrom, Cut, texts}
use Rattle.lexical_grammar.specs.Tokens.{Tok}
use Rattle.lexical_grammar.specs.declared.TokenKind.{TokenKind}
use Rattle.lexical_grammar.specs.declared.TokenKind.TheVariants.{Eof}

pub limited-end : (allowed : ℕ) → limited allowed [] ≡ []
limited-end zero = refl
limited-end (suc allowed) = refl

-- the items themselves, where no more than the allowed ones are there
pub within-limit : (allowed : ℕ) (items : List Item) → length items ≤ allowed → limited allowed items ≡ map gives items
within-limit allowed [] le = limited-end allowed
within-limit zero (item ∷ items) le = absurd (omega arith)
within-limit (suc allowed) (item ∷ items) le = ap (λ l. gives item ∷ l) (within-limit allowed items (omega arith))

-- the allowed ones and the limit, where there are more
pub beyond-limit : (allowed : ℕ) (items : List Item) → allowed < length items
    → (index : ℕ) × (limited allowed items ≡ map gives (take allowed items) ++ limit_at index ∷ [])
beyond-limit allowed [] lt = absurd (omega arith)
beyond-limit zero (item ∷ items) lt = (_, refl)
beyond-limit (suc allowed) (item ∷ items) lt =
    let more = beyond-limit allowed items (omega arith) in
    (more.0, ap (λ l. gives item ∷ l) more.1)

-- no limit error is answered exactly where no more than the allowed items are there
pub all_given : (allowed : ℕ) (items : List Item) → length items ≤ allowed
    → list_all is_given (limited allowed items) ≡ true
all_given allowed [] le = ap (list_all is_given) (limited-end allowed)
all_given zero (item ∷ items) le = absurd (omega arith)
all_given (suc allowed) (item ∷ items) le = all_given allowed items (omega arith)

pub given-within : (allowed : ℕ) (items : List Item) → list_all is_given (limited allowed items) ≡ true
    → length items ≤ allowed
given-within allowed [] e = omega arith
given-within zero (item ∷ items) e = absurd (cc)
given-within (suc allowed) (item ∷ items) e = let le = given-within allowed items e in omega arith

-- the texts of the answers are those of the first items
pub limited-text : (allowed : ℕ) (items : List Item) → answers_text (limited allowed items) ≡ texts (take allowed items)
limited-text zero [] = refl
limited-text (suc allowed) [] = refl
limited-text zero (item ∷ items) = refl
limited-text (suc allowed) (item ∷ items) = ap (λ l. item.text ++ l) (limited-text allowed items)

-- where no more are there, all of the text
pub whole-text : (allowed : ℕ) (items : List Item) → length items ≤ allowed
    → answers_text (limited allowed items) ≡ texts items
whole-text allowed [] le = ap answers_text (limited-end allowed)
whole-text zero (item ∷ items) le = absurd (omega arith)
whole-text (suc allowed) (item ∷ items) le = ap (λ l. item.text ++ l) (whole-text allowed items (omega arith))

pub cut-text : (allowed : ℕ) (source : List ℕ) (items : List Item) → Cut source items → length items ≤ allowed
    → answers_text (limited allowed items) ≡ source
cut-text allowed source items cut le = whole-text allowed items le ∙ cut.joined

-- a token is not the end
pub token_text : (kind : TokenKind) (text : List ℕ) → Tok kind text → IsTokenText kind text
token_text Eof text token = absurd token
token_text _ text token = token

pub not-last : (kind : TokenKind) (text : List ℕ) (rest : List Answer) → Tok kind text → is_end kind ≡ true → rest ≡ []
not-last Eof text rest token e = absurd token
not-last _ text rest token e = absurd (cc)

item-text : (kind : Option TokenKind) (text after : List ℕ) → IsItem kind text after → IsItemText kind text
item-text None text after item = tt
item-text (Some kind) text after item = token_text kind text item.token

item-not-last : (kind : Option TokenKind) (text after : List ℕ) (rest : List Answer)
    → IsItem kind text after → IsLast kind rest
item-not-last None text after rest item = tt
item-not-last (Some kind) text after rest item = λ e. not-last kind text rest item.token e

answers-from : (allowed offset : ℕ) (items : List Item) → CutFrom offset items → AreAnswers (limited allowed items)
answers-from allowed offset [] cut = absurd cut
answers-from zero offset (item ∷ []) cut = refl
answers-from (suc allowed) offset (item ∷ []) cut =
    subst (λ (i : Item). AreAnswers (gives i ∷ limited allowed [])) (sym cut) (
      refl,
      (λ e. limited-end allowed),
      subst AreAnswers (sym (limited-end allowed)) tt,
    )
answers-from zero offset (item ∷ next ∷ items) cut = refl
answers-from (suc allowed) offset (item ∷ next ∷ items) cut = (
  item-text item.kind item.text _ cut.1,
  item-not-last item.kind item.text _ (limited allowed (next ∷ items)) cut.1,
  answers-from allowed _ (next ∷ items) cut.2,
)

-- token texts are of their kind, and nothing comes after the end or the limit error
pub limited-answers : (allowed : ℕ) (source : List ℕ) (items : List Item) → Cut source items
    → AreAnswers (limited allowed items)
limited-answers allowed source items cut = answers-from allowed 0 items cut.each
