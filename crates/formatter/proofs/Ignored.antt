-- Items that are neither significant tokens nor bad text.
use Rattle.std.proofs.Common.{◌≡◌, ◌∙◌, ◌≤◌, ◌<◌, ◌^◌, ◌+◌, ℕ, zero, suc, Bool, true, false, not, ◌&&◌, List}
use Rattle.std.proofs.Common.{[], ◌∷◌, ◌++◌, inl, inr, Option, Some, None, Err, length, refl, sym, ap, subst, arith}
use Rattle.std.proofs.lemmas.Bool.{and_parts, and_from}
use Rattle.std.proofs.lemmas.Bool.Decides.{nat_tests}
use Rattle.std.proofs.lemmas.List.Folds.{list_all-append}
use Rattle.std.specs.List.{list_all}
use Rattle.std.specs.Option.{is_some}
use Rattle.std.specs.Prelude.{MatchBool, min, if◌then◌else◌}
use Rattle.std.specs.Str.{IsUtf8}
use Rattle.lexical_grammar.proofs.TheCut.{is-cut}
use Rattle.lexical_grammar.specs.Answers.{Answer, gives, limit_at, limited, usize_max}
use Rattle.lexical_grammar.specs.Cut.{Item, Word, Significant, significant_word, are_tokens, is_significant_kind}
use Rattle.lexical_grammar.specs.Kept.{Holds, Kept, kept_item, kept_word}
use Rattle.lexical_grammar.specs.Reads.{items_of}
use Rattle.lexical_grammar.specs.declared.TokenKind.{TokenKind}
use Rattle.lexical_grammar.specs.declared.TokenKind.TheVariants.{Whitespace, Comment, Comma, Eof}
use Rattle.document_grammar.proofs.Texts.{one-cut}
use Rattle.apollo_lexer.proofs.Law.{answers-fit, limited-length}
use Rattle.apollo_lexer.specs.Answers.{answers_left, answer_of, error_answer}
use Rattle.apollo_lexer.specs.declared.lex_error.LexError.{LexError}
use Rattle.apollo_lexer.specs.declared.lexer.Lexer.{Lexer}
use Rattle.format_layout.proofs.Steps.{significant-comes, significant-goes}
use Rattle.format_layout.specs.Chosen.{AreAllowed, Choice, chosen, goes, pipe_word, signed, stays}
use Rattle.format_layout.specs.Leads.{lead_after}
use Rattle.format_layout.specs.Respelled.{SameWord, AreSameWords}
use Rattle.format_layout.specs.Written.{HoldsChosen}
use Rattle.format_layout.specs.declared.lead.Lead.{Lead}
use Rattle.format_layout.specs.declared.lead.Lead.TheVariants.{Other}
use Rattle.formatter.specs.Comments.{HasNoDefinitions, HasSameComments}

abbrev pub is_ignored_kind : Option TokenKind → Bool
is_ignored_kind None = false
is_ignored_kind (Some kind) = not (is_significant_kind kind)

abbrev pub are_ignored : List Item → Bool
are_ignored items = list_all (λ item. is_ignored_kind item.kind) items

abbrev pub is_ignored_answer : Answer → Bool
is_ignored_answer (gives item) = is_ignored_kind item.kind
is_ignored_answer (limit_at index) = false

abbrev pub are_ignored_answers : List Answer → Bool
are_ignored_answers answers = list_all is_ignored_answer answers

-- where no limit is met
pub ignored-limited : (allowed : ℕ) (items : List Item) → length items ≤ allowed
    → are_ignored_answers (limited allowed items) ≡ are_ignored items
ignored-limited zero [] le = refl
ignored-limited (suc allowed) [] le = refl
ignored-limited zero (item ∷ items) le = absurd (omega arith)
ignored-limited (suc allowed) (item ∷ items) le =
    ap (λ b. is_ignored_kind item.kind && b) (ignored-limited allowed items (omega arith))

-- a text has no more items than numbers count
pub few : (lexer : Lexer) (text : List ℕ) → answers_left lexer ≡ limited usize_max (items_of text)
    → length (items_of text) ≤ usize_max
few lexer text left = fits (length (items_of text)) (length (limited usize_max (items_of text)))
    (limited-length usize_max (items_of text))
    (omega (arith, answers-fit lexer, ap (λ (l : List Answer). length l) left))
  where
    fits : (m a : ℕ) → a ≡ min m (usize_max + 1) → a < 2 ^ 64 → m ≤ usize_max
    fits m a f less = grind (arith, nat_tests)

-- before the first token
pub begin : (lexer : Lexer) (text : List ℕ) → answers_left lexer ≡ limited usize_max (items_of text)
    → are_ignored_answers (answers_left lexer) ≡ are_ignored (items_of text)
begin lexer text left = ap are_ignored_answers left ∙ ignored-limited usize_max (items_of text) (few lexer text left)

-- after one that is ignored
pub passed : (answer : Answer) (old rest : List Answer) (all : Bool) → old ≡ answer ∷ rest
    → is_ignored_answer answer ≡ true
    → are_ignored_answers old ≡ all → are_ignored_answers rest ≡ all
passed answer old rest all e h before =
    sym (ap (λ b. b && are_ignored_answers rest) h) ∙ sym (ap are_ignored_answers e) ∙ before

-- after one that is not
pub stopped : (answer : Answer) (old rest : List Answer) (all : Bool) → old ≡ answer ∷ rest
    → is_ignored_answer answer ≡ false
    → are_ignored_answers old ≡ all → all ≡ false
stopped answer old rest all e h before =
    sym before ∙ ap are_ignored_answers e ∙ ap (λ b. b && are_ignored_answers rest) h

error-answer : (is_limit : Bool) (text : List ℕ) (index : ℕ)
    → is_ignored_answer (error_answer is_limit text index) ≡ false
error-answer true text index = refl
error-answer false text index = refl

-- after an error
pub error-stops : (error : LexError) (old rest : List Answer) (all : Bool) → old ≡ answer_of (Err error) ∷ rest
    → are_ignored_answers old ≡ all → all ≡ false
error-stops error old rest all e before =
    stopped (answer_of (Err error)) old rest all e (error-answer error.is_limit error.text.now error.index) before

not-true : (b : Bool) → not b ≡ true → b ≡ false
not-true true h = sym h
not-true false h = refl

is-token : (kind : Option TokenKind) → is_ignored_kind kind ≡ true → is_some kind ≡ true
is-token (Some kind) h = refl
is-token None h = h

nothing : (kind : Option TokenKind) (text : List ℕ) → is_ignored_kind kind ≡ true → significant_word kind text ≡ []
nothing None text h = refl
nothing (Some kind) text h = let insignificant = not-true (is_significant_kind kind) h in rw insignificant refl

pub tokens-of : (items : List Item) → are_ignored items ≡ true → are_tokens items ≡ true
tokens-of [] h = refl
tokens-of (item ∷ items) h = let q = and_parts _ _ h in and_from _ _ (is-token item.kind q.0) (tokens-of items q.1)

pub none-of : (items : List Item) → are_ignored items ≡ true → Significant items ≡ []
none-of [] h = refl
none-of (item ∷ items) h =
    let q = and_parts _ _ h in
    ap (λ l. l ++ Significant items) (nothing item.kind item.text q.0) ∙ none-of items q.1

abbrev is_empty : List Word → Bool
is_empty [] = true
is_empty (x ∷ xs) = false

cons-nil : (x : Word) (xs : List Word) → x ∷ xs ≡ [] → ⊥
cons-nil x xs e = let no : false ≡ true = ap is_empty e in (cc)

insignificant : (b : Bool) (word : Word) → (if b then word ∷ [] else []) ≡ [] → not b ≡ true
insignificant true word e = absurd (cons-nil word [] e)
insignificant false word e = refl

both-empty : (xs ys : List Word) → xs ++ ys ≡ [] → (xs ≡ []) × (ys ≡ [])
both-empty [] ys e = (refl, e)
both-empty (x ∷ xs) ys e = absurd (cons-nil x (xs ++ ys) e)

ignored : (kind : Option TokenKind) (text : List ℕ) → is_some kind ≡ true → significant_word kind text ≡ []
    → is_ignored_kind kind ≡ true
ignored None text h e = h
ignored (Some kind) text h e = insignificant (is_significant_kind kind) (record { kind = kind; text = text }) e

pub ignored-of : (items : List Item) → are_tokens items ≡ true → Significant items ≡ [] → are_ignored items ≡ true
ignored-of [] h e = refl
ignored-of (item ∷ items) h e =
    let q = and_parts _ _ h in
    let empty = both-empty (significant_word item.kind item.text) (Significant items) e in
    and_from _ _ (ignored item.kind item.text q.0 empty.0) (ignored-of items q.1 empty.1)

abbrev pub is_comment : TokenKind → Bool
is_comment Comment = true
is_comment _ = false

abbrev pub are_comments : List Word → Bool
are_comments words = list_all (λ word. is_comment word.kind) words

kept-comment : (kind : TokenKind) (text : List ℕ) → not (is_significant_kind kind) ≡ true
    → are_comments (kept_word (record { kind = kind; text = text })) ≡ true
kept-comment Whitespace text h = refl
kept-comment Comment text h = refl
kept-comment Comma text h = refl
kept-comment Eof text h = refl
kept-comment _ text h = h

comments-item : (kind : Option TokenKind) (text : List ℕ) → is_ignored_kind kind ≡ true
    → are_comments (kept_item kind text) ≡ true
comments-item None text h = refl
comments-item (Some kind) text h = kept-comment kind text h

pub comments-kept : (items : List Item) → are_ignored items ≡ true → are_comments (Kept items) ≡ true
comments-kept [] h = refl
comments-kept (item ∷ items) h =
    let q = and_parts _ _ h in
    list_all-append (λ (word : Word). is_comment word.kind) (kept_item item.kind item.text) (Kept items)
    ∙ and_from _ _ (comments-item item.kind item.text q.0) (comments-kept items q.1)

same-word : (a b : Word) → is_comment a.kind ≡ true → SameWord a b → b ≡ a
same-word a b h (inl e) = sym e
same-word a b h (inr s) = let no : false ≡ true = sym (ap is_comment s.0) ∙ h in absurd (cc)

-- comments are spelled as they are
pub same-words : (words others : List Word) → are_comments words ≡ true → AreSameWords words others → others ≡ words
same-words [] [] h s = refl
same-words [] (b ∷ bs) h s = absurd s
same-words (a ∷ more) [] h s = absurd s
same-words (a ∷ more) (b ∷ bs) h s =
    let q = and_parts _ _ h in
    ap (λ l. b ∷ l) (same-words more bs q.1 s.1) ∙ ap (λ w. w ∷ more) (same-word a b q.0 s.0)

abbrev pub no-definitions : (source : List ℕ) → IsUtf8 source → are_tokens (items_of source) ≡ true
    → Significant (items_of source) ≡ []
    → HasNoDefinitions source
no-definitions source u tokens none =
    record { items = items_of source; cut = is-cut source u; tokens = tokens; none = none }

pub decided : (source : List ℕ) → IsUtf8 source → (all : Bool) → (all ≡ true → are_tokens (items_of source) ≡ true)
    → (all ≡ true → Significant (items_of source) ≡ []) → (all ≡ false → ¬ HasNoDefinitions source)
    → MatchBool all (HasNoDefinitions source) (¬ HasNoDefinitions source)
decided source u true tokens none some = no-definitions source u (tokens refl) (none refl)
decided source u false tokens none some = some refl

no-comment : (kind : TokenKind) → is_comment kind ≡ true → is_significant_kind kind ≡ true → ⊥
no-comment Comment h e = let no : false ≡ true = e in (cc)
no-comment _ h e = let no : false ≡ true = h in (cc)

-- comments stay, and no sign comes before one
chosen-comments : (lead last : Lead) (choices : List Choice) (words : List Word) → are_comments words ≡ true
    → AreAllowed lead choices words last
    → chosen pipe_word choices words ≡ words
chosen-comments lead last [] [] h a = refl
chosen-comments lead last [] (word ∷ words) h a = absurd a
chosen-comments lead last (c ∷ choices) [] h a = absurd a
chosen-comments lead last (stays ∷ choices) (word ∷ words) h a =
    let q = and_parts _ _ h in
    ap (λ l. word ∷ l) (chosen-comments (lead_after lead word.kind word.text) last choices words q.1 a.1)
chosen-comments lead last (goes ∷ choices) (word ∷ words) h a =
    let q = and_parts _ _ h in
    absurd (no-comment word.kind q.0 (significant-goes lead word.kind a.0).0)
chosen-comments lead last (signed ∷ choices) (word ∷ words) h a =
    let q = and_parts _ _ h in
    absurd (no-comment word.kind q.0 (significant-comes lead word.kind a.0).0)

pub laid-out : (source text : List ℕ) → IsUtf8 source → are_tokens (items_of source) ≡ true
    → Significant (items_of source) ≡ []
    → HoldsChosen text (Kept (items_of source)) → HasSameComments source text
laid-out source text u tokens none h =
    let comments = comments-kept (items_of source) (ignored-of (items_of source) tokens none) in
    let all = chosen-comments Other h.lead h.choices (Kept (items_of source)) comments h.allowed in
    let same = subst (λ words. AreSameWords words h.holds.others) all h.holds.same in
    record {
      only = no-definitions source u tokens none;
      same = subst (Holds text) (same-words (Kept (items_of source)) h.holds.others comments same) h.holds.holds;
    }

pub some-there : (source : List ℕ) → IsUtf8 source → are_ignored (items_of source) ≡ false → ¬ HasNoDefinitions source
some-there source u there d =
    let same = one-cut source d.items (items_of source) d.cut (is-cut source u) d.tokens in
    let wrong : true ≡ false = sym (ignored-of d.items d.tokens d.none) ∙ ap are_ignored same ∙ there in
    (cc)
