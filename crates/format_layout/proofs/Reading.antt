-- The tokens that a lexer gives, written one after another.
use Rattle.std.proofs.Common.{◌≡◌, ℕ, zero, suc, ◌≤◌, Bool, true, false, List, [], ◌∷◌, ◌++◌, length, Some, refl, sym}
use Rattle.std.proofs.Common.{ap, ◌∙◌, subst, arith, append_assoc, append-nil}
use Rattle.lexical_grammar.specs.Answers.{Answer, AreAnswers, IsTokenText, gives, limit_at, limited}
use Rattle.lexical_grammar.specs.Cut.{Item, Word}
use Rattle.lexical_grammar.specs.Kept.{Holds, kept_item, kept_word, Kept}
use Rattle.lexical_grammar.specs.declared.TokenKind.{TokenKind}
use Rattle.lexical_grammar.specs.declared.edge.Edge.{Edge}
use Rattle.apollo_lexer.specs.Answers.{error_answer}
use Rattle.format_layout.specs.Chosen.{AreAllowed, chosen, pipe_word}
use Rattle.format_layout.specs.Laid.{Keeps, Laid}
use Rattle.format_layout.specs.Respelled.{AreSameWords}
use Rattle.format_layout.specs.Written.{HoldsChosen, LaidChosen, AddsChosen}
use Rattle.format_layout.specs.declared.lead.Lead.{Lead}
use Rattle.format_layout.specs.declared.lead.Lead.TheVariants.{Other}

-- the significant tokens and the comments among a lexer's answers
abbrev kept_answer : Answer → List Word
kept_answer (gives item) = kept_item item.kind item.text
kept_answer (limit_at index) = []

abbrev pub kept_answers : List Answer → List Word
kept_answers [] = []
kept_answers (answer ∷ answers) = kept_answer answer ++ kept_answers answers

-- where no limit is met
pub kept-limited : (allowed : ℕ) (items : List Item) → length items ≤ allowed
    → kept_answers (limited allowed items) ≡ Kept items
kept-limited zero [] le = refl
kept-limited (suc allowed) [] le = refl
kept-limited zero (item ∷ items) le = absurd (omega arith)
kept-limited (suc allowed) (item ∷ items) le =
    ap (λ l. kept_item item.kind item.text ++ l) (kept-limited allowed items (omega arith))

-- What was written, and what is left to be written, are all words.
pub record Writes (text : List ℕ) (edge : Edge) (most : ℕ) (lead : Lead) (left all : List Word) : Type 0 where
  pub words : List Word
  pub laid : LaidChosen text edge most lead words
  pub same : words ++ left ≡ all

-- nothing was written
pub writes-begin : (text : List ℕ) (edge : Edge) (most : ℕ) (answers : List Answer) (allowed : ℕ) (items : List Item)
    → Laid text edge most [] → answers ≡ limited allowed items → length items ≤ allowed
    → Writes text edge most Other (kept_answers answers) (Kept items)
writes-begin text edge most answers allowed items l e le = record {
  words = [];
  laid = record { choices = []; allowed = refl; laid = record { others = []; same = tt; laid = l } };
  same = ap kept_answers e ∙ kept-limited allowed items le;
}

-- a token is one more
pub writes-token : (text more : List ℕ) (edge next : Edge) (most count : ℕ) (lead last : Lead)
    (kind : TokenKind) (word : List ℕ)
    (index : ℕ) (old rest : List Answer) (all : List Word)
    → old ≡ gives (record { kind = Some kind; text = word; index = index }) ∷ rest
    → AddsChosen text edge most lead (record { kind = kind; text = word }) more next count last
    → Writes text edge most lead (kept_answers old) all → Writes more next count last (kept_answers rest) all
writes-token text more edge next most count lead last kind word index old rest all e a w = record {
  words = w.words ++ kept_word (record { kind = kind; text = word });
  laid = a w.words w.laid;
  same = append_assoc w.words (kept_word (record { kind = kind; text = word })) (kept_answers rest)
      ∙ ap (λ l. w.words ++ kept_answers l) (sym e) ∙ w.same;
}

-- an answer that is no token is passed over
pub writes-on : (text : List ℕ) (edge : Edge) (most : ℕ) (lead : Lead) (answer : Answer) (old rest : List Answer)
    (all : List Word) → old ≡ answer ∷ rest
    → kept_answer answer ≡ []
    → Writes text edge most lead (kept_answers old) all → Writes text edge most lead (kept_answers rest) all
writes-on text edge most lead answer old rest all e none w = record {
  words = w.words;
  laid = w.laid;
  same = ap (λ l. w.words ++ (l ++ kept_answers rest)) (sym none)
      ∙ ap (λ l. w.words ++ kept_answers l) (sym e) ∙ w.same;
}

-- bad text and a limit are no tokens
pub no-word : (is_limit : Bool) (text : List ℕ) (index : ℕ) → kept_answer (error_answer is_limit text index) ≡ []
no-word true text index = refl
no-word false text index = refl

-- no answer is left
pub writes-end : (text more result : List ℕ) (edge next : Edge) (most count : ℕ) (lead : Lead) (left : List Answer)
    (all : List Word) → left ≡ []
    → Writes text edge most lead (kept_answers left) all → Keeps text edge most more next count
    → ((words : List Word) → Laid more next count words → Holds result words)
    → HoldsChosen result all
writes-end text more result edge next most count lead left all none w keeps holds =
    let words : w.words ≡ all = sym (append-nil w.words) ∙ ap (λ l. w.words ++ kept_answers l) (sym none) ∙ w.same in
    let laid = w.laid.laid in
    record {
      choices = w.laid.choices;
      lead = lead;
      allowed = subst (λ l. AreAllowed Other w.laid.choices l lead) words w.laid.allowed;
      holds = record {
        others = laid.others;
        same = subst (λ l. AreSameWords (chosen pipe_word w.laid.choices l) laid.others) words laid.same;
        holds = holds laid.others (keeps laid.others laid.laid);
      };
    }

-- its text is one of its kind
pub token-text : (kind : TokenKind) (text : List ℕ) (index : ℕ) (old rest : List Answer)
    → old ≡ gives (record { kind = Some kind; text = text; index = index }) ∷ rest → AreAnswers old
    → IsTokenText kind text
token-text kind text index old rest e a = (subst AreAnswers e a).0
