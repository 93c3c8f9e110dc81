-- Items, printed one after the other.
use Rattle.std.proofs.Common.{◌≡◌, ℕ, ◌+◌, ◌≤◌, Bool, true, false, List, [], ◌∷◌, ◌++◌, length, length-append, not}
use Rattle.std.proofs.Common.{cond, refl, sym, ap, ◌∙◌, subst, append_assoc, arith}
use Rattle.std.proofs.lemmas.List.{append-nil}
use Rattle.std.proofs.lemmas.List.Sums.{sum_by-append, count_by-le-length}
use Rattle.apollo_parser.specs.Answers.{Answer, is_token}
use Rattle.apollo_parser.specs.Diagnostics.{Diagnostic}
use Rattle.apollo_parser.specs.LexErrors.{lex_subject, IsLexMessage}
use Rattle.apollo_parser.specs.LexerAnswers.{error_answer}
use Rattle.gqlcst_run.proofs.Buffers.{puts_nothing, puts_then}
use Rattle.gqlcst_run.proofs.Lines.{lines_none, lines-more}
use Rattle.gqlcst_run.specs.Buffering.{Buffered, Puts, PutsSome}
use Rattle.gqlcst_run.specs.Rendering.{line, AreLines, IsErrorForm, IsAnswerForm, error_count}

-- The first of all answers are printed, with this number of errors among them, and these are left.
pub record ArePrinted (all left : List Answer) (errors : ℕ) (output : List ℕ) : Type 0 where
  pub printed : List Answer
  pub joined : all ≡ printed ++ left
  pub lines : AreLines IsAnswerForm printed output
  pub counted : errors ≡ error_count printed

pub none_put : (all : List Answer) (s : Buffered) → PutsSome (ArePrinted all all 0) s s
none_put all s = record {
  output = [];
  made = record { printed = []; joined = refl; lines = lines_none IsAnswerForm; counted = refl };
  puts =
      puts_nothing s;
}

few-errors : (answers : List Answer) → error_count answers ≤ length answers
few-errors answers = count_by-le-length (λ (a : Answer). not (is_token a)) answers

-- with the next answer there are no more errors than answers
pub errors-within : (all old left : List Answer) (answer : Answer) (errors more : ℕ) (s t : Buffered)
    → PutsSome (ArePrinted all old errors) s t
    → old ≡ answer ∷ left
    → more ≡ error_count (answer ∷ []) → errors + more ≤ length all
errors-within all old left answer errors more s t p comes counts =
    let h = p.made in
    omega (
      arith,
      h.counted,
      counts,
      few-errors h.printed,
      few-errors (answer ∷ []),
      ap length h.joined,
      length-append h.printed old,
      ap length comes,
    )

count-more : (printed : List Answer) (answer : Answer)
    → error_count (printed ++ answer ∷ []) ≡ error_count printed + error_count (answer ∷ [])
count-more printed answer = sum_by-append (λ (a : Answer). cond (not (is_token a)) 1 0) printed (answer ∷ [])

-- one more answer is printed
printed-more : (all old left : List Answer) (answer : Answer) (output form : List ℕ) (errors more after : ℕ)
    → ArePrinted all old errors output
    → old ≡ answer ∷ left → IsAnswerForm answer form
    → more ≡ error_count (answer ∷ []) → after ≡ errors + more → ArePrinted all left after (output ++ line form)
printed-more all old left answer output form errors more after h comes one counts sum = record {
  printed = h.printed ++ answer ∷ [];
  joined = h.joined ∙ ap (λ (answers : List Answer). h.printed ++ answers) comes
      ∙ sym (append_assoc h.printed (answer ∷ []) left);
  lines = lines-more IsAnswerForm h.printed answer output form h.lines one;
  counted = omega (arith, count-more h.printed answer, h.counted, counts, sum);
}

pub item_put : (all old left : List Answer) (answer : Answer) (errors more after : ℕ) (s t u v : Buffered)
    → PutsSome (ArePrinted all old errors) s t
    → old ≡ answer ∷ left
    → PutsSome (IsAnswerForm answer) t u → Puts u (10 ∷ []) v → more ≡ error_count (answer ∷ []) → after ≡ errors + more
    → PutsSome (ArePrinted all left after) s v
item_put all old left answer errors more after s t u v before comes one feed counts sum = record {
  output = before.output ++ line one.output;
  made = printed-more all old left answer before.output one.output errors more after before.made comes one.made
      counts sum;
  puts = puts_then s t v before.output (line one.output) before.puts
      (puts_then t u v one.output (10 ∷ []) one.puts feed);
}

-- the printed form of a lexer's error is its answer's
pub error-form : (limit : Bool) (text form : List ℕ) (index : ℕ) (error : Diagnostic)
    → error.subject ≡ lex_subject limit text → error.index ≡ index
    → IsLexMessage limit text error.message
    → IsErrorForm error form → IsAnswerForm (error_answer limit text index) form
error-form true text form index error subject offset message one =
    record {
      error = error;
      of_answer = (λ j. record { message = message j; subject = subject j; index = offset j });
      form = one;
    }
error-form false text form index error subject offset message one =
    record { error = error; of_answer = (subject, offset, message); form = one }

-- where none is left, all answers are printed
pub all-printed : (wanted all left : List Answer) (errors : ℕ) (output : List ℕ) → all ≡ wanted → left ≡ []
    → ArePrinted all left errors output
    → AreLines IsAnswerForm wanted output × (errors ≡ error_count wanted)
all-printed wanted all left errors output are none h =
    let whole = sym (append-nil h.printed)
    ∙ (ap (λ (answers : List Answer). h.printed ++ answers) (sym none) ∙ (sym h.joined ∙ are)) in (
      subst (λ (answers : List Answer). AreLines IsAnswerForm answers output) whole h.lines,
      h.counted
          ∙ ap error_count whole,
    )
