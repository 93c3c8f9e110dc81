-- What the errors of a parse are, by the reports that they say.
use Rattle.std.proofs.Common.{◌≡◌, ℕ, zero, suc, Bool, true, false, ◌&&◌, ◌||◌, if◌then◌else◌, eqb, List, [], ◌∷◌, ◌++◌}
use Rattle.std.proofs.Common.{length, map, arith, Option, Some, None, refl, sym, ◌∙◌, ap, ap₂, subst, inl, inr}
use Rattle.std.proofs.Common.{true≢false}
use Rattle.std.proofs.Math.Seq.{take-append_seam, drop-append_seam}
use Rattle.std.proofs.lemmas.Bool.{eqb-true, or_left, or_right}
use Rattle.std.proofs.lemmas.List.Elements.{All-nil, All-cons}
use Rattle.std.proofs.lemmas.Str.{IsAscii-append, IsAscii-take, IsAscii-drop}
use Rattle.std.specs.Char.{is_ascii}
use Rattle.std.specs.List.{AllZip, Any, All, list_all, list_any}
use Rattle.std.specs.Prelude.{codes, is_some, IsAscii, ⊤}
use Rattle.lexical_grammar.proofs.Limited.{limited-end}
use Rattle.lexical_grammar.specs.Answers.{Answer, gives, limit_at, limited, is_end}
use Rattle.lexical_grammar.specs.Cut.{Item, texts}
use Rattle.document_grammar.proofs.Booleans.{either}
use Rattle.document_grammar.specs.Booleans.{◌and◌}
use Rattle.grammar_machine.specs.Machine.{text_eq}
use Rattle.parser_rules.proofs.reports.AtTheLimit.{found-other}
use Rattle.parser_rules.proofs.runs.TreesWithSources.{Has, Limited}
use Rattle.parser_rules.specs.Messages.{Text, Found, at_text, at_end, at_limit, is_limit, description, names_found}
use Rattle.parser_rules.specs.Messages.{found_text, message_text, recursion_limit_message}
use Rattle.parser_rules.specs.Reports.{Reported, no_more, bad_text, token_limit, fault, recursion_limit, passed}
use Rattle.parser_rules.specs.Reports.{is_recursion_limit}
use Rattle.parser_rules.specs.State.{Report, Lexeme, bad_report, token_limit_report, recursion_limit_report}
use Rattle.parser_rules.specs.State.{fault_report, found_at, lexeme}
use Rattle.parser_rules.specs.declared.message.Message.{Message}
use Rattle.parser_rules.specs.declared.message.Message.TheVariants as message
use Rattle.apollo_lexer.proofs.Messages.{ascii-text, fault-ascii, begins_fault, is-fault-message, no-fault-message}
use Rattle.apollo_lexer.specs.Diagnostics.{Subject, Diagnostic, of_text, of_end, of_limit}
use Rattle.apollo_lexer.specs.LexErrors.{limit_message}
use Rattle.parser_state.specs.Errors.{IsWorded, IsErrorOf}
use Rattle.parser_state.specs.Found.{found_of}
use Rattle.apollo_parser.specs.Parsed as parsed
use Rattle.apollo_parser.specs.Parsed.{IsLimit, IsTokenLimit, IsRecursionLimit, IsLimitMessage, IsLimitWorded}
use Rattle.apollo_parser.specs.Parsed.{ErrorsAlong}

pub same-indices : (rs : List Report) (ds : List Diagnostic) → AllZip IsErrorOf rs ds
    → map (λ (d : Diagnostic). d.index) ds ≡ map (λ (r : Report). r.index) rs
same-indices [] [] h = refl
same-indices (r ∷ rs) (d ∷ ds) h = ap₂ (λ (i : ℕ) (is : List ℕ). i ∷ is) h.0.index (same-indices rs ds h.1)
same-indices _ _ h = absurd h

pub same-length : (rs : List Report) (ds : List Diagnostic) → AllZip IsErrorOf rs ds → length ds ≡ length rs
same-length [] [] h = refl
same-length (r ∷ rs) (d ∷ ds) h = ap suc (same-length rs ds h.1)
same-length _ _ h = absurd h

pub no-reports : (rs : List Report) (ds : List Diagnostic) → AllZip IsErrorOf rs ds → ds ≡ [] → rs ≡ []
no-reports [] ds h e = refl
no-reports (r ∷ rs) [] h e = absurd h
no-reports (r ∷ rs) (d ∷ ds) h e = absurd cc

pub no-errors : (rs : List Report) (ds : List Diagnostic) → AllZip IsErrorOf rs ds → rs ≡ [] → ds ≡ []
no-errors rs [] h e = refl
no-errors [] (d ∷ ds) h e = absurd h
no-errors (r ∷ rs) (d ∷ ds) h e = absurd cc

-- ---- the recursion limit

-- the lexer's words for a limit are others
own-words : (found : Found) (said : Option Text) (words : Text) → is_limit found ≡ true → IsWorded found said words
    → words ≡ recursion_limit_message
    → is_some said ≡ true
unfolding ◌and◌
own-words at_limit None words l h e = absurd (true≢false (ap (λ (t : Text). text_eq t limit_message) (sym h ∙ e)))
own-words _ (Some said) words l h e = refl
own-words (at_text text) None words l h e = absurd cc
own-words at_end None words l h e = absurd cc

recursion-said : (r : Report) (d : Diagnostic) → IsErrorOf r d → IsRecursionLimit d → is_recursion_limit r ≡ true
recursion-said r d h e =
    let l : is_limit r.found ≡ true = ap is_limit (sym h.subject ∙ ap found_of e.subject) in
    ap₂ (λ (a b : Bool). a && b) l (own-words r.found r.message d.message l h.message e.message)

pub any-recursion : (rs : List Report) (ds : List Diagnostic) → AllZip IsErrorOf rs ds → Any IsRecursionLimit ds
    → list_any is_recursion_limit rs ≡ true
any-recursion [] [] z (i, d, l, e, p) = absurd (omega (arith, l))
any-recursion (r ∷ rs) (d ∷ ds) z (zero, f, l, e, p) =
    or_left _ _ (recursion-said r d z.0 (subst IsRecursionLimit (sym e) p))
any-recursion (r ∷ rs) (d ∷ ds) z (suc i, f, l, e, p) =
    or_right (is_recursion_limit r) _ (any-recursion rs ds z.1 (i, f, omega (arith, l), e, p))
any-recursion _ _ z h = absurd z

-- ---- ASCII

description-ascii : (m : Message) → list_all is_ascii (description m) ≡ true
description-ascii message.UnexpectedEof = refl
description-ascii _ = refl

message-ascii : (m : Message) (found : Found) → IsAscii (found_text found) → IsAscii (message_text m found)
message-ascii m found h =
    elim (names_found m) as
    (λ b. IsAscii (if b then description m ++ codes ", got " ++ found_text found else description m)) [
      | true ↦ IsAscii-append (description m ++ codes ", got ") (found_text found)
          (IsAscii-append (description m) (codes ", got ") (ascii-text (description m) (description-ascii m))
          (ascii-text (codes ", got ") refl)) h
      | false ↦ ascii-text (description m) (description-ascii m)
    ]

found-ascii : (x : Lexeme) → IsAscii x.text → IsAscii (found_text (found_at x))
found-ascii x h = elim (is_end x.kind) as (λ b. IsAscii (found_text (if b then at_end else at_text x.text))) [
  | true ↦ ascii-text (codes "EOF") refl
  | false ↦ h
]

-- what holds of the text of each item
abbrev pub AllTexts : (Text → Type 0) → List Answer → Type 0
AllTexts P [] = ⊤
AllTexts P (gives item ∷ answers) = P item.text × AllTexts P answers
AllTexts P (limit_at index ∷ answers) = AllTexts P answers

-- What holds of the error of each report that a text can have. `Text_is` is what is known of the items' texts.
module _ (Text_is : Text → Type 0) (P : Diagnostic → Type 0)
    (of_bad : (text : Text) (index : ℕ) (d : Diagnostic) → Text_is text → IsErrorOf (bad_report text index) d → P d)
    (of_tokens : (index : ℕ) (d : Diagnostic) → IsErrorOf (token_limit_report index) d → P d)
    (of_fault : (m : Message) (x : Lexeme) (d : Diagnostic) → Text_is x.text → IsErrorOf (fault_report m x) d → P d)
    (of_depth : (x : Lexeme) (d : Diagnostic) → IsErrorOf (recursion_limit_report x) d → P d) where
  each-error : {taken : Bool} {answers : List Answer} {rs : List Report} (ds : List Diagnostic)
      → Reported taken answers rs → AllTexts Text_is answers
      → AllZip IsErrorOf rs ds → All P ds
  each-error [] h a z = All-nil P
  each-error (d ∷ ds) no_more a z = absurd z
  each-error (d ∷ ds) (bad_text {item = item} e h) a z =
      All-cons P d ds (of_bad item.text item.index d a.0 z.0) (each-error ds h a.1 z.1)
  each-error (d ∷ ds) (token_limit {index = index} h) a z =
      All-cons P d ds (of_tokens index d z.0) (each-error ds h a z.1)
  each-error (d ∷ ds) (fault m {token_kind = k} {item = item} e i h) a z =
      All-cons P d ds (of_fault m (lexeme k item) d a.0 z.0) (each-error ds h a z.1)
  each-error (d ∷ ds) (recursion_limit {token_kind = k} {item = item} e i h) a z =
      All-cons P d ds (of_depth (lexeme k item) d z.0) (each-error ds h a z.1)
  each-error (d ∷ ds) (passed e h) a z = each-error (d ∷ ds) h a.1 z

pub ascii-messages : {answers : List Answer} {rs : List Report} (ds : List Diagnostic) → Reported true answers rs
    → AllTexts IsAscii answers
    → AllZip IsErrorOf rs ds → All (λ (d : Diagnostic). IsAscii d.message) ds
ascii-messages = each-error IsAscii (λ d. IsAscii d.message)
    (λ text index d h e. fault-ascii text d.message (is-fault-message text d.message e.message) h)
    (λ index d e. subst IsAscii (sym e.message) (ascii-text limit_message refl))
    (λ m x d h e. subst IsAscii (sym e.message) (message-ascii m (found_at x) (found-ascii x h)))
    (λ x d e. subst IsAscii (sym e.message) (ascii-text recursion_limit_message refl))

-- the items of an ASCII text are ASCII
pub limited-ascii : (k : ℕ) (items : List Item) → IsAscii (texts items) → AllTexts IsAscii (limited k items)
limited-ascii k [] h = subst (AllTexts IsAscii) (sym (limited-end k)) tt
limited-ascii zero (item ∷ items) h = tt
limited-ascii (suc k) (item ∷ items) h = (
  subst IsAscii (take-append_seam item.text (texts items)) (IsAscii-take _ (length item.text) h),
  limited-ascii k items (subst IsAscii (drop-append_seam item.text (texts items))
      (IsAscii-drop _ (length item.text) h)),
)

-- ---- the messages of limits

-- what the two messages begin with: `p` and `t`
abbrev begins_limit : Text → Bool
begins_limit [] = false
begins_limit (c ∷ text) = eqb c 112 || eqb c 116

limit-begins : (message : Text) → IsLimitMessage message → begins_limit message ≡ true
limit-begins message (inl e) = ap begins_limit e
limit-begins message (inr e) = ap begins_limit e

-- the grammar's messages begin otherwise
message-begins : (m : Message) (found : Found) → begins_limit (message_text m found) ≡ false
message-begins message.UnexpectedEof found = refl
message-begins _ found = refl

-- the subject of an error, by the finding of its report
abbrev subject_of : Found → Subject
subject_of (at_text text) = of_text text
subject_of at_end = of_end
subject_of at_limit = of_limit

subject-is : (s : Subject) (found : Found) → found_of s ≡ found → s ≡ subject_of found
subject-is (of_text text) found e = ap subject_of e
subject-is of_end found e = ap subject_of e
subject-is of_limit found e = ap subject_of e

pub subject-limit : (d : Diagnostic) → found_of d.subject ≡ at_limit → d.subject ≡ of_limit
subject-limit d e = subject-is d.subject at_limit e

-- the report of the token limit has its error
pub token-limit-error : (n : ℕ) (r : Report) (d : Diagnostic) → r ≡ token_limit_report n
    → IsErrorOf r d → IsTokenLimit d
token-limit-error n r d e h = let i : IsErrorOf (token_limit_report n) d = subst (λ (x : Report). IsErrorOf x d) e h in
    record { subject = subject-limit d i.subject; message = i.message }

-- which is not the recursion limit's
pub no-recursion : (n : ℕ) (r : Report) (d : Diagnostic) → r ≡ token_limit_report n → IsErrorOf r d
    → IsRecursionLimit d → ⊥
no-recursion n r d e h i = true≢false (sym (recursion-said r d h i) ∙ ap is_recursion_limit e)

-- and the messages for bad text do too
limit-otherwise : (message : Text) → begins_limit message ≡ true → begins_fault message ≡ false
limit-otherwise [] h = refl
limit-otherwise (c ∷ text) h = on c h
  where
    on : (c : ℕ) → eqb c 112 || eqb c 116 ≡ true → eqb c 78 || eqb c 85 || eqb c 105 || eqb c 117 ≡ false
    on c h = elim (either (eqb c 112)) [
      | inl e ↦ rw (eqb-true c 112 e) refl
      | inr e ↦ rw (eqb-true c 116 (subst (λ (b : Bool). b || eqb c 116 ≡ true) e h)) refl
    ]

-- an error about something else, with another message
other-worded : (d : Diagnostic) (found : Found) → found_of d.subject ≡ found → is_limit found ≡ false
    → (IsLimitMessage d.message → ⊥) → IsLimitWorded d
other-worded d found e l n = record {
  limit = λ s. absurd (true≢false (sym (ap (λ (x : Subject). is_limit (found_of x)) s) ∙ (ap is_limit e ∙ l)));
  other =
      λ i. absurd (n i);
}

any-text : (answers : List Answer) → AllTexts (λ text. ⊤) answers
any-text [] = tt
any-text (gives item ∷ answers) = (tt, any-text answers)
any-text (limit_at index ∷ answers) = any-text answers

pub limit-worded : {answers : List Answer} {rs : List Report} (ds : List Diagnostic) → Reported true answers rs
    → AllZip IsErrorOf rs ds → All IsLimitWorded ds
limit-worded {answers = answers} ds h = each-error (λ text. ⊤) IsLimitWorded
    (λ text index d i e. other-worded d (at_text text) e.subject refl
    (λ l. no-fault-message text d.message (is-fault-message text d.message e.message)
    (limit-otherwise d.message (limit-begins d.message l))))
    (λ index d e. record { limit = λ s. inl e.message; other = λ i. subject-limit d e.subject })
    (λ m x d i e. other-worded d (found_at x) e.subject (found-other x) (λ l. true≢false
    (sym (limit-begins d.message l) ∙ (ap begins_limit e.message ∙ message-begins m (found_at x)))))
    (λ x d e. record { limit = λ s. inr e.message; other = λ i. subject-limit d e.subject })
    ds h (any-text answers)

-- each report has its error
pub any-said : (P : Diagnostic → Type 0) (rs : List Report) (ds : List Diagnostic) (r : Report) → Has rs r
    → ((d : Diagnostic) → IsErrorOf r d → P d)
    → AllZip IsErrorOf rs ds → Any P ds
any-said P rs ds r h f z = on h.before ds (subst (λ (all : List Report). AllZip IsErrorOf all ds) h.split z)
  where
    on : (before : List Report) (ds : List Diagnostic) → AllZip IsErrorOf (before ++ r ∷ h.after) ds → Any P ds
    on [] [] z = absurd z
    on [] (d ∷ ds) z = (0, d, omega arith, refl, f d z.0)
    on (x ∷ before) [] z = absurd z
    on (x ∷ before) (d ∷ ds) z = let (i, e, l, s, p) = on before ds z.1 in (suc i, e, omega (arith, l), s, p)

-- a limit's error has a limit for its subject
pub any-limit : (rs : List Report) (ds : List Diagnostic) → AllZip IsErrorOf rs ds → Limited rs → Any IsLimit ds
any-limit rs ds z (r, e, h) = any-said IsLimit rs ds r h (λ d i. subject-limit d (i.subject ∙ e)) z

subject-here : (b : Bool) (s : Subject) (text : Text) → found_of s ≡ (if b then at_end else at_text text)
    → s ≡ (if b then of_end else of_text text)
subject-here true s text e = subject-is s at_end e
subject-here false s text e = subject-is s (at_text text) e

-- and a token's error has its text
pub fault-text : (m : Message) (x : Lexeme) (d : Diagnostic) → is_end x.kind ≡ false → IsErrorOf (fault_report m x) d
    → d.subject ≡ of_text x.text
fault-text m x d i h = subject-is d.subject (at_text x.text)
    (h.subject ∙ ap (λ (b : Bool). if b then at_end else at_text x.text) i)

-- ---- all errors

-- the errors that say the reports of some answers
pub errors-along : {taken : Bool} {answers : List Answer} {rs : List Report} → Reported taken answers rs
    → (ds : List Diagnostic) → AllZip IsErrorOf rs ds
    → ErrorsAlong taken answers ds
errors-along no_more [] z = parsed.no_more
errors-along no_more (d ∷ ds) z = absurd z
errors-along (bad_text {item = item} e h) (d ∷ ds) z =
    parsed.bad_text e (record { subject = subject-is d.subject (at_text item.text) z.0.subject; index = z.0.index })
    (errors-along h ds z.1)
errors-along (token_limit h) (d ∷ ds) z =
    let about = subject-limit d z.0.subject in
    parsed.token_limit (record { subject = about; index = z.0.index })
    (record { subject = about; message = z.0.message }) (errors-along h ds z.1)
errors-along (fault m {token_kind = k} {item = item} e i h) (d ∷ ds) z =
    parsed.fault e i (record { subject = subject-here (is_end k) d.subject item.text z.0.subject; index = z.0.index })
    (errors-along h ds z.1)
errors-along (recursion_limit e i h) (d ∷ ds) z =
    let about = subject-limit d z.0.subject in
    parsed.recursion_limit e i (record { subject = about; index = z.0.index })
    (record { subject = about; message = z.0.message }) (errors-along h ds z.1)
errors-along (passed e h) ds z = parsed.passed e (errors-along h ds z)
errors-along _ [] z = absurd z
