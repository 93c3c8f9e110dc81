-- What a report changes: the errors, and at the recursion limit also the greatest depth and whether more errors are
-- taken. So what holds whatever these are, holds after a report.
use Rattle.std.proofs.Common.{◌≡◌, ap, ◌∙◌, Bool, true, false, if◌then◌else◌, List, [], ◌∷◌, ◌++◌, Option, Some, None}
use Rattle.parser_rules.specs.State.{State, Lexeme, Report, fault_report, recursion_limit_report, noted, note, deepened}
use Rattle.parser_rules.specs.State.{limited_at, too_deep}
use Rattle.parser_rules.specs.declared.message.Message.{Message}

with-report : (P : State → Type 0) (state : State) (report : Report) (b : Bool)
    → ((errors : List Report) → P (record state { errors = errors }))
    → P (if b then record state { errors = state.errors ++ report ∷ [] } else state)
with-report P state report true h = h (state.errors ++ report ∷ [])
with-report P state report false h = h state.errors

pub after-note : (P : State → Type 0) (message : Message) (state : State)
    → ((errors : List Report) → P (record state { errors = errors }))
    → P (note message state)
unfolding note
after-note P message state h = elim state.current as (λ (o : Option Lexeme). P (noted message state o)) [
  | None ↦ h state.errors
  | Some x ↦ with-report P state (fault_report message x) state.accepts h
]

pub after-too-deep : (P : State → Type 0) (state : State) → ((errors : List Report) (accepts : Bool)
    → P (record (deepened state) { errors = errors; accepts = accepts })) → P (too_deep state)
unfolding too_deep
after-too-deep P state h = elim state.current as (λ (o : Option Lexeme). P (limited_at (deepened state) o)) [
  | None ↦ h state.errors state.accepts
  | Some x ↦ with-report (λ (t : State). P (record t { accepts = false })) (deepened state) (recursion_limit_report x)
      state.accepts (λ errors. h errors false)
]

-- Where the current token is there and reports are taken, the report is added.
pub note-is : (message : Message) (state : State) (lexeme : Lexeme) → state.current ≡ Some lexeme → state.accepts ≡ true
    → note message state ≡ record state { errors = state.errors ++ fault_report message lexeme ∷ [] }
unfolding note
note-is message state lexeme e a = ap (noted message state) e ∙ ap (λ (b : Bool). if b then record state
    { errors = state.errors ++ fault_report message lexeme ∷ [] } else state) a

pub too_deep-is : (state : State) (lexeme : Lexeme) → state.current ≡ Some lexeme → state.accepts ≡ true
    → too_deep state ≡ record (deepened state)
    { errors = state.errors ++ recursion_limit_report lexeme ∷ []; accepts = false }
unfolding too_deep
too_deep-is state lexeme e a =
    let after : State = deepened state in
    ap (limited_at after) e
    ∙ ap (λ (b : Bool). record (if b then record after
    { errors = after.errors ++ recursion_limit_report lexeme ∷ [] } else after)
    { accepts = false }) a
