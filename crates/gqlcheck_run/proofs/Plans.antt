-- What a run does by its plan, and what is said where a word is wrong.
use Rattle.std.proofs.Common.{◌≡◌, ◌++◌, ℕ, List, inl, inr, subst}
use Rattle.std.specs.Prelude.{Bool, Result}
use Rattle.std.specs.declared.io.Error.{Error}
use Rattle.document_checks.specs.Checking.{Asked}
use Rattle.file_access.specs.Listing.{Listing}
use Rattle.command_lines.specs.Options.{Given}
use Rattle.command_lines.specs.declared.misuse.WordsError.{WordsError}
use Rattle.command_lines.specs.declared.misuse.WordsError.TheVariants.{Memory, Usage}
use Rattle.named_files.specs.Handling.{State}
use Rattle.gqlcheck_run.specs.Inputs.{Input}
use Rattle.gqlcheck_run.specs.Judging.{JudgesTexts, Printed}
use Rattle.gqlcheck_run.specs.Program.{ChecksAll, ChecksIfRules, Paths, Refuses, allowed_by, warned_by}
use Rattle.gqlcheck_run.specs.Rules.{IsNotRead, IsUnknownRule}
use Rattle.gqlcheck_run.specs.declared.job.Printing.{Printing}

-- A name is no rule's.
pub unknown : {S : Type 0} (lists : S → List ℕ → Listing → S → Type 0)
    (omits : S → List ℕ → Result Bool Error → S → Type 0) (reads : S → List ℕ → Result (List ℕ) Error → S → Type 0)
    (given : Given) (error : WordsError) (status : ℕ) (old new : State S)
    → IsNotRead (IsUnknownRule (allowed_by given ++ warned_by given)) error
    → Refuses error status old.complaints new.complaints → new.files ≡ old.files → new.output ≡ old.output
    → new.input ≡ old.input → ChecksIfRules lists omits reads given status old new
unknown lists omits reads given (Usage misuse) status old new wrong why files output input =
    inl (inr ((misuse.word.now, misuse.mistake, wrong, why.0, why.1, output, input), files))
unknown lists omits reads given Memory status old new wrong why files output input =
    inr ((why.0, why.1, output, input), files)

-- The same for a plan's own values.
pub by_plan : {S : Type 0} (lists : S → List ℕ → Listing → S → Type 0)
    (omits : S → List ℕ → Result Bool Error → S → Type 0) (reads : S → List ℕ → Result (List ℕ) Error → S → Type 0)
    (asked asked' : Asked) (printing printing' : Printing) (paths paths' : Paths) (status : ℕ) (old new : State S)
    → asked ≡ asked' → printing ≡ printing' → paths ≡ paths'
    → ChecksAll lists omits reads asked printing paths status old new
    → ChecksAll lists omits reads asked' printing' paths' status old new
by_plan lists omits reads asked asked' printing printing' paths paths' status old new same_asked same_printing
    same_paths checks =
    subst (λ (a : Asked). ChecksAll lists omits reads a printing' paths' status old new) same_asked
    (subst (λ (p : Printing). ChecksAll lists omits reads asked p paths' status old new) same_printing
    (subst (λ (ps : Paths). ChecksAll lists omits reads asked printing ps status old new) same_paths checks))

-- The same of judging, for equal requests.
pub judges_by : (asked asked' : Asked) (printing printing' : Printing) (inputs inputs' : List Input) (status : ℕ)
    (old new : Printed) → asked ≡ asked' → printing ≡ printing' → inputs ≡ inputs'
    → JudgesTexts asked printing inputs status old new → JudgesTexts asked' printing' inputs' status old new
judges_by asked asked' printing printing' inputs inputs' status old new same_asked same_printing same_inputs judges =
    subst (λ (a : Asked). JudgesTexts a printing' inputs' status old new) same_asked
    (subst (λ (p : Printing). JudgesTexts asked p inputs' status old new) same_printing
    (subst (λ (xs : List Input). JudgesTexts asked printing xs status old new) same_inputs judges))
