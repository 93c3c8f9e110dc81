-- What is said on standard error, by how a text ended.
use Rattle.std.proofs.Common.{◌≡◌, ℕ, List, [], length, refl, sym, ap, ◌∙◌, subst, arith, length-append, Result}
use Rattle.std.specs.Prelude.{Ok, Err}
use Rattle.std.specs.declared.io.Error.{Error}
use Rattle.byte_streams.specs.Devices.{Account}
use Rattle.byte_streams.specs.Writing.{EndsWriting}
use Rattle.byte_streams.specs.declared.fault.Fault.{Fault}
use Rattle.byte_streams.specs.declared.fault.Fault.TheVariants.{Read, Utf8, Memory, Write}
use Rattle.command_lines.specs.Complaints.{Tells}
use Rattle.command_lines.specs.declared.complaints.FileFault.{FileFault}
use Rattle.gqlfmt_run.specs.Complaints.{IsSilent, Says, SaysFault, SaysFileFault, SaysOfFile, SaysReason}
use Rattle.gqlfmt_run.specs.Complaints.{TellsOfFileAndCopy}
use Rattle.gqlfmt_run.specs.declared.command.TheConstants.{PROGRAM}
use Rattle.gqlfmt_run.specs.declared.job.Bounds.{Bounds}
use Rattle.gqlfmt_run.specs.declared.settlement.Settled.{Settled}
use Rattle.gqlfmt_run.specs.declared.settlement.Settled.TheVariants.{Done, Found, Refused}

module _ (bounds : Bounds) (name : List ℕ) where
  -- what is said of a text while it is handled, and then at the end
  pub silent_says : (source : List ℕ) (ended : Result Settled Fault) (old middle new : Account)
      → IsSilent bounds name (Ok source) ended old middle
      → SaysFault name ended middle new → Says bounds name source ended old new
  silent_says source (Ok Done) old middle new silent said = said ∙ silent
  silent_says source (Ok Found) old middle new silent said = said ∙ silent
  silent_says source (Ok Refused) old middle new silent said =
      subst (λ (a : Account). SaysReason bounds name source old a) (sym said) silent
  silent_says source (Err fault) old middle new silent said =
      subst (λ (a : Account). Tells PROGRAM.now name fault a new) silent said

  pub silent_says_of_file : (given : Result (List ℕ) Error) (ended : Result Settled FileFault)
      (old middle new : Account)
      → IsSilent bounds name given ended old middle → SaysFileFault name ended middle new
      → SaysOfFile bounds name given ended old new
  silent_says_of_file given (Ok Done) old middle new silent said = said ∙ silent
  silent_says_of_file given (Ok Found) old middle new silent said = said ∙ silent
  silent_says_of_file (Ok source) (Ok Refused) old middle new silent said =
      subst (λ (a : Account). SaysReason bounds name source old a) (sym said) silent
  silent_says_of_file (Err error) (Ok Refused) old middle new silent said = absurd silent
  silent_says_of_file given (Err fault) old middle new silent said =
      subst (λ (a : Account). TellsOfFileAndCopy name fault a new) silent said

-- What is said is the same for each type of faults, and for each name of the source.
pub silent-again : (E F : Type 0) (bounds : Bounds) (name source text : List ℕ) (settled : Settled) (old new : Account)
    → source ≡ text
    → IsSilent {E = E} bounds name (Ok source) (Ok settled) old new
    → IsSilent {E = F} bounds name (Ok text) (Ok settled) old new
silent-again E F bounds name source text Done old new same silent = silent
silent-again E F bounds name source text Found old new same silent = silent
silent-again E F bounds name source text Refused old new same silent =
    subst (λ (s : List ℕ). SaysReason bounds name s old new) same silent

-- writing nothing does not break off
all-written : (fault : Fault) (text : List ℕ) (old new : Account) → EndsWriting fault text old new → text ≡ [] → ⊥
all-written Write text old new broken empty =
    omega (arith, ap length (sym empty), ap length broken.joined, length-append broken.written broken.rest, broken.more)
all-written Read text old new ends empty = ends
all-written Utf8 text old new ends empty = ends
all-written Memory text old new ends empty = ends

-- what was said is nothing where what is written breaks off
pub silent-broken : (bounds : Bounds) (name source : List ℕ) (settled : Settled) (fault : Fault) (text bytes : List ℕ)
    (out out' old new : Account)
    → bytes ≡ text → EndsWriting fault bytes out out' → (settled ≡ Refused → text ≡ [])
    → IsSilent {E = Unit {0}} bounds name (Ok source) (Ok settled) old new → new ≡ old
silent-broken bounds name source Done fault text bytes out out' old new same ends empty silent = silent
silent-broken bounds name source Found fault text bytes out out' old new same ends empty silent = silent
silent-broken bounds name source Refused fault text bytes out out' old new same ends empty silent =
    absurd (all-written fault bytes out out' ends (same ∙ empty refl))
