-- The words of a command line, and the request in them.
use Rattle.std.specs.Prelude.{◌≡◌, ℕ, List, map, Option, Some, None, option_map, Result, Ok, Err}
use denote.Ref.{Bor}
use Rattle.command_lines.specs.declared.information.Information.{Information}
use Rattle.command_lines.specs.declared.information.Request.{Request}
use Rattle.command_lines.specs.declared.information.Request.TheVariants.{Print, Process}
use Rattle.command_lines.specs.declared.misuse.WordsError.{WordsError}
use Rattle.command_lines.specs.declared.misuse.WordsError.TheVariants.{Usage, Memory}

-- the words as they are
abbrev pub texts : List (Bor (List ℕ)) → List (List ℕ)
texts words = map (λ word. word.now) words

abbrev pub information_or_run : {R : Type 0} → Option Information → Option R → Option (Request R)
information_or_run (Some page) run = Some (Print page)
information_or_run None run = option_map Process run

-- the same with runs for plans of another type
abbrev pub request_map : {P R : Type 0} → (P → R) → Request P → Request R
request_map run (Print page) = Print page
request_map run (Process plan) = Process (run plan)

-- What is read, seen as something else, is what was wanted; or there was nothing. Where memory was refused, this says
-- nothing.
module _ {T P : Type 0} (seen : P → T) where
  abbrev pub IsRead : Option T → Result P WordsError → Type 0
  IsRead wanted (Ok value) = wanted ≡ Some (seen value)
  IsRead wanted (Err (Usage misuse)) = wanted ≡ None
  IsRead wanted (Err Memory) = Unit {0}
