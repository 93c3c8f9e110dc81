-- How many steps operations take, and where they are used up.
use Rattle.std.specs.List.{list_any, sum_by}
use Rattle.std.specs.Prelude.{◌≡◌, ℕ, ◌+◌, ◌<◌, List, length, take, Bool, true, false, not, nat_le, Option, Some, None}
use Rattle.std.specs.Prelude.{◌-◌, ◌^◌, min, if◌then◌else◌}
use Rattle.validation_names.specs.Mentions.{Named}
use Rattle.validation_rules.specs.Parts.{Parts, at, is_declared, reached, targets}
use Rattle.variable_rules.specs.UsedNames.{firsts_of}

-- the steps of a walk at one definition: one for it, one for each spread, and one for each name that it uses
abbrev pub walk_steps_in : List Parts → ℕ → ℕ
walk_steps_in ds number = length (firsts_of (at ds number).used) + length (targets ds number) + 1

-- A definition in which the operation finds a variable that it does not declare is read use by use.
abbrev pub use_steps_in : List Parts → ℕ → ℕ → ℕ
use_steps_in ds operation number =
    if list_any (λ (i : Named). not (is_declared ds operation i.name)) (at ds number).used
    then length (at ds number).used else 0

-- the steps of an operation, in all definitions that it reaches
abbrev pub steps_of : List Parts → ℕ → ℕ
steps_of ds operation = sum_by (λ number. walk_steps_in ds number + use_steps_in ds operation number)
    (reached ds operation)

-- a number, or the greatest `usize` if that is less
abbrev pub capped : ℕ → ℕ
capped n = min n (2 ^ 64 - 1)

-- whether all steps are taken; without a number of steps they never are
abbrev pub are_used_up : Option ℕ → ℕ → Bool
are_used_up None taken = false
are_used_up (Some steps) taken = nat_le steps taken

-- The operations before the one with a number took all steps.
abbrev pub is_used_up_at : Option ℕ → List Parts → List ℕ → ℕ → Bool
is_used_up_at steps ds operations number = are_used_up steps (sum_by (steps_of ds) (take number operations))

-- Where the steps are used up: before the first such operation, or nowhere.
abbrev pub EndsAt : Option ℕ → List Parts → List ℕ → Option ℕ → Type 0
EndsAt steps ds operations None =
    (number : ℕ) → number < length operations → is_used_up_at steps ds operations number ≡ false
EndsAt steps ds operations (Some ended_at) =
    (ended_at < length operations) × (is_used_up_at steps ds operations ended_at ≡ true)
    × ((number : ℕ) → number < ended_at → is_used_up_at steps ds operations number ≡ false)

-- the operations before the one at which the steps were used up; all of them if they were not
abbrev pub before : Option ℕ → List ℕ → List ℕ
before None operations = operations
before (Some ended_at) operations = take ended_at operations
