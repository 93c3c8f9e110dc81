-- The rules that words name.
use Rattle.std.specs.List.{Contains, list_any, slice_split}
use Rattle.std.specs.Prelude.{◌≡◌, ◌==◌, ◌&&◌, not, ◌++◌, ℕ, Bool, List, [], All, bytes_eq, Option, Some, None, Result}
use Rattle.std.specs.Prelude.{Ok, Err}
use Rattle.validation_rules.specs.RuleNames.{rule_name}
use Rattle.validation_rules.specs.Selection.{has_rule}
use Rattle.validation_rules.specs.declared.selection.RuleSet.{RuleSet}
use Rattle.validation_rules.specs.declared.violations.Rule.{Rule}
use Rattle.command_lines.specs.declared.misuse.WordsError.{WordsError}
use Rattle.command_lines.specs.declared.misuse.WordsError.TheVariants.{Memory, Usage}
use Rattle.gqlcheck_run.specs.declared.rules.Rules.{Rules}

-- names that are joined by commas
abbrev pub names_in : List ℕ → List (List ℕ)
names_in text = slice_split (λ b. b == 44) text

-- the names that an option gives, if it is given
abbrev pub names_of : Option (List ℕ) → List (List ℕ)
names_of None = []
names_of (Some text) = names_in text

-- a rule has this name
abbrev pub IsRuleName : List ℕ → Type 0
IsRuleName name = (rule : Rule) × (rule_name rule ≡ name)

-- one of these names is the rule's
abbrev pub is_among : List (List ℕ) → Rule → Bool
is_among names rule = list_any (λ name. bytes_eq (rule_name rule) name) names

-- By the names of the rules that are allowed, and of those that are warned of: the rules whose breaches keep texts from
-- passing, and those whose breaches are only told. All names are those of rules.
pub record AreRules (allowed warned : List (List ℕ)) (rules warnings : RuleSet) : Type 0 where
  pub known : All IsRuleName (allowed ++ warned)
  pub judged : (rule : Rule) → has_rule rules rule ≡ not (is_among (allowed ++ warned) rule)
  pub told : (rule : Rule) → has_rule warnings rule ≡ (is_among warned rule && not (is_among allowed rule))

-- This is one of the names, and no rule has it.
abbrev pub IsUnknownRule : List (List ℕ) → List ℕ → Type 0
IsUnknownRule names name = Contains names name × ¬ IsRuleName name

-- Where a word is wrong, it is one of these.
abbrev pub IsNotRead : (List ℕ → Type 0) → WordsError → Type 0
IsNotRead IsWrong (Usage misuse) = IsWrong misuse.word.now
IsNotRead IsWrong Memory = Unit {0}

-- The rules are read, or a name is no rule's. Where memory was refused, this says nothing.
abbrev pub AreRead : List (List ℕ) → List (List ℕ) → Result Rules WordsError → Type 0
AreRead allowed warned (Ok rules) = AreRules allowed warned rules.judged rules.told
AreRead allowed warned (Err error) = IsNotRead (IsUnknownRule (allowed ++ warned)) error
