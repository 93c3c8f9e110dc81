-- The list of all rules.
use Rattle.std.proofs.Common.{◌≡◌, refl, get_or}
use Rattle.std.specs.List.{find}
use Rattle.std.specs.Prelude.{bytes_eq, Some}
use Rattle.validation_rules.specs.RuleNames.{rule_name}
use Rattle.validation_rules.specs.RuleNumbers.{rule_number}
use Rattle.validation_rules.specs.declared.violations.Rule.{Rule}
use Rattle.validation_rules.specs.declared.violations.Rule.TheVariants as each
use Rattle.validation_rules.specs.declared.violations.TheConstants.Rule.{ALL}

-- Each rule is there at its number, and is the first with its name.
pub has_each : (rule : Rule) → (get_or ALL (rule_number rule) each.ExecutableDefinitions ≡ rule)
    × (find (λ r. bytes_eq (rule_name r) (rule_name rule)) ALL ≡ Some rule)
has_each each.ExecutableDefinitions = (refl, refl)
has_each each.UniqueOperationNames = (refl, refl)
has_each each.LoneAnonymousOperation = (refl, refl)
has_each each.UniqueArgumentNames = (refl, refl)
has_each each.UniqueFragmentNames = (refl, refl)
has_each each.NoUnusedFragments = (refl, refl)
has_each each.KnownFragmentNames = (refl, refl)
has_each each.NoFragmentCycles = (refl, refl)
has_each each.UniqueInputFieldNames = (refl, refl)
has_each each.UniqueVariableNames = (refl, refl)
has_each each.NoUndefinedVariables = (refl, refl)
has_each each.NoUnusedVariables = (refl, refl)
has_each each.UniqueFieldDefinitionNames = (refl, refl)
has_each each.UniqueArgumentDefinitionNames = (refl, refl)
has_each each.UniqueEnumValueNames = (refl, refl)
has_each each.UniqueUnionMemberTypes = (refl, refl)
has_each each.UniqueImplementedInterfaces = (refl, refl)
