-- The numbers of rules, in the order of `Rule`.
use Rattle.std.specs.Prelude.{ℕ}
use Rattle.validation_rules.specs.declared.violations.Rule.{Rule}
use Rattle.validation_rules.specs.declared.violations.Rule.TheVariants as rule

abbrev pub rule_number : Rule → ℕ
rule_number rule.ExecutableDefinitions = 0
rule_number rule.UniqueOperationNames = 1
rule_number rule.LoneAnonymousOperation = 2
rule_number rule.UniqueArgumentNames = 3
rule_number rule.UniqueFragmentNames = 4
rule_number rule.NoUnusedFragments = 5
rule_number rule.KnownFragmentNames = 6
rule_number rule.NoFragmentCycles = 7
rule_number rule.UniqueInputFieldNames = 8
rule_number rule.UniqueVariableNames = 9
rule_number rule.NoUndefinedVariables = 10
rule_number rule.NoUnusedVariables = 11
rule_number rule.UniqueFieldDefinitionNames = 12
rule_number rule.UniqueArgumentDefinitionNames = 13
rule_number rule.UniqueEnumValueNames = 14
rule_number rule.UniqueUnionMemberTypes = 15
rule_number rule.UniqueImplementedInterfaces = 16
