-- The names of rules.
use Rattle.std.specs.Prelude.{ℕ, List, codes}
use Rattle.validation_rules.specs.declared.violations.Rule.{Rule}
use Rattle.validation_rules.specs.declared.violations.Rule.TheVariants.{ExecutableDefinitions, UniqueOperationNames}
use Rattle.validation_rules.specs.declared.violations.Rule.TheVariants.{LoneAnonymousOperation, UniqueArgumentNames}
use Rattle.validation_rules.specs.declared.violations.Rule.TheVariants.{UniqueFragmentNames, NoUnusedFragments}
use Rattle.validation_rules.specs.declared.violations.Rule.TheVariants.{KnownFragmentNames, NoFragmentCycles}
use Rattle.validation_rules.specs.declared.violations.Rule.TheVariants.{UniqueInputFieldNames, UniqueVariableNames}
use Rattle.validation_rules.specs.declared.violations.Rule.TheVariants.{NoUndefinedVariables, NoUnusedVariables}
use Rattle.validation_rules.specs.declared.violations.Rule.TheVariants.{UniqueFieldDefinitionNames}
use Rattle.validation_rules.specs.declared.violations.Rule.TheVariants.{UniqueArgumentDefinitionNames}
use Rattle.validation_rules.specs.declared.violations.Rule.TheVariants.{UniqueEnumValueNames, UniqueUnionMemberTypes}
use Rattle.validation_rules.specs.declared.violations.Rule.TheVariants.{UniqueImplementedInterfaces}

-- as in graphql-js, without the `Rule` at the end; the last two have no name there
abbrev pub rule_name : Rule → List ℕ
rule_name ExecutableDefinitions = codes "ExecutableDefinitions"
rule_name UniqueOperationNames = codes "UniqueOperationNames"
rule_name LoneAnonymousOperation = codes "LoneAnonymousOperation"
rule_name UniqueArgumentNames = codes "UniqueArgumentNames"
rule_name UniqueFragmentNames = codes "UniqueFragmentNames"
rule_name NoUnusedFragments = codes "NoUnusedFragments"
rule_name KnownFragmentNames = codes "KnownFragmentNames"
rule_name NoFragmentCycles = codes "NoFragmentCycles"
rule_name UniqueInputFieldNames = codes "UniqueInputFieldNames"
rule_name UniqueVariableNames = codes "UniqueVariableNames"
rule_name NoUndefinedVariables = codes "NoUndefinedVariables"
rule_name NoUnusedVariables = codes "NoUnusedVariables"
rule_name UniqueFieldDefinitionNames = codes "UniqueFieldDefinitionNames"
rule_name UniqueArgumentDefinitionNames = codes "UniqueArgumentDefinitionNames"
rule_name UniqueEnumValueNames = codes "UniqueEnumValueNames"
rule_name UniqueUnionMemberTypes = codes "UniqueUnionMemberTypes"
rule_name UniqueImplementedInterfaces = codes "UniqueImplementedInterfaces"
