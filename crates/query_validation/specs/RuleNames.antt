-- The names of rules, as in graphql-js, without the `Rule` at the end.
use Rattle.std.specs.Prelude.{ℕ, List, codes}
use Rattle.query_validation.specs.declared.rules.QueryRule.{QueryRule}
use Rattle.query_validation.specs.declared.rules.QueryRule.TheVariants as rule

abbrev pub rule_name : QueryRule → List ℕ
rule_name rule.FieldsOnCorrectType = codes "FieldsOnCorrectType"
rule_name rule.ScalarLeafs = codes "ScalarLeafs"
rule_name rule.KnownArgumentNames = codes "KnownArgumentNames"
rule_name rule.ProvidedRequiredArguments = codes "ProvidedRequiredArguments"
rule_name rule.ValuesOfCorrectType = codes "ValuesOfCorrectType"
rule_name rule.KnownTypeNames = codes "KnownTypeNames"
rule_name rule.FragmentsOnCompositeTypes = codes "FragmentsOnCompositeTypes"
rule_name rule.KnownDirectives = codes "KnownDirectives"
rule_name rule.UniqueDirectivesPerLocation = codes "UniqueDirectivesPerLocation"
rule_name rule.VariablesAreInputTypes = codes "VariablesAreInputTypes"
