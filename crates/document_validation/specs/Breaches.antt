-- What breaks the rules that need no schema (GraphQL October 2021), in documents that are judged together.
use Rattle.std.specs.List.{flat_map}
use Rattle.std.specs.Prelude.{◌≡◌, ℕ, suc, List, [], ◌∷◌, ◌++◌, take, Bool, true, false, not, Option, Some, None}
use Rattle.std.specs.Prelude.{option_and_then, if◌then◌else◌}
use Rattle.apollo_tree.specs.Children.{child_nodes}
use Rattle.apollo_tree.specs.Order.{Place}
use Rattle.validation_names.specs.Definitions.{defined, named_definitions}
use Rattle.validation_names.specs.Sites.{Located, located, nodes}
use Rattle.validation_names.specs.declared.executables.DefinitionKind.TheVariants.{Operation, Fragment}
use Rattle.validation_rules.specs.Broken.{not_alone, on_cycles, repeats, undefined_spreads, unused_fragments}
use Rattle.validation_rules.specs.Broken.{variables_of}
use Rattle.validation_rules.specs.Parts.{Parts, operations, parts_in}
use Rattle.validation_rules.specs.TextOrder.{IsInTextOrder}
use Rattle.validation_rules.specs.Violations.{Breach, breach}
use Rattle.validation_rules.specs.declared.violations.Rule.{Rule}
use Rattle.validation_rules.specs.declared.violations.Rule.TheVariants.{ExecutableDefinitions, UniqueArgumentNames}
use Rattle.validation_rules.specs.declared.violations.Rule.TheVariants.{UniqueFragmentNames, UniqueInputFieldNames}
use Rattle.validation_rules.specs.declared.violations.Rule.TheVariants.{UniqueFieldDefinitionNames}
use Rattle.validation_rules.specs.declared.violations.Rule.TheVariants.{UniqueArgumentDefinitionNames}
use Rattle.validation_rules.specs.declared.violations.Rule.TheVariants.{UniqueEnumValueNames, UniqueUnionMemberTypes}
use Rattle.validation_rules.specs.declared.violations.Rule.TheVariants.{UniqueImplementedInterfaces}
use Rattle.validation_rules.specs.declared.violations.Rule.TheVariants.{UniqueOperationNames, UniqueVariableNames}
use Rattle.variable_rules.specs.Steps.{before}
use Rattle.document_validation.specs.Lists.{document_kind, is_executable, items_of, list_of}
use Rattle.document_validation.specs.declared.lists.DocumentKind.{DocumentKind}
use Rattle.document_validation.specs.declared.lists.DocumentKind.TheVariants.{Executable, TypeSystem}
use Rattle.document_validation.specs.declared.lists.NamedList.{NamedList}
use Rattle.document_validation.specs.declared.lists.NamedList.TheVariants.{Arguments, ObjectFields, Variables}
use Rattle.document_validation.specs.declared.lists.NamedList.TheVariants.{FieldDefinitions, InputFieldDefinitions}
use Rattle.document_validation.specs.declared.lists.NamedList.TheVariants.{ArgumentDefinitions, EnumValues}
use Rattle.document_validation.specs.declared.lists.NamedList.TheVariants.{UnionMembers, Interfaces}

abbrev pub rule_of : NamedList → Rule
rule_of Arguments = UniqueArgumentNames
rule_of ObjectFields = UniqueInputFieldNames
rule_of Variables = UniqueVariableNames
rule_of FieldDefinitions = UniqueFieldDefinitionNames
rule_of InputFieldDefinitions = UniqueFieldDefinitionNames
rule_of ArgumentDefinitions = UniqueArgumentDefinitionNames
rule_of EnumValues = UniqueEnumValueNames
rule_of UnionMembers = UniqueUnionMemberTypes
rule_of Interfaces = UniqueImplementedInterfaces

abbrev pub is_as_executable : DocumentKind → Bool
is_as_executable Executable = true
is_as_executable TypeSystem = false

-- whether documents of a kind are judged by a list
abbrev pub is_judged : NamedList → DocumentKind → Bool
is_judged Arguments kind = true
is_judged ObjectFields kind = true
is_judged Variables kind = is_as_executable kind
is_judged FieldDefinitions kind = not (is_as_executable kind)
is_judged InputFieldDefinitions kind = not (is_as_executable kind)
is_judged ArgumentDefinitions kind = not (is_as_executable kind)
is_judged EnumValues kind = not (is_as_executable kind)
is_judged UnionMembers kind = not (is_as_executable kind)
is_judged Interfaces kind = not (is_as_executable kind)

-- the list that an element is, if documents of a kind are judged by it
abbrev pub judged_list : DocumentKind → Place → Option NamedList
judged_list kind p = option_and_then (λ list. if is_judged list kind then Some list else None) (list_of p)

-- ---- unique names in lists: sections 3.6 to 3.10, 3.13, 5.4.2, 5.6.3 and 5.8.1
-- the items of such a list that have the name of an earlier one
abbrev pub repeats_as : Option NamedList → Located → List Breach
repeats_as None site = []
repeats_as (Some list) site = repeats (rule_of list) (items_of site)

abbrev pub repeats_at : DocumentKind → Located → List Breach
repeats_at kind site = repeats_as (judged_list kind site.place) site

-- those of all lists in the document with a number, by which documents of its kind are judged
abbrev pub repeats_in : ℕ → Place → List Breach
repeats_in number document = flat_map (λ p. repeats_at (document_kind document) (located number p)) (nodes document)

-- ---- 5.1.1: a definition that is neither an operation nor a fragment
abbrev pub foreign_at : Located → List Breach
foreign_at site = if is_executable site.place then [] else breach ExecutableDefinitions site None ∷ []

-- Documents of the type system have such definitions.
abbrev pub foreign_as : DocumentKind → ℕ → Place → List Breach
foreign_as TypeSystem number document = []
foreign_as Executable number document = flat_map (λ p. foreign_at (located number p)) (child_nodes document)

abbrev pub foreign_in : ℕ → Place → List Breach
foreign_in number document = foreign_as (document_kind document) number document

-- ---- all rules
-- what is listed for each document, the first of which has the number n
abbrev pub of_each_from : (ℕ → Place → List Breach) → ℕ → List Place → List Breach
of_each_from f n [] = []
of_each_from f n (document ∷ documents) = f n document ++ of_each_from f (suc n) documents

abbrev pub of_each : (ℕ → Place → List Breach) → List Place → List Breach
of_each f documents = of_each_from f 0 documents

-- What breaks the rules on variables, in the operations before the one at which validation ended. Without such an
-- operation these are all.
abbrev pub variables_before : Option ℕ → List Parts → List Breach
variables_before ended_at ds = flat_map (variables_of ds) (before ended_at (operations ds))

-- What breaks a rule in some documents, by their roots, rule by rule. Names of operations and of fragments, spreads and
-- variables are those of all documents together.
abbrev pub breaches_before : Option ℕ → List Place → List Breach
breaches_before ended_at documents =
    of_each foreign_in documents
    ++ repeats UniqueOperationNames (named_definitions Operation (defined documents))
    ++ not_alone (parts_in documents)
    ++ of_each repeats_in documents
    ++ repeats UniqueFragmentNames (named_definitions Fragment (defined documents))
    ++ unused_fragments (parts_in documents)
    ++ undefined_spreads (parts_in documents)
    ++ on_cycles (parts_in documents)
    ++ variables_before ended_at (parts_in documents)

-- all of it
abbrev pub breaches : List Place → List Breach
breaches documents = breaches_before None documents

-- Nothing breaks a rule.
abbrev pub AreValid : List Place → Type 0
AreValid documents = breaches documents ≡ []

-- These are the first of the breaches, up to a bound, in the order of the text.
abbrev pub AreFound : ℕ → List Breach → List Breach → Type 0
AreFound most all found = IsInTextOrder (take most all) found
