-- The definitions with their parts, as they are in a document.
use Rattle.std.proofs.Common.{◌≡◌, ℕ, List, [], ◌∷◌, map, Option, refl, sym, ◌∙◌, ap, subst}
use Rattle.std.specs.List.{flat_map}
use Rattle.apollo_tree.specs.Order.{Place}
use Rattle.validation_names.specs.Definitions.{as_defined, defined, named_definitions}
use Rattle.validation_names.specs.declared.executables.DefinitionKind.TheVariants.{Operation, Fragment}
use Rattle.validation_names.specs.declared.executables.ExecutableDefinition.{ExecutableDefinition}
use Rattle.validation_rules.proofs.AddLemmas.{adds_then}
use Rattle.validation_rules.specs.Broken.{not_alone, on_cycles, repeats, undefined_spreads, unused_fragments}
use Rattle.validation_rules.specs.Broken.{variables_of}
use Rattle.validation_rules.specs.Parts.{Parts, definitions, operations, parts_in, parts_of}
use Rattle.validation_rules.specs.Violations.{Adds}
use Rattle.validation_rules.specs.declared.violations.Rule.TheVariants.{UniqueFragmentNames, UniqueOperationNames}
use Rattle.validation_rules.specs.declared.violations.Violations.{Violations}
use Rattle.variable_rules.specs.Steps.{EndsAt, before}
use Rattle.document_validation.specs.Breaches.{breaches_before, foreign_in, of_each, repeats_in}
use Rattle.document_validation.specs.Breaches.{variables_before}

of_all : (ds : List ExecutableDefinition) → map (λ d. parts_of (as_defined d)) ds ≡ map parts_of (map as_defined ds)
of_all [] = refl
of_all (d ∷ ds) = ap (λ rest. parts_of (as_defined d) ∷ rest) (of_all ds)

pub parts_are :
    (documents : List Place) (ds : List ExecutableDefinition) (parts : List Parts)
    → map as_defined ds ≡ defined documents
    → parts ≡ map (λ d. parts_of (as_defined d)) ds → parts ≡ parts_in documents
parts_are documents ds parts are is = is ∙ of_all ds ∙ ap (map parts_of) are

again : (ds : List ExecutableDefinition) → definitions (map (λ d. parts_of (as_defined d)) ds) ≡ map as_defined ds
again [] = refl
again (d ∷ ds) = ap (λ rest. as_defined d ∷ rest) (again ds)

pub definitions_are : (ds : List ExecutableDefinition) (parts : List Parts)
    → parts ≡ map (λ d. parts_of (as_defined d)) ds
    → definitions parts ≡ map as_defined ds
definitions_are ds parts is = ap definitions is ∙ again ds

-- the operations that were judged, as those of the documents
pub variables_read :
    (ds es : List Parts) (ended_at : Option ℕ) (numbers : List ℕ) (old new : Violations)
    → numbers ≡ operations ds → ds ≡ es
    → Adds (flat_map (variables_of ds) (before ended_at numbers)) old new → Adds (variables_before ended_at es) old new
variables_read ds es ended_at numbers old new are same adds =
    subst (λ xs. Adds (variables_before ended_at xs) old new) same
    (subst (λ ns. Adds (flat_map (variables_of ds) (before ended_at ns)) old new) are adds)

pub ends_read :
    (steps : Option ℕ) (ds es : List Parts) (numbers : List ℕ) (ended_at : Option ℕ)
    → numbers ≡ operations ds → ds ≡ es
    → EndsAt steps ds numbers ended_at → EndsAt steps es (operations es) ended_at
ends_read steps ds es numbers ended_at are same ends =
    subst (λ xs. EndsAt steps xs (operations xs) ended_at) same (subst (λ ns. EndsAt steps ds ns ended_at) are ends)

pub ends_back :
    (steps : Option ℕ) (ds es : List Parts) (numbers : List ℕ) (ended_at : Option ℕ)
    → numbers ≡ operations ds → ds ≡ es
    → EndsAt steps es (operations es) ended_at → EndsAt steps ds numbers ended_at
ends_back steps ds es numbers ended_at are same ends =
    subst (λ ns. EndsAt steps ds ns ended_at) (sym are)
    (subst (λ xs. EndsAt steps xs (operations xs) ended_at) (sym same) ends)

-- all rules, one after another
pub adds_in_order :
    (documents : List Place) (ended_at : Option ℕ) (v0 v1 v2 v3 v4 v5 v6 v7 v8 v9 : Violations)
    → Adds (of_each foreign_in documents) v0 v1
    → Adds (repeats UniqueOperationNames (named_definitions Operation (defined documents))) v1 v2
    → Adds (not_alone (parts_in documents)) v2 v3
    → Adds (of_each repeats_in documents) v3 v4
    → Adds (repeats UniqueFragmentNames (named_definitions Fragment (defined documents))) v4 v5
    → Adds (unused_fragments (parts_in documents)) v5 v6 → Adds (undefined_spreads (parts_in documents)) v6 v7
    → Adds (on_cycles (parts_in documents)) v7 v8 → Adds (variables_before ended_at (parts_in documents)) v8 v9
    → Adds (breaches_before ended_at documents) v0 v9
adds_in_order documents ended_at v0 v1 v2 v3 v4 v5 v6 v7 v8 v9 foreign operations alone lists fragments unused spreads
    cycles used =
    let two = adds_then _ _ v0 v1 v2 foreign operations in
    let three = adds_then _ _ v0 v2 v3 two alone in
    let four = adds_then _ _ v0 v3 v4 three lists in
    let five = adds_then _ _ v0 v4 v5 four fragments in
    let six = adds_then _ _ v0 v5 v6 five unused in
    let seven = adds_then _ _ v0 v6 v7 six spreads in
    let eight = adds_then _ _ v0 v7 v8 seven cycles in
    adds_then _ _ v0 v8 v9 eight used
