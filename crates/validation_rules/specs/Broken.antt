-- What breaks the rules of section 5 of the standard (GraphQL October 2021) on operations and fragments, and the other
-- party.
use Rattle.std.specs.List.{find, flat_map, range_with_len}
use Rattle.std.specs.Prelude.{◌==◌, ℕ, List, [], ◌∷◌, ◌++◌, length, Bool, not, take, if◌then◌else◌, Option, Some, None}
use Rattle.validation_names.specs.Mentions.{Named}
use Rattle.validation_names.specs.Names.{Name, first_number}
use Rattle.validation_names.specs.Sites.{Located}
use Rattle.validation_rules.specs.Parts.{Parts, at, is_anonymous, is_declared, is_fragment_name, is_used, item_at}
use Rattle.validation_rules.specs.Parts.{names, numbers, operations, reached, reaches, site_at, targets}
use Rattle.validation_rules.specs.Violations.{Breach, breach}
use Rattle.validation_rules.specs.declared.violations.Rule.{Rule}
use Rattle.validation_rules.specs.declared.violations.Rule.TheVariants.{LoneAnonymousOperation, NoUnusedFragments}
use Rattle.validation_rules.specs.declared.violations.Rule.TheVariants.{KnownFragmentNames, NoFragmentCycles}
use Rattle.validation_rules.specs.declared.violations.Rule.TheVariants.{NoUndefinedVariables, NoUnusedVariables}

-- ---- unique names: sections 5.2.1.1, 5.4.2, 5.5.1.1, 5.6.3 and 5.8.1
-- The item with a number has the name of one before it; the other party is the first of these.
abbrev pub repeat_of : Rule → List Named → ℕ → Option ℕ → List Breach
repeat_of rule items number None = []
repeat_of rule items number (Some first) =
    breach rule (item_at items number).site (Some (item_at items first).site) ∷ []

abbrev pub repeat_at : Rule → List Named → ℕ → List Breach
repeat_at rule items number =
    repeat_of rule items number (first_number (names (take number items)) (item_at items number).name)

abbrev pub repeats : Rule → List Named → List Breach
repeats rule items = flat_map (repeat_at rule items) (range_with_len 0 (length items))

-- ---- names that have to be known: sections 5.5.2.1, 5.8.3 and 5.8.4
abbrev pub unknown_item : Rule → Option Located → (Name → Bool) → Named → List Breach
unknown_item rule other is_known item = if is_known item.name then [] else breach rule item.site other ∷ []

abbrev pub unknown : Rule → Option Located → (Name → Bool) → List Named → List Breach
unknown rule other is_known items = flat_map (unknown_item rule other is_known) items

-- ---- 5.2.2.1: an operation without a name beside others; the other party is the first other operation
abbrev pub beside : List Parts → ℕ → Option ℕ → List Breach
beside ds number None = []
beside ds number (Some other) = breach LoneAnonymousOperation (site_at ds number) (Some (site_at ds other)) ∷ []

abbrev pub not_alone_at : List Parts → ℕ → List Breach
not_alone_at ds number =
    if is_anonymous (at ds number) then beside ds number (find (λ k. not (k == number)) (operations ds)) else []

abbrev pub not_alone : List Parts → List Breach
not_alone ds = flat_map (not_alone_at ds) (operations ds)

-- ---- 5.5.1.4: a fragment that no operation reaches
abbrev pub unused_fragment_at : List Parts → ℕ → List Breach
unused_fragment_at ds number =
    if reaches ds (operations ds) number then [] else breach NoUnusedFragments (site_at ds number) None ∷ []

abbrev pub unused_fragments : List Parts → List Breach
unused_fragments ds = flat_map (unused_fragment_at ds) (numbers ds)

-- ---- 5.5.2.1: a spread of a fragment that is not defined
abbrev pub undefined_spreads_at : List Parts → ℕ → List Breach
undefined_spreads_at ds number = unknown KnownFragmentNames None (is_fragment_name ds) (at ds number).spreads

abbrev pub undefined_spreads : List Parts → List Breach
undefined_spreads ds = flat_map (undefined_spreads_at ds) (numbers ds)

-- ---- 5.5.2.2: a fragment with a spread that leads back to it
-- the other party: the first fragment that it spreads and that leads back
abbrev pub through : List Parts → ℕ → Option ℕ → List Breach
through ds number None = []
through ds number (Some other) = breach NoFragmentCycles (site_at ds number) (Some (site_at ds other)) ∷ []

abbrev pub on_cycle_at : List Parts → ℕ → List Breach
on_cycle_at ds number = through ds number (find (λ other. reaches ds (other ∷ []) number) (targets ds number))

abbrev pub on_cycles : List Parts → List Breach
on_cycles ds = flat_map (on_cycle_at ds) (numbers ds)

-- ---- 5.8.4: a declared variable that the operation does not use; the other party is the operation
abbrev pub unused_variables : List Parts → ℕ → List Breach
unused_variables ds operation =
    unknown NoUnusedVariables (Some (site_at ds operation)) (is_used ds operation) (at ds operation).declared

-- ---- 5.8.3: a use of a variable that the operation does not declare; the other party is the operation
abbrev pub undefined_variables_in : List Parts → ℕ → ℕ → List Breach
undefined_variables_in ds operation number =
    unknown NoUndefinedVariables (Some (site_at ds operation)) (is_declared ds operation) (at ds number).used

abbrev pub undefined_variables : List Parts → ℕ → List Breach
undefined_variables ds operation = flat_map (undefined_variables_in ds operation) (reached ds operation)

-- ---- both rules on variables
abbrev pub variables_of : List Parts → ℕ → List Breach
variables_of ds operation = unused_variables ds operation ++ undefined_variables ds operation

abbrev pub variables : List Parts → List Breach
variables ds = flat_map (variables_of ds) (operations ds)
