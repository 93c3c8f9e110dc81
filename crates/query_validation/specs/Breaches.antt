-- The places at which operations and fragments break rules, by the types of a schema.
use Rattle.std.specs.List.{filter, flat_map}
use Rattle.std.specs.Prelude.{◌≡◌, List, [], ◌∷◌, map, Bool, Option, Some, None, option_map}
use Rattle.apollo_tree.specs.Order.{Place}
use Rattle.apollo_cst_core.specs.Kinds.{is_of_one}
use Rattle.validation_names.specs.Sites.{Located, all_definitions, as_located, located, nodes}
use Rattle.validation_names.specs.declared.sites.Site.{Site}
use Rattle.type_system.specs.Types.{Types}
use Rattle.query_validation.specs.Contexts.{Context, around, step}
use Rattle.query_validation.specs.Rules.{Abouts, broken_by, given, is_lacking}
use Rattle.query_validation.specs.declared.rules.QueryRule.{QueryRule}
use Rattle.query_validation.specs.declared.rules.TheConstants.{QUERY_RULES}
use Rattle.query_validation.specs.declared.violations.QueryViolation.{QueryViolation}
use Rattle.query_validation.specs.declared.violations.TheConstants.{EXECUTABLES}

-- what breaks which rule, and the definition in the schema that it is about, if there is one
pub record QueryBreach : Type 0 where
  pub rule : QueryRule
  pub site : Located
  pub definition : Option Located

abbrev pub as_breach : QueryViolation → QueryBreach
as_breach v = record { rule = v.rule; site = as_located v.site; definition = option_map as_located v.definition }

abbrev pub breaches_about : QueryRule → Located → Abouts → List QueryBreach
breaches_about rule site abouts = map (λ about. record { rule = rule; site = site; definition = about }) abouts

-- what a node breaks of a rule, and of all rules, by the contexts around it and inside it
abbrev pub breaches_of : Types → QueryRule → Context → Context → Located → List QueryBreach
breaches_of T rule around inside site = breaches_about rule site (broken_by T rule around inside site)

abbrev pub breaches_in : Types → Context → Context → Located → List QueryBreach
breaches_in T around inside site = flat_map (λ rule. breaches_of T rule around inside site) QUERY_RULES

abbrev pub breaches_at : Types → Located → List QueryBreach
breaches_at T site = breaches_in T (around T site.place) (step T (around T site.place) site.place) site

-- what a definition breaks, at each of its nodes
abbrev pub nodes_at : Located → List Located
nodes_at d = map (located d.document) (nodes d.place)

abbrev pub definition_breaches : Types → Located → List QueryBreach
definition_breaches T d = flat_map (breaches_at T) (nodes_at d)

-- the operations and fragments of some documents, in order
abbrev pub is_executable : Located → Bool
is_executable d = is_of_one EXECUTABLES d.place

abbrev pub executables : List Place → List Located
executables documents = filter is_executable (all_definitions documents)

-- All that some documents break, by their roots, in the order of the text.
abbrev pub breaches : Types → List Place → List QueryBreach
breaches T documents = flat_map (definition_breaches T) (executables documents)

-- The documents keep all rules that need the types of a schema.
abbrev pub IsValidAgainst : Types → List Place → Type 0
IsValidAgainst T documents = breaches T documents ≡ []

-- what a function says of one rule: the definition that a breach is about, if there is a breach
abbrev pub as_abouts : Option (Option Site) → Abouts
as_abouts None = []
as_abouts (Some definition) = option_map as_located definition ∷ []

-- what is lacking, of some that have to be given
abbrev pub lacking_breaches : QueryRule → Located → List Located → List QueryBreach
lacking_breaches rule site required =
    breaches_about rule site (map Some (filter (is_lacking (given site)) required))
