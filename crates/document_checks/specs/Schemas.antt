-- Documents that are judged by the types of a schema (GraphQL October 2021, section 5). Some of the texts are those of
-- the schema, from the first on.
use Rattle.std.specs.List.{filter}
use Rattle.std.specs.Prelude.{◌≡◌, ℕ, List, [], ◌∷◌, ◌++◌, Option, Some, None, length, map, nat_lt, take}
use Rattle.lexical_grammar.specs.Answers.{usize_max}
use Rattle.apollo_lexer.specs.Limits.{default_recursion}
use Rattle.apollo_tree.specs.Order.{Place}
use Rattle.apollo_parser.specs.Parsed.{Parsed}
use Rattle.apollo_parser.specs.Promise.{Promise}
use Rattle.validation_names.specs.Sites.{Located, as_located}
use Rattle.type_system.specs.Types.{Types, types_of}
use Rattle.type_system.specs.declared.standard.TheConstants.{STANDARD}
use Rattle.query_validation.specs.Breaches.{IsValidAgainst, QueryBreach, breaches}
use Rattle.query_validation.specs.declared.violations.QueryViolation.{QueryViolation}

-- how many documents come before a text, where these are the numbers of their texts
abbrev pub documents_before : ℕ → List ℕ → ℕ
documents_before text numbers = length (filter (λ number. nat_lt number text) numbers)

-- The root of the tree of the standard's own definitions.
pub record IsStandard (document : Place) : Type 0 where
  -- its parse: the law `one_parse` says that there is no other
  pub parsed : Parsed
  pub promise : Promise STANDARD.now default_recursion usize_max parsed
  pub root : document ≡ record { whole = parsed.tree; index = 0 }

-- what the documents of as many texts define, and the standard
abbrev pub types_by : ℕ → List Place → List ℕ → Place → Types
types_by texts documents numbers standard =
    types_of (take (documents_before texts numbers) documents ++ standard ∷ [])

-- the documents that are judged: as many, from the first on, or all
abbrev pub judged_of : Option ℕ → List Place → List Place
judged_of None documents = documents
judged_of (Some judged) documents = take judged documents

-- the places of violations
abbrev pub query_sites : List QueryViolation → List Located
query_sites violations = map (λ (v : QueryViolation). as_located v.site) violations

-- If as many texts are those of a schema, the documents keep the rules that need its types.
abbrev pub AreValidBySchema : Option ℕ → Option ℕ → List Place → List ℕ → Type 0
AreValidBySchema None judged documents numbers = Unit {0}
AreValidBySchema (Some texts) judged documents numbers =
    (standard : Place) × IsStandard standard
    × IsValidAgainst (types_by texts documents numbers standard) (judged_of judged documents)

-- These are the places of the first 1001 breaches of these rules.
abbrev pub AreSchemaSites : Option ℕ → Option ℕ → List Place → List ℕ → List Located → Type 0
AreSchemaSites None judged documents numbers sites = sites ≡ []
AreSchemaSites (Some texts) judged documents numbers sites =
    (standard : Place) × IsStandard standard
    × (sites
    ≡ map (λ (b : QueryBreach). b.site)
    (take 1001 (breaches (types_by texts documents numbers standard) (judged_of judged documents))))
