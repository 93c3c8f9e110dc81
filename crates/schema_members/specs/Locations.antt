-- The directives that may be at a place (GraphQL, October 2021, section 3.13).
use Rattle.std.specs.List.{filter, find}
use Rattle.std.specs.Prelude.{ℕ, Bool, ◌&&◌, if◌then◌else◌, List, [], ◌∷◌, codes, Option, Some, None}
use Rattle.std.specs.Prelude.{option_and_then, option_map, unwrap_or}
use Rattle.document_grammar.specs.declared.kind.SyntaxKind.TheVariants.{DIRECTIVE, DIRECTIVE_DEFINITION}
use Rattle.document_grammar.specs.declared.kind.SyntaxKind.TheVariants.{OPERATION_TYPE}
use Rattle.apollo_tree.specs.Children.{child_nodes}
use Rattle.apollo_tree.specs.Order.{Place, parent_place, text_at}
use Rattle.apollo_cst_core.specs.Kinds.{is_of, is_of_one}
use Rattle.validation_names.specs.Sites.{Located, all_definitions}
use Rattle.type_system.specs.Locations.{location_of, may_be_at}
use Rattle.type_system.specs.declared.locations.DirectiveLocation.{DirectiveLocation}

-- the word with which an operation begins
abbrev pub operation_word : Place → List ℕ
operation_word operation =
    unwrap_or (option_map text_at (find (is_of_one (OPERATION_TYPE ∷ [])) (child_nodes operation))) (codes "query")

-- a definition of a directive that may be at a location
abbrev pub is_directive_for : DirectiveLocation → Located → Bool
is_directive_for location d = is_of DIRECTIVE_DEFINITION d.place && may_be_at location d.place

-- what the directive is on of which a leaf is the name
abbrev pub directive_owner : Place → Option Place
directive_owner leaf =
    option_and_then (λ node. if is_of DIRECTIVE node then option_and_then parent_place (parent_place node) else None)
    (option_and_then parent_place (parent_place leaf))

-- the location of such a name
abbrev pub location_at : Place → Option DirectiveLocation
location_at leaf = option_and_then location_of (directive_owner leaf)

-- all directives of some documents that may be at a location
abbrev pub directives_for : List Place → Option DirectiveLocation → List Located
directives_for documents None = []
directives_for documents (Some location) = filter (is_directive_for location) (all_definitions documents)

-- all directives of some documents that may be at the location of such a name, and none at another place
abbrev pub directives_at : List Place → Place → List Located
directives_at documents leaf = directives_for documents (location_at leaf)
