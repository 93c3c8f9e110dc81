-- Where directives may be, and how often (GraphQL October 2021, section 3.13).
use Rattle.std.specs.List.{find, list_any}
use Rattle.std.specs.Prelude.{Bool, ◌&&◌, if◌then◌else◌, bytes_eq, Option, Some, None, is_some, option_map}
use Rattle.document_grammar.specs.Numbers.{is_kind}
use Rattle.document_grammar.specs.declared.kind.SyntaxKind.{SyntaxKind}
use Rattle.document_grammar.specs.declared.kind.SyntaxKind.TheVariants.{ARGUMENTS_DEFINITION, DIRECTIVE_LOCATIONS}
use Rattle.document_grammar.specs.declared.kind.SyntaxKind.TheVariants.{INPUT_VALUE_DEFINITION, OPERATION_DEFINITION}
use Rattle.document_grammar.specs.declared.kind.SyntaxKind.TheVariants.{repeatable_KW}
use Rattle.apollo_tree.specs.Children.{child_nodes}
use Rattle.apollo_tree.specs.Order.{Place, kind_at, parent_place, text_at}
use Rattle.apollo_cst_core.specs.Cast.{first_of, leaves_of}
use Rattle.apollo_cst_core.specs.Kinds.{is_of}
use Rattle.validation_names.specs.Names.{Name}
use Rattle.type_system.specs.Definitions.{operation_type}
use Rattle.type_system.specs.LocationNames.{location_name}
use Rattle.type_system.specs.declared.kinds.OperationType.{OperationType}
use Rattle.type_system.specs.declared.kinds.OperationType.TheVariants as operation
use Rattle.type_system.specs.declared.locations.DirectiveLocation.{DirectiveLocation}
use Rattle.type_system.specs.declared.locations.DirectiveLocation.TheVariants as location
use Rattle.type_system.specs.declared.locations.TheConstants.{LOCATIONS}

abbrev pub operation_location : OperationType → DirectiveLocation
operation_location operation.Query = location.Query
operation_location operation.Mutation = location.Mutation
operation_location operation.Subscription = location.Subscription

-- an input value is an argument of a field or a directive, or a field of an input object
abbrev pub input_location : Option Place → DirectiveLocation
input_location None = location.InputFieldDefinition
input_location (Some list) =
    if is_of ARGUMENTS_DEFINITION list then location.ArgumentDefinition else location.InputFieldDefinition

-- the location of another kind
abbrev pub listed_location : SyntaxKind → Option DirectiveLocation
listed_location kind = option_map (λ row. row.1) (find (λ row. is_kind row.0 kind) LOCATIONS)

-- the location that something is for directives, if it may have some
abbrev pub location_of : Place → Option DirectiveLocation
location_of p =
    if is_of OPERATION_DEFINITION p
    then Some (operation_location (operation_type p))
    else (if is_of INPUT_VALUE_DEFINITION p
    then Some (input_location (parent_place p))
    else listed_location (kind_at p))

-- whether a part of a directive's definition lists a location of a name
abbrev pub lists_location : Name → Place → Bool
lists_location name part =
    is_of DIRECTIVE_LOCATIONS part && list_any (λ one. bytes_eq (text_at one) name) (child_nodes part)

-- whether the definition lists it
abbrev pub is_listed : Name → Place → Bool
is_listed name definition = list_any (lists_location name) (child_nodes definition)

-- whether a directive may be at a location, by its definition
abbrev pub may_be_at : DirectiveLocation → Place → Bool
may_be_at location definition = is_listed (location_name location) definition

-- whether it may be there more than once
abbrev pub is_repeatable : Place → Bool
is_repeatable definition = is_some (first_of (leaves_of repeatable_KW definition))
