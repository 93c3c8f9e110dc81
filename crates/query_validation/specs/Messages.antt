-- The message of a breach, in the words of graphql-js 16.
use Rattle.std.specs.Prelude.{[], ◌++◌, codes, Option, Some, None, option_and_then, if◌then◌else◌}
use Rattle.document_grammar.specs.declared.kind.SyntaxKind.TheVariants.{DIRECTIVE, FIELD}
use Rattle.apollo_tree.specs.Order.{Place}
use Rattle.apollo_cst_core.specs.Kinds.{is_of}
use Rattle.validation_names.specs.Names.{Name}
use Rattle.validation_names.specs.OwnNames.{name_at, own_name}
use Rattle.validation_names.specs.Sites.{Located}
use Rattle.type_system.specs.LocationNames.{location_name}
use Rattle.type_system.specs.Types.{Types}
use Rattle.type_system.specs.declared.locations.DirectiveLocation.{DirectiveLocation}
use Rattle.query_validation.specs.Breaches.{QueryBreach}
use Rattle.query_validation.specs.Rules.{location_at}
use Rattle.query_validation.specs.Texts.{Text, defined_name, name_of_parent, owner, parent_type, type_of_definition}
use Rattle.query_validation.specs.Texts.{type_text}
use Rattle.query_validation.specs.ValueMessages.{wrong_value}
use Rattle.query_validation.specs.declared.rules.QueryRule.{QueryRule}
use Rattle.query_validation.specs.declared.rules.QueryRule.TheVariants as rule

-- ---- rules

-- 5.3.1
abbrev pub unknown_field : Name → Name → Text
unknown_field name of = codes "Cannot query field \"" ++ name ++ codes "\" on type \"" ++ of ++ codes "\"."

-- 5.3.3
abbrev pub lacks_selections : Name → Text → Text
lacks_selections name of =
    codes "Field \"" ++ name ++ codes "\" of type \"" ++ of
    ++ codes "\" must have a selection of subfields. Did you mean \"" ++ name ++ codes " { ... }\"?"

abbrev pub has_no_fields : Name → Text → Text
has_no_fields name of =
    codes "Field \"" ++ name ++ codes "\" must not have a selection since type \"" ++ of
    ++ codes "\" has no subfields."

abbrev pub wrong_leaf : Place → Text → Text
wrong_leaf p of = if is_of FIELD p then lacks_selections (name_at p) of else has_no_fields (name_of_parent p) of

-- what has an argument: `directive "@d"` or `field "Type.field"`
abbrev pub with_arguments : Types → Place → Text
with_arguments T p =
    if is_of DIRECTIVE p
    then codes "directive \"@" ++ name_at p ++ codes "\""
    else codes "field \"" ++ parent_type T p ++ codes "." ++ name_at p ++ codes "\""

abbrev pub given_to : Types → Option Place → Text
given_to T None = []
given_to T (Some p) = with_arguments T p

-- 5.4.1
abbrev pub unknown_argument : Types → Place → Text
unknown_argument T p =
    codes "Unknown argument \"" ++ name_at p ++ codes "\" on " ++ given_to T (owner p) ++ codes "."

-- 5.4.2.1
abbrev pub lacking_in : Place → Text
lacking_in p =
    if is_of DIRECTIVE p
    then codes "Directive \"@" ++ name_at p ++ codes "\""
    else codes "Field \"" ++ name_at p ++ codes "\""

abbrev pub argument_in : Place → Name → Text
argument_in p name = lacking_in p ++ codes " argument \"" ++ name ++ codes "\""

abbrev pub missing_argument : Place → Name → Text → Text
missing_argument p name of =
    argument_in p name ++ codes " of type \"" ++ of ++ codes "\" is required, but it was not provided."

-- 5.5.1.3: the fragment's name, if it has one, and the type in its condition
abbrev pub wrong_condition : Option Name → Name → Text
wrong_condition None of = codes "Fragment cannot condition on non composite type \"" ++ of ++ codes "\"."
wrong_condition (Some fragment) of =
    codes "Fragment \"" ++ fragment ++ codes "\" cannot condition on non composite type \"" ++ of ++ codes "\"."

abbrev pub name_of_owner : Place → Option Name
name_of_owner p = option_and_then own_name (owner p)

-- 5.8.2: the variable, and the reference to its type
abbrev pub not_an_input : Name → Text → Text
not_an_input name of =
    codes "Variable \"$" ++ name ++ codes "\" cannot be non-input type \"" ++ of ++ codes "\"."

abbrev pub wrong_variable : Place → Text
wrong_variable p = not_an_input (name_of_parent p) (type_text p)

-- 5.7.1, where nothing defines the directive; and 5.7.2
abbrev pub name_of_location : Option DirectiveLocation → Name
name_of_location None = []
name_of_location (Some location) = location_name location

abbrev pub misplaced : Name → Name → Text
misplaced name location = codes "Directive \"@" ++ name ++ codes "\" may not be used on " ++ location ++ codes "."

abbrev pub wrong_directive : Place → Option Located → Text
wrong_directive p None = codes "Unknown directive \"@" ++ name_at p ++ codes "\"."
wrong_directive p (Some d) = misplaced (name_at p) (name_of_location (location_at p))

-- 5.7.3
abbrev pub repeated_directive : Place → Text
repeated_directive p =
    codes "The directive \"@" ++ name_at p ++ codes "\" can only be used once at this location."

abbrev pub wording : Types → QueryRule → Place → Option Located → Text
wording T rule.FieldsOnCorrectType p d = unknown_field (name_at p) (defined_name d)
wording T rule.ScalarLeafs p d = wrong_leaf p (type_of_definition d)
wording T rule.KnownArgumentNames p d = unknown_argument T p
wording T rule.ProvidedRequiredArguments p d = missing_argument p (defined_name d) (type_of_definition d)
wording T rule.ValuesOfCorrectType p d = wrong_value T p d
wording T rule.KnownTypeNames p d = codes "Unknown type \"" ++ name_at p ++ codes "\"."
wording T rule.FragmentsOnCompositeTypes p d = wrong_condition (name_of_owner p) (name_at p)
wording T rule.KnownDirectives p d = wrong_directive p d
wording T rule.UniqueDirectivesPerLocation p d = repeated_directive p
wording T rule.VariablesAreInputTypes p d = wrong_variable p

abbrev pub message_of : Types → QueryBreach → Text
message_of T b = wording T b.rule b.site.place b.definition
