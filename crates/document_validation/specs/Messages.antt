-- The message of a violation, in the words of graphql-js 16.
use Rattle.std.specs.Prelude.{Bool, ◌||◌, if◌then◌else◌, List, ℕ, ◌++◌, [], codes, bytes_eq, Option, Some, None}
use Rattle.std.specs.Prelude.{option_and_then, option_map}
use Rattle.document_grammar.specs.Numbers.{is_kind}
use Rattle.document_grammar.specs.declared.kind.SyntaxKind.TheVariants.{DIRECTIVE_DEFINITION, SCHEMA_DEFINITION}
use Rattle.document_grammar.specs.declared.kind.SyntaxKind.TheVariants.{SCHEMA_EXTENSION}
use Rattle.apollo_tree.specs.Order.{Place, kind_at, parent_place}
use Rattle.validation_names.specs.Names.{Name}
use Rattle.validation_names.specs.OwnNames.{name_at, or_nothing, own_name}
use Rattle.validation_names.specs.Sites.{Located}
use Rattle.validation_rules.specs.Violations.{Breach}
use Rattle.validation_rules.specs.declared.violations.Rule.{Rule}
use Rattle.validation_rules.specs.declared.violations.Rule.TheVariants.{ExecutableDefinitions, UniqueOperationNames}
use Rattle.validation_rules.specs.declared.violations.Rule.TheVariants.{LoneAnonymousOperation, UniqueArgumentNames}
use Rattle.validation_rules.specs.declared.violations.Rule.TheVariants.{UniqueFragmentNames, NoUnusedFragments}
use Rattle.validation_rules.specs.declared.violations.Rule.TheVariants.{KnownFragmentNames, NoFragmentCycles}
use Rattle.validation_rules.specs.declared.violations.Rule.TheVariants.{UniqueInputFieldNames, UniqueVariableNames}
use Rattle.validation_rules.specs.declared.violations.Rule.TheVariants.{NoUndefinedVariables, NoUnusedVariables}
use Rattle.validation_rules.specs.declared.violations.Rule.TheVariants.{UniqueFieldDefinitionNames}
use Rattle.validation_rules.specs.declared.violations.Rule.TheVariants.{UniqueArgumentDefinitionNames}
use Rattle.validation_rules.specs.declared.violations.Rule.TheVariants.{UniqueEnumValueNames, UniqueUnionMemberTypes}
use Rattle.validation_rules.specs.declared.violations.Rule.TheVariants.{UniqueImplementedInterfaces}

abbrev pub Text : Type 0
Text = List ℕ

abbrev pub is_schema : Place → Bool
is_schema p = is_kind SCHEMA_DEFINITION (kind_at p) || is_kind SCHEMA_EXTENSION (kind_at p)

-- 5.1.1
abbrev pub not_executable : Place → Text
not_executable p =
    if is_schema p
    then codes "The schema definition is not executable."
    else codes "The \"" ++ name_at p ++ codes "\" definition is not executable."

-- `operation`, `argument`, `fragment`, `input field` or `variable`, and a name
abbrev pub only_one : Text → Name → Text
only_one noun name = codes "There can be only one " ++ noun ++ codes " named \"" ++ name ++ codes "\"."

-- 5.5.2.2: the fragment, and the one that it spreads
abbrev pub within_itself : Name → Name → Text
within_itself name other =
    if bytes_eq name other
    then codes "Cannot spread fragment \"" ++ name ++ codes "\" within itself."
    else codes "Cannot spread fragment \"" ++ name ++ codes "\" within itself via \"" ++ other ++ codes "\"."

-- 5.8.3: the variable, and the operation's name, if it has one
abbrev pub not_defined : Name → Option Name → Text
not_defined name (Some operation) =
    codes "Variable \"$" ++ name ++ codes "\" is not defined by operation \"" ++ operation ++ codes "\"."
not_defined name None = codes "Variable \"$" ++ name ++ codes "\" is not defined."

-- 5.8.4
abbrev pub never_used : Name → Option Name → Text
never_used name (Some operation) =
    codes "Variable \"$" ++ name ++ codes "\" is never used in operation \"" ++ operation ++ codes "\"."
never_used name None = codes "Variable \"$" ++ name ++ codes "\" is never used."

-- the definition in whose list an element is
abbrev pub owner : Place → Option Place
owner p = option_and_then parent_place (parent_place p)

abbrev pub name_of_other : Option Place → Option Name
name_of_other other = option_and_then own_name other

-- the name of that definition
abbrev pub holder : Place → Name
holder p = or_nothing (name_of_other (owner p))

-- a field or an enum value: `Type.field`
abbrev pub member : Place → Text
member p = holder p ++ codes "." ++ name_at p

-- the directive or the field that has an argument: `@directive` or `Type.field`
abbrev pub with_arguments : Option Place → Text
with_arguments None = []
with_arguments (Some p) = if is_kind DIRECTIVE_DEFINITION (kind_at p) then codes "@" ++ name_at p else member p

-- an argument: `@directive(argument:)` or `Type.field(argument:)`
abbrev pub argument : Place → Text
argument p = with_arguments (owner p) ++ codes "(" ++ name_at p ++ codes ":)"

-- `field`, `argument` or `enum value`, and where it is
abbrev pub only_once : Text → Text → Text
only_once noun thing = noun ++ codes " \"" ++ thing ++ codes "\" can only be defined once."

-- a union that has a type twice, and a type that has an interface twice
abbrev pub member_type : Name → Name → Text
member_type definition name =
    codes "Union type " ++ definition ++ codes " can only include type " ++ name ++ codes " once."

abbrev pub interface : Name → Name → Text
interface definition name = codes "Type " ++ definition ++ codes " can only implement " ++ name ++ codes " once."

abbrev pub wording : Rule → Place → Option Place → Text
wording ExecutableDefinitions p other = not_executable p
wording UniqueOperationNames p other = only_one (codes "operation") (name_at p)
wording LoneAnonymousOperation p other = codes "This anonymous operation must be the only defined operation."
wording UniqueArgumentNames p other = only_one (codes "argument") (name_at p)
wording UniqueFragmentNames p other = only_one (codes "fragment") (name_at p)
wording NoUnusedFragments p other = codes "Fragment \"" ++ name_at p ++ codes "\" is never used."
wording KnownFragmentNames p other = codes "Unknown fragment \"" ++ name_at p ++ codes "\"."
wording NoFragmentCycles p other = within_itself (name_at p) (or_nothing (name_of_other other))
wording UniqueInputFieldNames p other = only_one (codes "input field") (name_at p)
wording UniqueVariableNames p other = only_one (codes "variable") (codes "$" ++ name_at p)
wording NoUndefinedVariables p other = not_defined (name_at p) (name_of_other other)
wording NoUnusedVariables p other = never_used (name_at p) (name_of_other other)
wording UniqueFieldDefinitionNames p other = only_once (codes "Field") (member p)
wording UniqueArgumentDefinitionNames p other = only_once (codes "Argument") (argument p)
wording UniqueEnumValueNames p other = only_once (codes "Enum value") (member p)
wording UniqueUnionMemberTypes p other = member_type (holder p) (name_at p)
wording UniqueImplementedInterfaces p other = interface (holder p) (name_at p)

-- the message of a breach
abbrev pub message_of : Breach → Text
message_of b = wording b.rule b.site.place (option_map (λ (s : Located). s.place) b.other)
