-- The names of directive locations (GraphQL October 2021, section 3.13, *DirectiveLocation*).
use Rattle.std.specs.Prelude.{codes}
use Rattle.validation_names.specs.Names.{Name}
use Rattle.type_system.specs.declared.locations.DirectiveLocation.{DirectiveLocation}
use Rattle.type_system.specs.declared.locations.DirectiveLocation.TheVariants as location

abbrev pub location_name : DirectiveLocation → Name
location_name location.Query = codes "QUERY"
location_name location.Mutation = codes "MUTATION"
location_name location.Subscription = codes "SUBSCRIPTION"
location_name location.Field = codes "FIELD"
location_name location.FragmentDefinition = codes "FRAGMENT_DEFINITION"
location_name location.FragmentSpread = codes "FRAGMENT_SPREAD"
location_name location.InlineFragment = codes "INLINE_FRAGMENT"
location_name location.VariableDefinition = codes "VARIABLE_DEFINITION"
location_name location.Schema = codes "SCHEMA"
location_name location.Scalar = codes "SCALAR"
location_name location.Object = codes "OBJECT"
location_name location.FieldDefinition = codes "FIELD_DEFINITION"
location_name location.ArgumentDefinition = codes "ARGUMENT_DEFINITION"
location_name location.Interface = codes "INTERFACE"
location_name location.Union = codes "UNION"
location_name location.Enum = codes "ENUM"
location_name location.EnumValue = codes "ENUM_VALUE"
location_name location.InputObject = codes "INPUT_OBJECT"
location_name location.InputFieldDefinition = codes "INPUT_FIELD_DEFINITION"
