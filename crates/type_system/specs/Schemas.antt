-- What the tables of a schema answer.
use Rattle.std.specs.Prelude.{ℕ, map, Option, option_map, option_and_then, slice_get}
use Rattle.validation_names.specs.Names.{Entries, Name, entry_of}
use Rattle.validation_names.specs.Sites.{Located, as_located}
use Rattle.validation_names.specs.declared.sites.Site.{Site}
use Rattle.type_system.specs.Types.{Typed, Types, WithArguments}
use Rattle.type_system.specs.declared.kinds.OperationType.{OperationType}
use Rattle.type_system.specs.declared.kinds.OperationType.TheVariants.{Query, Mutation, Subscription}
use Rattle.type_system.specs.declared.schema.DefinitionWithArguments.{DefinitionWithArguments}
use Rattle.type_system.specs.declared.schema.Schema.{Schema}
use Rattle.type_system.specs.declared.schema.TypedDefinition.{TypedDefinition}

abbrev pub as_typed : TypedDefinition → Typed
as_typed d = record { site = as_located d.site; type = d.type_number }

abbrev pub as_with_arguments : DefinitionWithArguments → WithArguments
as_with_arguments d = record {
  definition = as_typed d.definition;
  argument_named = λ name. option_map as_typed (entry_of d.arguments name);
  required = map as_located d.required.items;
}

-- what is entered under a name
abbrev pub entered_site : Entries Site → Name → Option Located
entered_site entries name = option_map as_located (entry_of entries name)

abbrev pub entered : Entries DefinitionWithArguments → Name → Option WithArguments
entered entries name = option_map as_with_arguments (entry_of entries name)

abbrev pub root_at : Schema → OperationType → Option ℕ
root_at s Query = s.query
root_at s Mutation = s.mutation
root_at s Subscription = s.subscription

abbrev pub types : Schema → Types
types s = record {
  type_named = entry_of s.types;
  definition_at = λ number. option_map as_located (slice_get s.definitions.items number);
  field_named = λ number name. option_and_then (λ p. entered p.fields name) (slice_get s.parts.items number);
  value_named = λ number name. option_and_then (λ p. entered_site p.values name) (slice_get s.parts.items number);
  input_at = λ number. option_map (λ p. as_with_arguments p.input) (slice_get s.parts.items number);
  each_field = entered s.each_fields;
  query_field = entered s.query_fields;
  directive_named = entered s.directives;
  root = root_at s;
}
