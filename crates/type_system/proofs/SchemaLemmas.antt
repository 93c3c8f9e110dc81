-- What all tables of a schema answer together.
use Rattle.std.proofs.Common.{◌≡◌, ℕ, List, map, sym, ◌∙◌, ap}
use Rattle.std.proofs.lemmas.Option.{slice_get-map}
use Rattle.std.specs.Prelude.{option_map, slice_get}
use Rattle.validation_names.specs.Names.{AreFirstNumbers, entry_of}
use Rattle.validation_names.specs.Sites.{Located, as_located}
use Rattle.type_system.specs.Rows.{AreParts}
use Rattle.type_system.specs.Schemas.{root_at, types}
use Rattle.type_system.specs.Tables.{AreFirstFields}
use Rattle.type_system.specs.Types.{directives_in, meta_fields, root_in, type_names, types_by, types_in}
use Rattle.type_system.specs.declared.kinds.OperationType.{OperationType}
use Rattle.type_system.specs.declared.schema.Schema.{Schema}
use Rattle.type_system.specs.declared.standard.TheConstants.{EACH_TYPE, QUERY_ROOT}

pub same_types : (s : Schema) (ds : List Located)
    → map as_located s.definitions.items ≡ ds
    → AreFirstNumbers s.types (type_names ds)
    → AreParts (entry_of s.types) ds s.parts.items
    → AreFirstFields (entry_of s.types) s.each_fields (meta_fields ds EACH_TYPE.now)
    → AreFirstFields (entry_of s.types) s.query_fields (meta_fields ds QUERY_ROOT.now)
    → AreFirstFields (entry_of s.types) s.directives (directives_in ds)
    → ((operation : OperationType) → root_at s operation ≡ root_in (entry_of s.types) ds operation)
    → types s ≡ types_in ds
same_types s ds all numbers parts each_fields query_fields directives roots =
    by_tables ∙ ap (λ f. types_by f ds) (λ i name. numbers name i)
  where
    definition : (number : ℕ) → option_map as_located (slice_get s.definitions.items number) ≡ slice_get ds number
    definition number = sym (slice_get-map as_located s.definitions.items number) ∙ ap (λ xs. slice_get xs number) all

    by_tables : types s ≡ types_by (entry_of s.types) ds
    by_tables = λ i. record {
      type_named = entry_of s.types;
      definition_at = λ number. definition number i;
      field_named = λ number name. parts.fields number name i;
      value_named = λ number name. parts.values number name i;
      input_at = λ number. parts.inputs number i;
      each_field = λ name. each_fields name i;
      query_field = λ name. query_fields name i;
      directive_named = λ name. directives name i;
      root = λ operation. roots operation i;
    }
