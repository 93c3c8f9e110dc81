use Rattle.std.proofs.Common.{◌≡◌, map, refl}
use Rattle.validation_names.specs.Names.{entry_of}
use Rattle.validation_names.specs.Sites.{as_located}
use Rattle.type_system.proofs.SchemaLemmas.{same_types}
use Rattle.type_system.proofs.parts.from_definitions.Goals as goal
use Rattle.type_system.specs.Schemas.{root_at}
use Rattle.type_system.specs.Types.{root_in}
use Rattle.type_system.specs.declared.kinds.OperationType.TheVariants.{Query, Mutation, Subscription}
use Rattle.type_system.specs.declared.schema.Schema.{Schema}

pub returns : goal.returns
returns c =
    let schema : Schema = record {
      definitions = c.args.definitions;
      types = c.in_ok-types.types;
      parts = c.in_ok-parts.parts;
      each_fields = c.in_ok-each_fields.each_fields;
      query_fields = c.in_ok-query_fields.query_fields;
      directives = c.in_ok-directives.directives;
      query = c.root-query.result;
      mutation = c.root-mutation.result;
      subscription = c.root-subscription.result;
    } in
    let ds = map as_located c.args.definitions.items in
    let all = c.as_slice-sites.ensures.value in
    same_types schema ds refl (rw all at c.in_ok-types.ensures) (rw all at c.in_ok-parts.ensures)
    (rw all at c.in_ok-each_fields.ensures) (rw all at c.in_ok-query_fields.ensures)
    (rw all at c.in_ok-directives.ensures)
    (λ operation. elim operation as (λ o. root_at schema o ≡ root_in (entry_of schema.types) ds o) [
      | Query ↦ rw (
        c.root-query.ensures,
        c.as_slice-roots.ensures.value,
        c.in_ok-found.ensures,
        c.has_schema-is_given.ensures,
        all,
      ) refl
      | Mutation ↦ rw (
        c.root-mutation.ensures,
        c.as_slice-roots.ensures.value,
        c.in_ok-found.ensures,
        c.has_schema-is_given.ensures,
        all,
      ) refl
      | Subscription ↦ rw (
        c.root-subscription.ensures,
        c.as_slice-roots.ensures.value,
        c.in_ok-found.ensures,
        c.has_schema-is_given.ensures,
        all,
      ) refl
    ])
