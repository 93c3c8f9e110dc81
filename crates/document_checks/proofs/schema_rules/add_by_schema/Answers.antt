use Rattle.std.proofs.Common.{◌≡◌, ◌∙◌, List, Option, ap, map, sym, subst, take, ℕ}
use Rattle.std.proofs.lemmas.List.{length-map}
use Rattle.apollo_tree.specs.Order.{Place}
use Rattle.apollo_tree.specs.References.{node_place}
use Rattle.validation_names.specs.Sites.{as_located}
use Rattle.type_system.specs.Schemas.{types}
use Rattle.query_validation.specs.Breaches.{as_breach, breaches}
use Rattle.query_validation.specs.declared.violations.QueryViolation.{QueryViolation}
use Rattle.document_checks.proofs.SchemaLemmas.{first_sites, read_types}
use Rattle.document_checks.proofs.schema_rules.add_by_schema.Goals as goal
use Rattle.document_checks.specs.Documents.{numbers_of, root_of}
use Rattle.document_checks.specs.Schemas.{AreSchemaSites, IsStandard, query_sites}

pub returns : goal.returns
returns c =
    let numbers = numbers_of c.args.documents.now in
    let places : List Place = map node_place c.args.roots.now in
    let texts = c.in-Some.texts in
    let parsed = c.in_ok-standard.standard in
    let standard : IsStandard (node_place c.root.result) = record {
      parsed = parsed;
      promise =
          rw (c.new.ensures.source, c.new.ensures.recursion_limit, c.new.ensures.token_limit)
          at c.in_ok-standard.ensures.promise;
      root = c.root.ensures.place;
    } in
    let found = c.as_slice-violations.result.now in
    let T = types c.in_ok-schema.schema in
    let read =
    read_types node_place root_of texts c.documents_before-count.result numbers T c.args.documents.now places
    c.as_slice.result.now c.in_ok-definitions.definitions.items c.root.result c.in_ok-schema.ensures
    (c.as_slice.ensures.value ∙ c.in_ok-push.ensures.items)
    (c.in_ok-definitions.ensures ∙ ap (map root_of) c.first.ensures) c.documents_before-count.ensures
    c.requires.roots in
    let sites =
    first_sites texts c.args.judged places (map node_place c.judged_roots.result.now) numbers
    (node_place c.root.result) T found
    (subst (λ (vs : List QueryViolation). map as_breach vs
    ≡ take 1001 (breaches T (map node_place c.judged_roots.result.now))) (sym c.as_slice-violations.ensures.value)
    c.in_ok-violations.ensures.exact) read c.judged_roots.ensures in (
      query_sites found,
      subst (λ (s : Option ℕ). AreSchemaSites s c.args.judged places numbers (query_sites found)) (sym c.in-Some.is)
          (node_place c.root.result, standard, sites),
      sym (length-map found (λ (v : QueryViolation). as_located v.site)),
      c.in_ok-add_violations.ensures,
    )
