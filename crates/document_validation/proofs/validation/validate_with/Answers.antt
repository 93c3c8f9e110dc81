use Rattle.std.proofs.Common.{◌≡◌, map, ap, sym, ◌∙◌}
use Rattle.apollo_tree.specs.References.{node_place}
use Rattle.validation_names.specs.Definitions.{as_defined}
use Rattle.validation_rules.specs.Parts.{as_parts, operations, parts_in, parts_of}
use Rattle.variable_rules.proofs.WalkLemmas.{ends_somewhere}
use Rattle.document_validation.proofs.FoundLemmas.{added, decided_and_valid, full_before, none_of, room_before}
use Rattle.document_validation.proofs.ReadLemmas.{definitions_are, parts_are}
use Rattle.document_validation.proofs.validation.validate_with.Goals as goal
use Rattle.document_validation.specs.Breaches.{breaches_before}

pub add_all-requires-clause-parts : goal.add_all-requires-clause-parts
add_all-requires-clause-parts c =
    let ds = c.in_ok-definitions.definitions.items in
    let read = ap (map as_parts) c.deref-4.ensures.value ∙ c.in_ok-parts.ensures
    ∙ ap (map (λ e. parts_of (as_defined e))) c.deref.ensures.value in
    parts_are (map node_place c.args.documents.now) ds (map as_parts c.deref-4.result.now)
    c.in_ok-definitions.ensures read

pub add_all-requires-clause-same : goal.add_all-requires-clause-same
add_all-requires-clause-same c =
    let ds = c.in_ok-definitions.definitions.items in
    let read = ap (map as_parts) c.deref-4.ensures.value ∙ c.in_ok-parts.ensures
    ∙ ap (map (λ e. parts_of (as_defined e))) c.deref.ensures.value in
    definitions_are ds (map as_parts c.deref-4.result.now) read ∙ ap (map as_defined) (sym c.deref-3.ensures.value)

pub returns-clause-exact : goal.returns-clause-exact
returns-clause-exact c =
    let documents = map node_place c.args.documents.now in
    let options = c.args.options.now in
    let ended_at = c.in_ok-ended_at.ended_at in
    let ds = c.in_ok-definitions.definitions.items in
    let parts : map as_parts c.in_ok-parts.parts.items ≡ parts_in documents =
    parts_are documents ds (map as_parts c.in_ok-parts.parts.items) c.in_ok-definitions.ensures
    (c.in_ok-parts.ensures ∙ ap (map (λ e. parts_of (as_defined e))) c.deref.ensures.value) in
    let numbers : c.in_ok-numbers.numbers.items ≡ operations (parts_in documents) =
    c.in_ok-numbers.ensures ∙ ap (λ xs. operations (map as_parts xs)) c.deref-2.ensures.value ∙ ap operations parts in
    let adds = c.in_ok-ended_at.ensures.adds in
    let somewhere = ends_somewhere options.steps (parts_in documents) (operations (parts_in documents)) in
    let most = (adds somewhere.0 somewhere.1).most ∙ c.new-violations.ensures.most in
    record {
      ended_at = ended_at;
      undecided = rw (
        c.deref-6.ensures.value,
        c.deref-7.ensures.value,
        parts,
        numbers,
      ) at c.operation_site-undecided.ensures;
      inside = rw (c.deref-5.ensures.value, numbers) at c.in_ok-ended_at.ensures.inside;
      ended = λ room. c.in_ok-ended_at.ensures.ended
          (room_before c.add_all.new.violations c.in_ok-violations.violations.items options.most
          c.in_ok-violations.ensures.same most room);
      full = λ full.
          none_of _ _ ended_at c.operation_site-undecided.result
          (sym (rw (
            c.deref-6.ensures.value,
            c.deref-7.ensures.value,
            parts,
            numbers,
          ) at c.operation_site-undecided.ensures))
          (c.in_ok-ended_at.ensures.full
          (full_before c.add_all.new.violations c.in_ok-violations.violations.items options.most
          c.in_ok-violations.ensures.same most full));
      found = λ end ends.
          let is = added (breaches_before end documents) _ _ options.most options.selection
          c.new-violations.ensures.none c.new-violations.ensures.most c.new-violations.ensures.selection
          (adds end ends) in
          rw is at c.in_ok-violations.ensures;
    }

pub returns-clause-valid : goal.returns-clause-valid
returns-clause-valid c =
    decided_and_valid c.args.options.now (map node_place c.args.documents.now) _ (returns-clause-exact c)
