use Rattle.std.proofs.Common.{Global, String, [], ◌∷◌, ap, map, string_bytes, sym, ◌++◌, ◌∙◌}
use Rattle.std.proofs.lemmas.List.{map-append}
use Rattle.std.specs.BTreeSet.{contains_text}
use Rattle.std.specs.Prelude.{filter, not}
use Rattle.editor_validation.specs.Fragments.{Fragments, as_fragments}
use Rattle.gqlls_server.proofs.Maps.{passed_more, passed_over}
use Rattle.gqlls_server.proofs.documents.file_fragments.Goals as goal
use Rattle.gqlls_server.specs.State.{names_of}
use Rattle.gqlls_server.specs.declared.documents.Document.{Document}

pub loop-name-preserved-in-Continue-1 : goal.loop-name-preserved-in-Continue-1
loop-name-preserved-in-Continue-1 c =
    passed_more (λ (entry : String Global × Document). names_of entry.1)
    (λ (entry : String Global × Document). not (contains_text c.args.own.now (string_bytes entry.0)))
    (c.in-Some.name.now, c.in-Some.document.now) c.next.new.self (map (λ f. as_fragments f.now) c.loop-name.found.items)
    (map (λ f. as_fragments f.now) c.push.new.self.items) _
    (ap not (ap (contains_text c.args.own.now) (sym c.as_str.ensures.value) ∙ sym c.contains.ensures
    ∙ c.if-not-contains.true))
    (ap (map (λ f. as_fragments f.now)) c.in_ok-push.ensures.items
    ∙ map-append (λ f. as_fragments f.now) c.loop-name.found.items _
    ∙ ap (λ (names : Fragments). map (λ f. as_fragments f.now) c.loop-name.found.items ++ names ∷ [])
    c.fragments.ensures)
    (ap (λ es. map (λ f. as_fragments f.now) c.loop-name.found.items
    ++ map (λ (entry : String Global × Document). names_of entry.1)
    (filter (λ (entry : String Global × Document). not (contains_text c.args.own.now (string_bytes entry.0))) es))
    (sym c.in-Some.ensures.steps) ∙ c.loop-name.invariant)

pub loop-name-preserved : goal.loop-name-preserved
loop-name-preserved c =
    passed_over (λ (entry : String Global × Document). names_of entry.1)
    (λ (entry : String Global × Document). not (contains_text c.args.own.now (string_bytes entry.0)))
    (c.in-Some.name.now, c.in-Some.document.now) c.next.new.self
    (map (λ f. as_fragments f.now) c.loop-name.found.items) _
    (ap not (ap (contains_text c.args.own.now) (sym c.as_str.ensures.value) ∙ sym c.contains.ensures
    ∙ c.if-not-contains.false))
    (ap (λ es. map (λ f. as_fragments f.now) c.loop-name.found.items
    ++ map (λ (entry : String Global × Document). names_of entry.1)
    (filter (λ (entry : String Global × Document). not (contains_text c.args.own.now (string_bytes entry.0))) es))
    (sym c.in-Some.ensures.steps) ∙ c.loop-name.invariant)
