use Rattle.std.proofs.Common.{Global, String, ◌≡◌, ◌++◌, ℕ, List, Some, false, ap, map, subst, sym, ◌∙◌}
use Rattle.std.proofs.lemmas.List.{map-append}
use Rattle.std.specs.BTreeMap.{values}
use Rattle.std.specs.List.{Contains}
use Rattle.std.specs.Prelude.{◌↔◌, ◌⊎◌}
use denote.Ref.{Bor}
use Rattle.editor_validation.specs.Fragments.{Fragments, as_fragments}
use Rattle.editor_validation.specs.declared.fragments.FragmentNames.{FragmentNames}
use Rattle.gqlls_server.proofs.Maps.{all_beside, all_of, in_either}
use Rattle.gqlls_server.proofs.documents.diagnostics_notification.Goals as goal
use Rattle.gqlls_server.specs.State.{entries_beside, is_own, names_in, names_of}
use Rattle.gqlls_server.specs.declared.documents.Document.{Document}

pub returns-clause-published : goal.returns-clause-published
returns-clause-published c =
    let others = c.args.others in
    let all_names = λ (fs : List (Bor FragmentNames)). map (λ (f : Bor FragmentNames). as_fragments f.now) fs in
    let names = all_names c.as_slice-2.result.now in
    let in_opened = map names_of (values others.opened.now) in
    let in_files = map (λ (entry : String Global × Document). names_of entry.1)
    (entries_beside c.in_ok-own.own others.files.now) in
    let same =
    ap all_names (c.as_slice-2.ensures.value ∙ c.in_ok-extend_from_slice.ensures.items)
    ∙ map-append (λ (f : Bor FragmentNames). as_fragments f.now) _ _
    ∙ ap (λ (x : List Fragments). x ++ all_names c.as_slice.result.now) c.in_ok-names.ensures.all
    ∙ ap (λ (y : List Fragments). in_opened ++ y) (ap all_names c.as_slice.ensures.value ∙ c.in_ok-more.ensures.all) in
    let all = λ (b : Fragments).
    (subst (λ (all : List Fragments). Contains all b ↔ (((name : List ℕ) × (names_in others.opened.now name ≡ Some b))
    ⊎ ((name : List ℕ) × (is_own c.args.uri.now others.opened.now name ≡ false)
    × (names_in others.files.now name ≡ Some b)))) (sym same)
    (in_either in_opened in_files b (all_of names_of others.opened.now c.in_ok-names.ensures.ordered b)
    (all_beside names_of c.in_ok-own.own others.files.now (is_own c.args.uri.now others.opened.now) c.in_ok-own.ensures
    c.in_ok-more.ensures.ordered b))) in
    (names, all, c.in_ok-body.ensures.published)
