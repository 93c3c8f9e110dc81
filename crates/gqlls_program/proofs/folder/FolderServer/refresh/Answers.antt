use Rattle.std.proofs.Common.{ℕ, List, Ok, Result, ap, sym, ◌∙◌, subst}
use Rattle.std.specs.declared.io.Error.{Error}
use Rattle.file_uris.specs.Uris.{uri_of}
use Rattle.gqlls_server.specs.Diagnostics.{KeepsFile}
use Rattle.gqlls_server.specs.Dialogue.{Dialogue}
use Rattle.gqlls_server.specs.State.{dialogue_of}
use Rattle.gqlls_program.proofs.Reading.{reads_on}
use Rattle.gqlls_program.proofs.folder.FolderServer.refresh.Goals as goal
use Rattle.gqlls_program.specs.FolderDialogues.{kept, nothing, passed_over}

pub returns-then-not-is_graphql : goal.returns-then-not-is_graphql
returns-then-not-is_graphql g c = nothing

pub returns-in_default : goal.returns-in_default
returns-in_default g c = passed_over c.drop_file.ensures c.text_at.ensures.given.1 c.text_at.ensures.dialogue

pub returns : goal.returns
returns g c =
    let old = c.drop_file.new.self in
    let middle = c.text_at.new.self in
    let new = c.keep_file.new.self in
    let text = c.as_str-3.result.now in
    let errors = c.in_ok-errors.errors in
    reads_on g.F.Files.lists g.F.Files.reads g.F.Files.locates
    (kept c.drop_file.ensures
    (subst (λ (given : Result (List ℕ) Error). g.F.Files.reads old.files.files c.args.path.now given middle.files.files)
    (c.in-Some.ensures.given.2 ∙ ap (λ (bytes : List ℕ). Ok bytes) (sym c.as_str-3.ensures.value))
    c.in-Some.ensures.given.1)
    (subst (λ (dialogue : Dialogue). KeepsFile (uri_of c.args.path.now) text errors dialogue (dialogue_of new))
    c.text_at.ensures.dialogue
    (subst (λ (uri : List ℕ). KeepsFile uri text errors (dialogue_of middle.server) (dialogue_of new))
    (c.as_str-2.ensures.value ∙ c.in_ok-uri.ensures.spelling)
    c.in_ok-errors.ensures)))
    c.drop_faulty.ensures
