use Rattle.std.proofs.Common.{ap, map, ◌∙◌, sym}
use Rattle.std.proofs.lemmas.Result.{IfOk-weaker}
use Rattle.json.specs.Value.{value_view}
use Rattle.document_grammar.specs.declared.kind.SyntaxKind.TheVariants.{IDENT}
use Rattle.apollo_tree.specs.AtOffset.{leaves_at}
use Rattle.apollo_tree.specs.Order.{Place}
use Rattle.apollo_tree.specs.References.{token_place}
use Rattle.apollo_cst_core.specs.Kinds.{is_of}
use Rattle.editor_answers.specs.Names.{identifier_at}
use Rattle.gqlls_server.proofs.Meanings.{chosen, found_passes, meaningless, meant}
use Rattle.gqlls_server.proofs.Messages.{found_in}
use Rattle.gqlls_server.proofs.rename.answer_at.Goals as goal
use Rattle.gqlls_server.specs.Renaming.{IsRenamed, IsRenamedAt, root_of}
use Rattle.gqlls_server.specs.State.{known_of}

pub returns-in_ok-body-in-None-clause-renames : goal.returns-in_ok-body-in-None-clause-renames
returns-in_ok-body-in-None-clause-renames c =
    let asked = known_of c.args.asked.now in
    let leaf = token_place c.in-Some.leaf in
    let found = ap (λ (p : Place). identifier_at p c.args.offset) (sym c.root.ensures.place)
    ∙ found_in token_place _ _ _ c.identifier_at.ensures c.in-Some.is in
    let passes = found_passes (is_of IDENT) (leaves_at c.args.offset (root_of asked)) leaf found in
    meaningless (value_view c.args.id.now) asked c.args.offset c.args.name.now (map known_of c.args.known.now)
    c.in_ok-body-in-None.body.items leaf found
    (sym (chosen _ _ _ _ passes c.meaning_of.ensures) ∙ c.in-None.is)

pub returns-in-Some-meaning_of-clause-renames : goal.returns-in-Some-meaning_of-clause-renames
returns-in-Some-meaning_of-clause-renames c =
    let asked = known_of c.args.asked.now in
    let known = map known_of c.args.known.now in
    let id = value_view c.args.id.now in
    let leaf = token_place c.in-Some.leaf in
    let meaning = c.in-Some-meaning_of.meaning in
    let found = ap (λ (p : Place). identifier_at p c.args.offset) (sym c.root.ensures.place)
    ∙ found_in token_place _ _ _ c.identifier_at.ensures c.in-Some.is in
    let passes = found_passes (is_of IDENT) (leaves_at c.args.offset (root_of asked)) leaf found in
    IfOk-weaker c.answer_name.result
    (λ body. IsRenamed id meaning.kind asked c.args.offset c.args.name.now known body.items)
    (λ body. IsRenamedAt id asked c.args.offset c.args.name.now known body.items)
    (λ body. meant id asked c.args.offset c.args.name.now known body.items leaf meaning found
    (sym (chosen _ _ _ _ passes c.meaning_of.ensures) ∙ c.in-Some-meaning_of.is))
    c.answer_name.ensures.renames
