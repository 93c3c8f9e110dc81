use Rattle.std.proofs.Common.{Some, None, ap, sym, ◌∙◌}
use Rattle.std.specs.Prelude.{is_some, option_map}
use Rattle.apollo_tree.specs.Order.{Place, range_at}
use Rattle.editor_answers.specs.Names.{definition_in}
use Rattle.editor_answers.specs.Parts.{bounds}
use Rattle.gqlls_server.proofs.Definers.{found_at, none_left, other_counts, own_counts}
use Rattle.gqlls_server.proofs.Own.{some_of}
use Rattle.gqlls_server.proofs.references.definer_of.Goals as goal
use Rattle.gqlls_server.specs.Renaming.{KnownFile, defines, root_of}
use Rattle.gqlls_server.specs.State.{known_of, text_of}

pub returns-then-is_some : goal.returns-then-is_some
returns-then-is_some c =
    let asked = known_of c.args.asked.now in
    let own = c.is_some.ensures ∙ sym (some_of bounds c.definition.result)
    ∙ ap is_some c.definition.ensures ∙ some_of range_at _
    ∙ ap (λ (root : Place). is_some (definition_in root c.args.offset)) c.root.ensures.place in
    own_counts (is_some (definition_in (root_of asked) c.args.offset)) (text_of c.args.asked.now.uri) _
    (sym own ∙ c.if-is_some.true)

pub returns-then-defines : goal.returns-then-defines
returns-then-defines c =
    let asked = known_of c.args.asked.now in
    let own = c.is_some.ensures ∙ sym (some_of bounds c.definition.result)
    ∙ ap is_some c.definition.ensures ∙ some_of range_at _
    ∙ ap (λ (root : Place). is_some (definition_in root c.args.offset)) c.root.ensures.place in
    let item = c.one-item.result in
    let found = found_at (defines asked c.args.offset) known_of c.args.known.now c.loop-one.one-index item
    c.loop-one-test.true c.one-item.is
    (sym c.defines.ensures ∙ c.if-defines.true) in
    other_counts (is_some (definition_in (root_of asked) c.args.offset)) (text_of c.args.asked.now.uri) _
    (Some (text_of item.uri))
    (sym own ∙ c.if-is_some.false)
    (ap (option_map (λ (one : KnownFile). one.0)) (sym found ∙ c.loop-one.invariant))

pub returns : goal.returns
returns c =
    let asked = known_of c.args.asked.now in
    let own = c.is_some.ensures ∙ sym (some_of bounds c.definition.result)
    ∙ ap is_some c.definition.ensures ∙ some_of range_at _
    ∙ ap (λ (root : Place). is_some (definition_in root c.args.offset)) c.root.ensures.place in
    let none = none_left (defines asked c.args.offset) known_of c.args.known.now c.loop-one.one-index
    c.loop-one-test.false in
    other_counts (is_some (definition_in (root_of asked) c.args.offset)) (text_of c.args.asked.now.uri) _ None
    (sym own ∙ c.if-is_some.false)
    (ap (option_map (λ (one : KnownFile). one.0)) (sym none ∙ c.loop-one.invariant))
