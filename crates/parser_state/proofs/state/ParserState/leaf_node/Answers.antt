use Rattle.std.proofs.Common.{◌≡◌, true, None, refl, sym, ap, subst, ◌∙◌, ◌<◌, ◌^◌}
use Rattle.std.proofs.lemmas.Result.{on_ok_weaker}
use Rattle.document_grammar.specs.Builds.{start, add_leaf, finish}
use Rattle.parser_rules.proofs.runs.Forms.{one-leaf}
use Rattle.parser_rules.specs.State.{State, read_on}
use Rattle.parser_state.proofs.Leaves.{fits-text}
use Rattle.parser_state.proofs.Lengths.{room-bumped}
use Rattle.parser_state.proofs.Reading.{read-anew}
use Rattle.parser_state.proofs.state.ParserState.leaf_node.Goals as goal
use Rattle.parser_state.specs.Lengths.{length_of}
use Rattle.parser_state.specs.Reading.{is_leaf_of}
use Rattle.parser_state.specs.View.{lexeme_of, current_of}

pub push_leaf_node-requires-clause-leaf : goal.push_leaf_node-requires-clause-leaf
push_leaf_node-requires-clause-leaf g c =
    fits-text c.args.node c.args.leaf (current_of c.self.inside.current_token)
    (lexeme_of c.in-Some.token) c.«data».result.now
    (ap current_of c.in-Some.is) c.«data».ensures c.self.invariant.0
    (subst (λ (s : State). true ≡ is_leaf_of c.args.node c.args.leaf s.current) (sym c.self.view_is) c.requires)

pub push_leaf_node-requires-clause-len : goal.push_leaf_node-requires-clause-len
push_leaf_node-requires-clause-len g c =
    let is = ap (λ (s : State). s.current) (sym c.self.view_is) ∙ ap current_of c.in-Some.is in
    room-bumped c.args.self.now c.push_pending.new.self (lexeme_of c.in-Some.token) c.«data».result.now
    c.in_ok-push_pending.ensures.step is c.«data».ensures
    (subst (λ (s : State). length_of s < 2 ^ 64) c.self.view_is c.self.invariant.1)

pub returns-clause-step : goal.returns-clause-step
returns-clause-step g c =
    let is = ap (λ (s : State). s.current) (sym c.self.view_is) ∙ ap current_of c.in-Some.is in
    let f = c.push_pending.new.self in
    let n : State = record f { tree = finish (add_leaf c.args.leaf c.«data».result.now (start c.args.node f.tree)) } in
    let anew = ap (λ (m : State). read_on m.items m) c.in_ok-push_leaf_node.ensures.step ∙ read-anew n.items n None in
    on_ok_weaker _
    (λ e. one-leaf c.args.node c.args.leaf c.args.self.now f n c.read_on.new.self
    (lexeme_of c.in-Some.token) c.«data».result.now is c.«data».ensures c.in_ok-push_pending.ensures.step
    refl (e ∙ anew))
    c.read_on.ensures.step
