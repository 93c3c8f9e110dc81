use Rattle.std.proofs.Common.{◌≡◌, ◌+◌, ◌<◌, ◌^◌, ◌∙◌, List, sym, ap, subst, map, length}
use Rattle.std.specs.List.{AllZip}
use Rattle.document_grammar.specs.Builds.{Building, finish, built_text}
use Rattle.parser_rules.specs.Open.{IsRoot}
use Rattle.parser_rules.specs.State.{State, Report, add_all, finished}
use Rattle.apollo_tree.specs.Open.{IsComplete}
use Rattle.parser_state.proofs.Building.{free-fits, root-flushed, root-is-open, root-closes, begins-with}
use Rattle.parser_state.proofs.Faults.{all-say}
use Rattle.parser_state.proofs.Lengths.{room-all}
use Rattle.parser_state.proofs.state.ParserState.finish.Goals as goal
use Rattle.parser_state.specs.Errors.{IsErrorOf, error_of}
use Rattle.parser_state.specs.Lengths.{pending_length}
use Rattle.parser_state.specs.View.{pending_of}
use Rattle.parser_state.specs.declared.state.PendingToken.{PendingToken}

pub push_all-requires : goal.push_all-requires
push_all-requires g c =
    subst (λ (ps : List PendingToken). length (built_text c.self.inside.builder) + pending_length (map pending_of ps)
    < 2 ^ 64) (sym c.deref.ensures.value)
    (room-all _ _ _ _ c.self.invariant.1)

pub finish_node-requires : goal.finish_node-requires
finish_node-requires g c =
    let r = root-flushed (map pending_of c.deref.result.now) c.self.inside.builder
    (subst (λ (s : State). IsRoot s.tree) (sym c.self.view_is) c.requires.open_root) in
    free-fits c.push_all.new.builder
    (root-is-open c.push_all.new.builder (subst IsRoot (sym c.in_ok-push_all.ensures.ok) r))

pub finish-requires : goal.finish-requires
finish-requires g c =
    let r = root-flushed (map pending_of c.deref.result.now) c.self.inside.builder
    (subst (λ (s : State). IsRoot s.tree) (sym c.self.view_is) c.requires.open_root) in
    let complete = subst IsComplete (sym c.finish_node.ensures.after)
    (root-closes c.push_all.new.builder (subst IsRoot (sym c.in_ok-push_all.ensures.ok) r)) in
    let built : c.finish_node.new.self ≡ finish (add_all (map pending_of c.deref.result.now) c.self.inside.builder) =
    c.finish_node.ensures.after
    ∙ ap finish c.in_ok-push_all.ensures.ok in
    let here : c.finish_node.new.self.here ≡ finished c.args.self =
    ap (λ (b : Building). b.here) built
    ∙ ap (λ pending. (finish (add_all (map pending_of pending) c.self.inside.builder)).here) c.deref.ensures.value
    ∙ ap finished c.self.view_is in
    record {
      complete = complete;
      source = begins-with c.finish_node.new.self (finished c.args.self) c.args.source.now complete
          here c.requires.source;
    }

pub returns-clause-errors : goal.returns-clause-errors
returns-clause-errors g c =
    subst (λ (rs : List Report). AllZip IsErrorOf rs (map error_of c.self.inside.errors.items))
    (ap (λ (s : State). s.errors) c.self.view_is)
    (all-say c.self.inside.errors.items)
