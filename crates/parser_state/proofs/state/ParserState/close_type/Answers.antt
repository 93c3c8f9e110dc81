use Rattle.std.proofs.lemmas.Result.{on_ok_weaker}
use Rattle.parser_rules.proofs.fragments.TypeRoots.{root-checkpoint, still-none, closed-none, from-checkpoint}
use Rattle.parser_rules.proofs.runs.Frame.{open-wrapped}
use Rattle.parser_state.proofs.state.ParserState.close_type.Goals as goal

pub wrap-requires : goal.wrap-requires
wrap-requires g c = root-checkpoint c.args.first.index c.args.self.now c.requires.first c.requires.not_open

pub finish_node-requires : goal.finish_node-requires
finish_node-requires g c =
    open-wrapped c.args.kind c.args.checkpoint.index c.args.self.now c.requires.free c.in_ok-wrap.ensures.step

pub wrap-requires-3 : goal.wrap-requires-3
wrap-requires-3 g c =
    let none = closed-none c.args.checkpoint.index c.args.kind c.args.self.now c.in_ok-wrap.ensures.step
    c.finish_node.ensures.step c.requires.not_open in
    root-checkpoint c.args.first.index c.bump.new.self c.requires.first (still-none c.in_ok-bump.ensures.runs none)

pub returns-clause-step : goal.returns-clause-step
returns-clause-step g c =
    on_ok_weaker _ (λ e. from-checkpoint c.args.first.index c.args.checkpoint.index c.args.kind c.args.self.now
    c.requires.first c.if-not-at.ensures
    c.in_ok-wrap.ensures.step c.finish_node.ensures.step c.in_ok-bump.ensures.runs e) c.wrap-3.ensures.step
