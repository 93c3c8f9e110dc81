use Rattle.std.proofs.Common.{◌∙◌, ap, sym, subst, ◌<◌, ◌^◌}
use Rattle.std.proofs.lemmas.Result.{on_ok_weaker}
use Rattle.parser_rules.specs.RuleLanguage.{step}
use Rattle.parser_rules.specs.Runs.{does}
use Rattle.parser_rules.specs.State.{State}
use Rattle.parser_state.proofs.Lengths.{room-bumped}
use Rattle.parser_state.proofs.Reading.{bumped}
use Rattle.parser_state.proofs.state.ParserState.bump.Goals as goal
use Rattle.parser_state.specs.Lengths.{length_of}
use Rattle.parser_state.specs.View.{lexeme_of, current_of}

pub push_token-requires : goal.push_token-requires
push_token-requires g c =
    let is = ap (λ (s : State). s.current) (sym c.self.view_is) ∙ ap current_of c.in-Some.is in
    room-bumped c.args.self.now c.push_pending.new.self (lexeme_of c.in-Some.current) c.«data».result.now
    c.in_ok-push_pending.ensures.step is c.«data».ensures
    (subst (λ (s : State). length_of s < 2 ^ 64) c.self.view_is c.self.invariant.1)

pub returns : goal.returns
unfolding step
returns g c =
    let is = ap (λ (s : State). s.current) (sym c.self.view_is) ∙ ap current_of c.in-Some.is in
    record {
      runs = on_ok_weaker _
          (λ e. does (bumped c.args.kind c.args.self.now c.push_pending.new.self
          c.push_token.new.self c.read_on.new.self
          (lexeme_of c.in-Some.current) c.«data».result.now is c.«data».ensures c.in_ok-push_pending.ensures.step
          c.in_ok-push_token.ensures.step e))
          c.read_on.ensures.step;
      budget = c.read_on.ensures.budget ∙ c.push_token.ensures.budget ∙ c.push_pending.ensures.budget;
    }
