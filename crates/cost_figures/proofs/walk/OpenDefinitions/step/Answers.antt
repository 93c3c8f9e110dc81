use Rattle.std.proofs.Common.{map}
use Rattle.cost_figures.proofs.Expansions.{not_spread}
use Rattle.cost_figures.proofs.Steps.{past_other, out}
use Rattle.cost_figures.proofs.walk.OpenDefinitions.step.Goals as goal

pub returns-in_default-clause-goes : goal.returns-in_default-clause-goes
returns-in_default-clause-goes g c =
    out (map (λ v. v.items) c.args.definitions.now) c.args.self.now c.leave.new.self c.requires
    c.in_default.ensures.item c.leave.ensures.marks
    c.leave.result c.leave.ensures.waiting

pub returns-in_default-item : goal.returns-in_default-item
returns-in_default-item g c =
    record {
      goes = past_other (map (λ v. v.items) c.args.definitions.now) c.args.self.now c.advance.new.self c.in-Some.item
          c.of.result c.requires
          c.in-Some.ensures.item (not_spread c.in-Some.item c.in_default-item.not-Spread) c.of.ensures
          c.advance.ensures.marks c.advance.ensures.waiting c.advance.ensures.current;
      fault = tt;
    }
