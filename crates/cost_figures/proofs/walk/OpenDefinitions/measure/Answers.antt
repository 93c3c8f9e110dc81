use Rattle.std.proofs.Common.{◌∙◌, map, arith}
use Rattle.std.proofs.lemmas.List.{length-map}
use Rattle.cost_figures.proofs.Steps.{at_start, measured_root, ended}
use Rattle.cost_figures.proofs.walk.OpenDefinitions.measure.Goals as goal

pub loop-init : goal.loop-init
loop-init g c =
    let s = at_start (map (λ v. v.items) c.args.definitions.now) c.args.self.now c.begin.new.self c.args.root
    (omega (
      arith,
      c.requires.is_one,
      length-map c.args.definitions.now
          (λ v. v.items),
    )) c.requires.idle c.begin.ensures.marks c.begin.ensures.waiting c.begin.ensures.current in
    record { sound = s.0; begun = s.1 }

pub returns : goal.returns
returns g c =
    let d = map (λ v. v.items) c.args.definitions.now in
    let f = ended d c.loop.self c.step.new.self c.in_ok-step.field-0 c.if-branch.false c.in_ok-step.ensures.goes in
    record {
      idle = f.idle;
      figures = measured_root d c.step.new.self c.args.root f (c.in_ok-step.ensures.goes.root ∙ c.loop.invariant.begun);
      fault = tt;
    }
