use Rattle.std.proofs.Common.{◌≡◌, ◌∙◌, ◌+◌, ◌++◌, ◌∷◌, [], map, arith, length, get_or, take, replicate, sym, ap, subst}
use Rattle.std.proofs.lemmas.Grind.{common_steps}
use Rattle.std.proofs.lemmas.List.{length-map, take_more}
use Rattle.cost_figures.proofs.Expansions.{is_measured, measured-append, one_of, all_at}
use Rattle.cost_figures.proofs.Steps.{idle_first}
use Rattle.cost_figures.proofs.walk.measure.Goals as goal
use Rattle.cost_figures.specs.Counts.{figures_of}
use Rattle.cost_figures.specs.Outcome.{AreMeasured, none}
use Rattle.cost_figures.specs.declared.walk.Mark.TheVariants.{Untouched}

pub loop-root-init : goal.loop-root-init
loop-root-init g c =
    let d = map (λ v. v.items) c.args.definitions.now in
    let n = length-map c.args.definitions.now (λ v. v.items) in
    record {
      idle = idle_first d (record {
        marks = c.in-Ok.marks;
        waiting = c.new.result;
        current = record { definition = 0; next = 0; figures = figures_of [] };
      })
          (c.in-Ok.ensures.items_if_clones_equal (λ y e. e) ∙ sym (ap (λ k. replicate k Untouched) n))
          c.new.ensures.items;
      measured = subst (λ fs. AreMeasured d [] fs) (sym c.new-figures.ensures.items) none;
    }

pub returns-in-Err-clause-fault : goal.returns-in-Err-clause-fault
returns-in-Err-clause-fault g c =
    one_of (map (λ v. v.items) c.args.definitions.now) c.args.roots.now c.loop-root.root-index c.in-Err.fault
    (omega arith) c.in-Err.ensures.fault

pub loop-root-preserved : goal.loop-root-preserved
loop-root-preserved g c =
    let d = map (λ v. v.items) c.args.definitions.now in
    let n = length-map c.args.definitions.now (λ v. v.items) in
    let rs = c.args.roots.now in
    let i = c.loop-root.root-index in
    let m = is_measured d (get_or rs i 0) c.in-Ok-measure.measured (omega (
      arith,
      n,
      all_at (length c.args.definitions.now) rs i
          (omega arith) c.requires,
    )) c.in-Ok-measure.ensures.figures in
    let pushed : c.push.new.self.items ≡ c.loop-root.figures.items ++ c.in-Ok-measure.measured ∷ [] =
    grind (arith, common_steps) in
    record {
      idle = c.in-Ok-measure.ensures.idle;
      measured = subst (λ fs. AreMeasured d (take (i + 1) rs) fs) (sym pushed)
          (subst (λ ys. AreMeasured d ys (c.loop-root.figures.items ++ c.in-Ok-measure.measured ∷ []))
          (sym (take_more rs i 0 (omega arith)))
          (measured-append (get_or rs i 0) c.in-Ok-measure.measured c.loop-root.invariant.measured m));
    }
