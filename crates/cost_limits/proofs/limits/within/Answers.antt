use Rattle.std.proofs.Common.{◌≡◌, ◌∙◌, All, map, take, get_or, sym, ap, subst, refl, arith}
use Rattle.std.proofs.lemmas.List.{get_or-map, length-map, take_all}
use Rattle.std.proofs.lemmas.List.Elements.{All-more}
use Rattle.cost_limits.proofs.Lists.{is_within}
use Rattle.cost_limits.proofs.limits.within.Goals as goal
use Rattle.cost_limits.specs.Limits.{IsWithin}
use Rattle.cost_limits.specs.Measures.{as_measure}

pub returns-in-Some-clause-exceeded : goal.returns-in-Some-clause-exceeded
returns-in-Some-clause-exceeded c =
    let n = c.loop-measured.measured-index in
    let m = c.measured-item.result in
    record {
      number = n;
      inside = omega (arith, c.loop-measured-test.true, length-map c.args.operations.now as_measure);
      before = c.loop-measured.invariant;
      measure = as_measure m;
      measure_is = get_or-map as_measure c.args.operations.now n m (as_measure m) c.loop-measured-test.true
          ∙ ap as_measure (sym c.measured-item.is);
      operation_is = refl;
      limit_is = sym c.first_exceeded.ensures ∙ c.in-Some.is;
      found_is = c.limited_by-in-Some.ensures;
      most_is = c.limited_by.ensures;
    }

pub loop-measured-preserved : goal.loop-measured-preserved
loop-measured-preserved c =
    let n = c.loop-measured.measured-index in
    let m = c.measured-item.result in
    let same : get_or (map as_measure c.args.operations.now) n (as_measure m) ≡ as_measure m =
    get_or-map as_measure c.args.operations.now n m (as_measure m) c.loop-measured-test.true
    ∙ ap as_measure (sym c.measured-item.is) in
    All-more (IsWithin c.args.limits.now) (map as_measure c.args.operations.now) n (as_measure m)
    (omega (arith, c.loop-measured-test.true, length-map c.args.operations.now as_measure)) c.loop-measured.invariant
    (subst (IsWithin c.args.limits.now) (sym same)
    (is_within c.args.limits.now (as_measure m) (sym c.first_exceeded.ensures ∙ c.in_default.is)))

pub returns-clause-within : goal.returns-clause-within
returns-clause-within c =
    let ms = map as_measure c.args.operations.now in
    let all : take c.loop-measured.measured-index ms ≡ ms =
    take_all c.loop-measured.measured-index ms
    (omega (arith, c.loop-measured-test.false, length-map c.args.operations.now as_measure)) in
    subst (All (IsWithin c.args.limits.now)) all c.loop-measured.invariant
