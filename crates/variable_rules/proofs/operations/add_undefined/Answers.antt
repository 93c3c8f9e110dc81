use Rattle.std.proofs.Common.{◌≡◌, ◌<◌, [], Some, not, true, false, arith, length, map, get_or, sym, ap, refl, ◌∙◌}
use Rattle.std.proofs.Math.Seq.{take-length}
use Rattle.std.proofs.lemmas.List.{get_or_default, length-map}
use Rattle.std.proofs.lemmas.List.Sums.{sum_by_more}
use Rattle.std.specs.List.{list_any}
use Rattle.validation_names.specs.Mentions.{Named, as_named}
use Rattle.validation_rules.proofs.AddLemmas.{adds_all, adds_next, adds_none}
use Rattle.validation_rules.specs.Broken.{undefined_variables_in}
use Rattle.validation_rules.specs.Parts.{Parts, as_parts, at, is_declared, site_at}
use Rattle.validation_rules.specs.declared.violations.Rule.TheVariants.{NoUndefinedVariables}
use Rattle.variable_rules.proofs.KnownLemmas.{none_unknown}
use Rattle.variable_rules.proofs.WalkLemmas.{unknown_are, use_steps_are}
use Rattle.variable_rules.proofs.operations.add_undefined.Goals as goal
use Rattle.variable_rules.proofs.operations.add_undefined.Goals.{then-has_unknown+in_ok-add_unknown, else-has_unknown}
use Rattle.variable_rules.specs.Steps.{use_steps_in}
use Rattle.variable_rules.specs.UsedNames.{is_known}

pub row-requires : goal.row-requires
row-requires c =
    let l = c.requires.numbers c.loop-number.number-index 0 c.loop-number-test.true in
    let a = c.requires.names.as_many in
    let m = length-map c.args.parts.now as_parts in
    omega arith

pub loop-number-init : goal.loop-number-init
loop-number-init c = record { adds = adds_none c.args.violations.now; steps = refl }

pub loop-number-preserved : goal.loop-number-preserved
loop-number-preserved c =
    let ds = map as_parts c.args.parts.now in
    let o = c.args.operation in
    let numbers = c.args.numbers.now in
    let n = c.loop-number.number-index in
    let number = get_or numbers n 0 in
    let below : n < length numbers = c.loop-number-test.true in
    let inv = c.loop-number.invariant in
    let knows = is_known c.args.declared.now in
    let party = ap (λ (d : Parts). Some d.definition.site) c.part_at.ensures in
    let sums = sum_by_more (use_steps_in ds o) numbers n 0 below in
    let read = get_or_default numbers n 0 number below in
    let fails = λ (i : Named). not (knows i.name) in
    elim c.if-has_unknown.branch [
      | then-has_unknown+in_ok-add_unknown w ↦
          let uses = ap (map as_named) w.deref-used.ensures.value
          ∙ ap (λ (d : Parts). d.used) w.part_at-then-has_unknown.ensures in
          let same = unknown_are NoUndefinedVariables _ (Some (site_at ds o)) knows (is_declared ds o) _
          (at ds number).used party c.requires.declared uses in
          record {
            adds = rw w.violations-is
                (adds_next (undefined_variables_in ds o) numbers n number _ _ _ below read inv.adds
                (rw same at w.in_ok-add_unknown.ensures));
            steps = rw w.steps-is (let i = inv.steps in let l = ap length uses in
                let m = length-map w.deref-used.result.now as_named in
                let u = use_steps_are ds c.args.names.now o number knows true c.requires.names c.requires.declared
                (ap (list_any fails) (sym c.row.ensures) ∙ sym c.has_unknown.ensures ∙ w.if-has_unknown.true) in
                omega arith);
          }
      | else-has_unknown w ↦
          let none = ap (list_any fails) (sym c.row.ensures) ∙ sym c.has_unknown.ensures ∙ w.if-has_unknown.false in
          let empty : undefined_variables_in ds o number ≡ [] =
          sym (unknown_are NoUndefinedVariables (Some (site_at ds o)) _ knows (is_declared ds o) (at ds number).used _
          refl c.requires.declared refl)
          ∙ none_unknown NoUndefinedVariables (Some (site_at ds o)) knows (at ds number).used
          (ap (list_any fails) (sym (c.requires.names.each number)) ∙ none) in
          record {
            adds = rw w.violations-is
                (adds_next (undefined_variables_in ds o) numbers n number _ _ _ below read inv.adds
                (rw empty (adds_none c.loop-number.violations)));
            steps = rw w.steps-is (let i = inv.steps in
                let u = use_steps_are ds c.args.names.now o number knows false c.requires.names c.requires.declared
                none in
                omega arith);
          }
    ]

pub returns-clause-adds : goal.returns-clause-adds
returns-clause-adds c =
    adds_all (undefined_variables_in (map as_parts c.args.parts.now) c.args.operation) c.args.numbers.now
    c.loop-number.number-index _ _ (omega arith)
    c.loop-number.invariant.adds

pub returns-clause-steps : goal.returns-clause-steps
returns-clause-steps c =
    let end : c.loop-number.number-index ≡ length c.args.numbers.now = omega arith in
    rw (end, take-length) at c.loop-number.invariant.steps
