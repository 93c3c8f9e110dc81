use Rattle.std.proofs.Common.{◌≡◌, ◌+◌, ◌-◌, ℕ, ap, arith, drop, get_or, length, map, refl, sym, take, ◌∙◌}
use Rattle.std.proofs.lemmas.List.{drop-drop, length-drop, take_all}
use Rattle.std.specs.Prelude.{take_while}
use Rattle.apollo_parser.specs.Errors.{error_of}
use Rattle.first_errors.proofs.Firsts.{next}
use Rattle.first_errors.proofs.definition_errors.first_of_each.Goals as goal
use Rattle.first_errors.specs.Groups.{is_earlier}

pub loop-start-preserved : goal.loop-start-preserved
loop-start-preserved g c =
    let seen = c.loop-start.seen in
    let count = c.count_earlier-count.result in
    let errors = c.args.errors.now in
    let rest = drop seen errors in
    let whole : take (length errors - seen) rest ≡ rest =
    take_all (length errors - seen) rest (omega (arith, length-drop seen errors)) in
    let start = get_or c.args.starts.now c.loop-start.start-index 0 in
    let only : seen + count - seen ≡ count = omega arith in (
      omega (
        arith,
        c.count_earlier-count.ensures.within,
        ap length whole,
        length-drop seen errors,
        c.loop-start.invariant.0,
      ),
      next error_of c.args.starts.now c.loop-start.start-index 0 start count rest _ (drop (seen + count) errors)
          (map error_of c.loop-start.found.items) (map error_of c.push_first.new.found.items) _
          c.loop-start-test.true refl
          (c.count_earlier-count.ensures.value
          ∙ ap (λ xs. length (take_while (is_earlier start) (map error_of xs))) whole)
          (ap (λ (n : ℕ). take n rest) only) (sym (drop-drop count seen errors)) c.in_ok-push_first.ensures
          c.loop-start.invariant.1,
    )
