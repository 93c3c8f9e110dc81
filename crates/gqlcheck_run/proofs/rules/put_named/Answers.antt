use Rattle.std.proofs.Common.{◌≡◌, ◌+◌, [], ◌∷◌, ◌++◌, get_or, take}
use Rattle.std.proofs.lemmas.List.{take_all}
use Rattle.command_lines.specs.Words.{texts}
use Rattle.gqlcheck_run.proofs.RuleNames.{known_next, next_names, put_next}
use Rattle.gqlcheck_run.proofs.rules.put_named.Goals as goal

pub loop-name-preserved : goal.loop-name-preserved
loop-name-preserved c =
    let more : texts (take (c.loop-name.name-index + 1) c.args.names.now)
    ≡ texts (take c.loop-name.name-index c.args.names.now)
    ++ (get_or c.args.names.now c.loop-name.name-index (record { ref_ptr = (0, 0); now = [] })).now ∷ [] =
    next_names c.args.names.now c.loop-name.name-index (record { ref_ptr = (0, 0); now = [] }) c.loop-name-test.true in
    rw more (record {
      known = known_next _ _ c.in_ok-rule_called.field-0 c.in_ok-rule_called.ensures.ok c.loop-name.invariant.known;
      has = λ rule. put_next c.args.rules c.loop-name.set c.put-set.result rule c.in_ok-rule_called.field-0 _ _
          c.in_ok-rule_called.ensures.ok c.args.are_in (c.loop-name.invariant.has rule) (c.put-set.ensures rule);
    })

pub returns-clause-known : goal.returns-clause-known
returns-clause-known c =
    rw (take_all c.loop-name.name-index c.args.names.now c.loop-name-test.false) at c.loop-name.invariant.known
