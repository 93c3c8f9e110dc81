use Rattle.std.proofs.Common.{◌++◌, Some, map}
use Rattle.std.specs.List.{filter_map}
use Rattle.ignore_rules.proofs.PartLemmas.{parts_cut, parts_left}
use Rattle.ignore_rules.proofs.RuleLemmas.{no_rule, rules_more}
use Rattle.ignore_rules.proofs.rules.Rules.add.Goals as goal
use Rattle.ignore_rules.specs.Fits.{byte}
use Rattle.ignore_rules.specs.Ignored.{as_rules}
use Rattle.ignore_rules.specs.Lines.{as_rule, rule_of}

pub loop-rest-preserved-in_ok-push : goal.loop-rest-preserved-in_ok-push
loop-rest-preserved-in_ok-push g c =
    let folder = map byte c.in_ok-before.before.items in
    rules_more folder as_rule c.loop-rest.self.rules.items c.push.new.self.items c.in-Some-2.rule c.cut.result.0.now
    (parts_left 10 c.cut.result.1)
    (parts_left 10 c.loop-rest.rest)
    (as_rules c.args.self.now ++ filter_map (rule_of folder) (parts_left 10 (Some c.args.text))) c.loop-rest.invariant
    (rw c.in-Some.is (parts_cut 10 c.in-Some.left.now c.cut.result.0.now c.cut.result.1 c.cut.ensures))
    (rw (c.in-Some-2.is, c.as_slice.ensures.value) at c.in_ok-rule.ensures) c.in_ok-push.ensures.items

pub loop-rest-preserved : goal.loop-rest-preserved
loop-rest-preserved g c =
    let folder = map byte c.in_ok-before.before.items in
    no_rule folder as_rule c.loop-rest.self.rules.items c.cut.result.0.now (parts_left 10 c.cut.result.1)
    (parts_left 10 c.loop-rest.rest)
    (as_rules c.args.self.now ++ filter_map (rule_of folder) (parts_left 10 (Some c.args.text))) c.loop-rest.invariant
    (rw c.in-Some.is (parts_cut 10 c.in-Some.left.now c.cut.result.0.now c.cut.result.1 c.cut.ensures))
    (rw (c.in_default-2.is, c.as_slice.ensures.value) at c.in_ok-rule.ensures)
