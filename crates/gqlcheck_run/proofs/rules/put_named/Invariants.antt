use Rattle.std.proofs.Common.{◌≡◌, take}
use Rattle.std.specs.Prelude.{if◌then◌else◌, All}
use Rattle.validation_rules.specs.Selection.{has_rule}
use Rattle.validation_rules.specs.declared.violations.Rule.{Rule}
use Rattle.command_lines.specs.Words.{texts}
use Rattle.gqlcheck_run.proofs.rules.put_named.Given as goal
use Rattle.gqlcheck_run.specs.Rules.{IsRuleName, is_among}

abbrev pub invariant-loop-name : goal.invariant-loop-name
invariant-loop-name l = record {
  known : All IsRuleName (texts (take l.name-index l.names));
  has :
      (rule : Rule) → has_rule l.set rule
      ≡ (if is_among (texts (take l.name-index l.names)) rule then l.fn.are_in else has_rule l.initial.set rule);
}
