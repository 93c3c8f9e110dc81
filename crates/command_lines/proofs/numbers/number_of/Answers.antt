use Rattle.std.proofs.Common.{◌∙◌}
use Rattle.command_lines.proofs.NumberLemmas.{number-parsed, no-plus}
use Rattle.command_lines.proofs.numbers.number_of.Goals as goal

pub returns : goal.returns
returns c =
    c.ok.ensures.value ∙ number-parsed c.args.word.now c.parse.result
    (no-plus c.args.word.now c.if-starts_with.ensures.cases) c.parse.ensures.value.0
