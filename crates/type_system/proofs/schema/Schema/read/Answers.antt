use Rattle.std.proofs.Common.{ap, ◌∙◌}
use Rattle.type_system.proofs.schema.Schema.read.Goals as goal
use Rattle.type_system.specs.Types.{types_in}

pub returns : goal.returns
returns c = c.in_ok-schema.ensures ∙ ap types_in c.in_ok-definitions.ensures
