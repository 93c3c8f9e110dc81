use Rattle.format_layout.proofs.Unsigned.{unsigned-nest}
use Rattle.format_layout.proofs.laws.same_nesting.Goals as goal

pub returns : goal.returns
returns c = unsigned-nest
