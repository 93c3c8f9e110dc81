use Rattle.std.proofs.Common.{◌≡◌, length}
use Rattle.parser_rules.specs.State.{read_on}
use Rattle.parser_state.proofs.state.ParserState.read_on.Given as goal

abbrev pub invariant-loop-answer : goal.invariant-loop-answer
invariant-loop-answer g l =
    (read_on l.initial.self.items l.initial.self ≡ read_on l.self.items l.self)
    × (l.self.budget ≡ l.initial.self.budget)

abbrev pub decreases-loop-answer : goal.decreases-loop-answer
decreases-loop-answer g l = length l.self.items
