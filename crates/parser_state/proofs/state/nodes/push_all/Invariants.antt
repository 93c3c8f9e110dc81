use Rattle.std.proofs.Common.{◌≡◌, ◌+◌, map, drop, length}
use Rattle.document_grammar.specs.Builds.{built_text}
use Rattle.parser_rules.specs.State.{add_all}
use Rattle.parser_state.proofs.state.nodes.push_all.Given as goal
use Rattle.parser_state.specs.Lengths.{pending_length}
use Rattle.parser_state.specs.View.{pending_of}

abbrev pub invariant-loop-token : goal.invariant-loop-token
invariant-loop-token g l =
    (add_all (map pending_of l.pending) l.initial.builder
    ≡ add_all (map pending_of (drop l.token-index l.pending)) l.builder)
    × (length (built_text l.builder) + pending_length (map pending_of (drop l.token-index l.pending))
    ≡ length (built_text l.initial.builder) + pending_length (map pending_of l.pending))
