use Rattle.std.proofs.Common.{◌≡◌, ℕ, ◌≤◌, List, length}
use Rattle.byte_streams.specs.Devices.{moved}
use Rattle.rpc_messages.specs.Steps.{Takes}
use Rattle.rpc_serving.proofs.Conversations.{GoesOn}
use Rattle.rpc_serving.proofs.conversation.serve.Given as goal
use Rattle.rpc_serving.specs.Frames.{HasNoFrame}

abbrev pub invariant-loop : goal.invariant-loop
invariant-loop g l =
    (input output : List ℕ) × (g.R.Source.account l.reader ≡ moved (g.R.Source.account l.initial.reader) input)
    × (g.W.Sink.account l.writer ≡ moved (g.W.Sink.account l.initial.writer) output)
    × GoesOn (Takes g.S.Service.steps) l.initial.service input output l.service l.frames × HasNoFrame l.frames
    × (l.counter ≤ length input)
