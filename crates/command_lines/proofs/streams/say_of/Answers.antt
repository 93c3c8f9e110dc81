use Rattle.command_lines.proofs.Saying.{said_second}
use Rattle.command_lines.proofs.streams.say_of.Goals as goal

pub returns-in-Ok : goal.returns-in-Ok
returns-in-Ok g c = said_second c.args.program.now c.args.what.now c.as_bytes.result.now _ _ _ c.as_bytes.ensures.value
    c.in-Ok.ensures.ok c.say.ensures
