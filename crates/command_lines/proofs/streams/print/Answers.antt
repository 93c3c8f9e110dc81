use Rattle.std.proofs.Common.{inr, refl}
use Rattle.command_lines.proofs.Saying.{broken_page}
use Rattle.command_lines.proofs.streams.print.Goals as goal

pub returns-in-Err : goal.returns-in-Err
returns-in-Err g c =
    inr (
      refl,
      broken_page _ c.args.page.now c.as_bytes.result.now _ _ c.as_bytes.ensures.value c.in-Err.ensures.err,
      c.say_of.ensures,
    )
