use Rattle.command_lines.proofs.Naming.{named-later}
use Rattle.command_lines.proofs.gqlcst.command_of.Goals as goal

pub returns-in-Err-clause-about : goal.returns-in-Err-clause-about
returns-in-Err-clause-about g c =
    named-later c.args.words.now c.in-Err.error c.in-len1-up.len_at_least c.in-Err.ensures.about
