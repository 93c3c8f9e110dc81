use Rattle.format_layout.proofs.Choosing.{sign-then}
use Rattle.format_layout.proofs.writer.Writer.write_signed.Goals as goal

pub returns-clause-adds : goal.returns-clause-adds
returns-clause-adds g c =
    sign-then _ _ _ _ _ _ _ _ _ (record { kind = c.args.kind; text = c.args.text.now }) c.requires.kept
    c.in_ok-write_sign.ensures.adds c.in_ok-spell.ensures.adds
