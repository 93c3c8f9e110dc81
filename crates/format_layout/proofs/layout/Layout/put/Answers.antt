use Rattle.format_layout.proofs.Written.{token-adds}
use Rattle.format_layout.proofs.layout.Layout.put.Goals as goal

pub returns-clause-adds : goal.returns-clause-adds
returns-clause-adds g c =
    token-adds _ _ _ _ _ _ _ c.in_ok-push_str.ensures.bytes c.of-self.ensures c.add_one.ensures
    c.requires.token c.requires.apart
