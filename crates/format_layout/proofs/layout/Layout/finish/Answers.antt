use Rattle.std.proofs.lemmas.Str.{IsUtf8-string_bytes}
use Rattle.format_layout.proofs.Counts.{laid-items}
use Rattle.format_layout.proofs.Tokens.{laid-holds}
use Rattle.format_layout.proofs.layout.Layout.finish.Goals as goal

pub returns-clause-holds : goal.returns-clause-holds
returns-clause-holds g c = laid-holds _ _ _

pub returns-clause-few : goal.returns-clause-few
returns-clause-few g c = λ words laid. laid-items _ _ _ words (IsUtf8-string_bytes c.args.self.text) laid
