use Rattle.std.proofs.Common.{◌≡◌, true, sym, ◌∙◌}
use Rattle.format_layout.proofs.Choosing.{comes-before, goes-away, stays-there}
use Rattle.format_layout.proofs.writer.Writer.put.Goals as goal
use Rattle.format_layout.specs.Leads.{may_come, may_go}

pub returns-in-LeftOut-clause-adds : goal.returns-in-LeftOut-clause-adds
returns-in-LeftOut-clause-adds g c =
    let may : may_go c.args.self.now.lead c.args.kind ≡ true = sym c.may_go.ensures ∙ c.if-may_go.true in
    goes-away _ _ _ _ (record { kind = c.args.kind; text = c.args.text.now }) c.requires.kept may

pub returns-in-PutIn-clause-adds : goal.returns-in-PutIn-clause-adds
returns-in-PutIn-clause-adds g c =
    let may : may_come c.args.self.now.lead c.args.kind ≡ true = sym c.may_come.ensures ∙ c.if-may_come.true in
    comes-before _ _ _ _ _ _ _ (record { kind = c.args.kind; text = c.args.text.now }) c.requires.kept may
    c.in_ok-write_signed-in-PutIn.ensures.adds

pub returns-clause-adds : goal.returns-clause-adds
returns-clause-adds g c =
    stays-there _ _ _ _ _ _ _ (record { kind = c.args.kind; text = c.args.text.now }) c.requires.kept
    c.in_ok-write_token.ensures.adds
