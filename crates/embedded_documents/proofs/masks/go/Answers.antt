use Rattle.std.proofs.Common.{subst, sym}
use Rattle.std.proofs.lemmas.List.Elements.{All-pop, All-push}
use Rattle.std.specs.List.{All}
use Rattle.embedded_documents.proofs.masks.go.Goals as goal
use Rattle.embedded_documents.specs.Steps.{IsMoveIn, IsContextIn}

pub returns-in_ok-push-in-Enter : goal.returns-in_ok-push-in-Enter
returns-in_ok-push-in-Enter c =
    subst (All (IsContextIn c.args.text.now)) (sym c.in_ok-push-in-Enter.ensures.items)
    (All-push (IsContextIn c.args.text.now) _ _ c.requires.contexts
    (subst (IsMoveIn c.args.text.now) c.in-Enter.is c.requires.next))

pub returns-in-Leave : goal.returns-in-Leave
returns-in-Leave c =
    (All-pop (IsContextIn c.args.text.now) c.args.contexts.now.items c.pop.new.self.items c.pop.result
    c.pop.ensures.items c.requires.contexts).0
