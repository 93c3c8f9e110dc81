use Rattle.std.proofs.Common.{List, ℕ, sym, subst, take}
use Rattle.std.proofs.lemmas.List.{map_more}
use denote.Ref.{Bor}
use Rattle.document_checks.proofs.documents.Parsed.of.Goals as goal
use Rattle.document_checks.specs.Checking.{texts_of}
use Rattle.document_checks.specs.Documents.{AreParsed}

pub loop-source-preserved : goal.loop-source-preserved
loop-source-preserved c =
    let sources = c.args.sources.now in
    let i = c.loop-source.source-index in
    let next = c.in_ok-add.ensures (texts_of (take i sources)) c.loop-source.invariant in
    subst (λ (texts : List (List ℕ)). AreParsed c.args.checks.now.limits texts c.add.new.self.documents.items
    c.add.new.self.reports.items)
    (sym (map_more (λ (s : Bor (List ℕ)). s.now) sources i _ c.loop-source-test.true)) next
