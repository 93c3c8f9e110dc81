use Rattle.std.proofs.Common.{ℕ, List, arith, length, min}
use Rattle.std.specs.Prelude.{string_bytes}
use Rattle.marked_lines.specs.Places.{place}
use Rattle.document_checks.specs.declared.report.Finding.{Finding}
use Rattle.gqlcheck_run.proofs.Beginnings.{front_kept, front_more}
use Rattle.gqlcheck_run.proofs.report.findings_text.Goals as goal

front : List ℕ → List ℕ → Finding → List ℕ
front name source finding = place name source (min finding.start (length source))

pub loop-finding-preserved : goal.loop-finding-preserved
unfolding front
loop-finding-preserved g c = (
  λ none. absurd (omega (arith, none)),
  front_more (front c.args.name.now c.args.source.now) c.args.report.now.findings.items c.deref-finding-items.result.now
      c.loop-finding.finding-index
      c.finding-item.result (string_bytes c.loop-finding.text) (string_bytes c.push_finding.new.text)
      c.deref-finding-items.ensures.value
      c.loop-finding-test.true c.finding-item.is c.loop-finding.invariant.0 c.loop-finding.invariant.1
      c.in_ok-push_finding.ensures,
)

pub returns : goal.returns
unfolding front
returns g c =
    front_kept (front c.args.name.now c.args.source.now) c.args.report.now.findings.items
    c.deref-finding-items.result.now c.loop-finding.finding-index
    (string_bytes c.loop-finding.text) (string_bytes c.push_more.new.text) c.deref-finding-items.ensures.value
    c.loop-finding-test.false
    c.loop-finding.invariant.1 c.in_ok-push_more.ensures
