use Rattle.std.proofs.Common.{◌≡◌, arith, length, map, ap, subst, sym, ◌∙◌}
use Rattle.std.proofs.lemmas.List.{length-map}
use Rattle.validation_names.specs.Mentions.{as_named}
use Rattle.validation_rules.proofs.PartsLemmas.{at_read}
use Rattle.validation_rules.specs.Parts.{Parts, as_parts}
use Rattle.variable_rules.proofs.RowLemmas.{AreRows, no_rows, rows_all, rows_more}
use Rattle.variable_rules.proofs.used_names.used_names.Goals as goal

pub loop-definition-init : goal.loop-definition-init
loop-definition-init c = no_rows _ _ c.new-rows.ensures.items

pub loop-definition-preserved : goal.loop-definition-preserved
loop-definition-preserved c =
    let d = c.definition-item.result in
    let n = c.loop-definition.definition-index in
    let read = at_read c.args.parts.now n d c.loop-definition-test.true c.definition-item.is in
    let used = ap (λ (p : Parts). p.used) read ∙ ap (map as_named) (sym c.deref.ensures.value) in
    rows_more (map as_parts c.args.parts.now) n c.loop-definition.rows.items c.push.new.self.items c.in_ok-row.row
    (map as_named c.deref.result.now)
    c.loop-definition.invariant c.in_ok-push.ensures.items used c.in_ok-row.ensures

pub returns : goal.returns
returns c =
    let ds = map as_parts c.args.parts.now in
    let end : c.loop-definition.definition-index ≡ length ds = simp length-map (omega arith) in
    rows_all ds _ (subst (λ n. AreRows ds n c.loop-definition.rows.items) end c.loop-definition.invariant)
