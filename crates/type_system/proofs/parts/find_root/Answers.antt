use Rattle.std.proofs.Common.{sym, ◌∙◌}
use Rattle.validation_names.specs.Sites.{as_located}
use Rattle.type_system.proofs.Picked.{found_at, none_more}
use Rattle.type_system.proofs.parts.find_root.Goals as goal
use Rattle.type_system.specs.Definitions.{is_root}

pub returns-then-is_root : goal.returns-then-is_root
returns-then-is_root c =
    found_at (is_root c.args.operation) as_located c.args.roots.now c.loop-site.site-index c.site-item.result
    c.loop-site-test.true c.site-item.is (sym c.is_root.ensures ∙ c.if-is_root.true) c.loop-site.invariant

pub loop-site-preserved : goal.loop-site-preserved
loop-site-preserved c =
    none_more (is_root c.args.operation) as_located c.args.roots.now c.loop-site.site-index c.site-item.result
    c.loop-site-test.true c.site-item.is (sym c.is_root.ensures ∙ c.if-is_root.false) c.loop-site.invariant
