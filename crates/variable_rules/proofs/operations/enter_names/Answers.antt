use Rattle.std.proofs.Common.{◌≡◌, arith, length}
use Rattle.std.proofs.Math.Seq.{take-length}
use Rattle.std.proofs.lemmas.List.{take_more, map-append}
use Rattle.validation_names.specs.Mentions.{as_named}
use Rattle.variable_rules.proofs.KnownLemmas.{adds_more, adds_none}
use Rattle.variable_rules.proofs.operations.enter_names.Goals as goal

pub loop-number-init : goal.loop-number-init
loop-number-init c = adds_none c.args.known.now

pub loop-number-preserved : goal.loop-number-preserved
loop-number-preserved c =
    let item = c.index-items-number.result in
    rw (
      take_more c.args.items.now c.loop-number.number item c.loop-number-test.true,
      map-append,
      ← c.index-items-number.is,
    )
    (adds_more c.args.known.now c.loop-number.known c.enter.new.entries _ (as_named item) _ c.loop-number.invariant
    c.in_ok-enter.ensures.entered)

pub returns : goal.returns
returns c =
    let end : c.loop-number.number ≡ length c.args.items.now = omega arith in
    rw (end, take-length) at c.loop-number.invariant
