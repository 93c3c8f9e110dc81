use Rattle.std.proofs.Common.{◌≡◌, [], ◌∷◌, ◌++◌, arith, length, map, take, is_some, not, true, false, ap, sym, ◌∙◌}
use Rattle.std.proofs.Math.Seq.{take-length}
use Rattle.std.proofs.lemmas.List.{append-nil, append_assoc, map-append, map_more}
use Rattle.validation_names.specs.Mentions.{as_named}
use Rattle.validation_names.specs.declared.name_mentions.Mention.{Mention}
use Rattle.variable_rules.proofs.KnownLemmas.{first_again, first_more}
use Rattle.variable_rules.proofs.used_names.enter_firsts.Goals as goal
use Rattle.variable_rules.proofs.used_names.enter_firsts.Goals.{then-is_none+in_ok-push, else-is_none}
use Rattle.variable_rules.specs.UsedNames.{is_known}

pub loop-item-init : goal.loop-item-init
loop-item-init c before are = rw (append-nil before) are

pub loop-item-preserved : goal.loop-item-preserved
loop-item-preserved c before are =
    let item = c.item-item.result in
    let all = c.args.items.now in
    let k = c.loop-item.item-index in
    let items = before ++ map as_named (take k all) in
    let inv = c.loop-item.invariant before are in
    let more = map_more as_named all k item c.loop-item-test.true
    ∙ ap (λ (m : Mention). map as_named (take k all) ++ as_named m ∷ []) (sym c.item-item.is) in
    let step = ap (λ xs. before ++ xs) more
    ∙ sym (append_assoc before (map as_named (take k all)) (as_named item ∷ [])) in
    rw step
    (elim c.if-is_none.branch [
      | then-is_none+in_ok-push w ↦
          let was : is_known c.loop-item.known item.name.now ≡ false =
          ap is_some (sym c.in_ok-enter.ensures.earlier) ∙ c.is_none.ensures ∙ ap not w.if-is_none.true in
          rw (w.firsts-is, w.in_ok-push.ensures.items, map-append)
          (first_more c.loop-item.known c.enter.new.entries (map as_named c.loop-item.firsts.items)
          items (as_named item) _ inv
          c.in_ok-enter.ensures.entered was)
      | else-is_none w ↦
          let was : is_known c.loop-item.known item.name.now ≡ true =
          ap is_some (sym c.in_ok-enter.ensures.earlier) ∙ c.is_none.ensures ∙ ap not w.if-is_none.false in
          rw w.firsts-is
          (first_again c.loop-item.known c.enter.new.entries (map as_named c.loop-item.firsts.items)
          items (as_named item) _ inv
          c.in_ok-enter.ensures.entered was)
    ])

pub returns : goal.returns
returns c =
    let end : c.loop-item.item-index ≡ length c.args.items.now = omega arith in
    rw (end, take-length) at c.loop-item.invariant
