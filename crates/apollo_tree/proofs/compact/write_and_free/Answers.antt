use Rattle.std.proofs.Common.{◌≡◌, ◌/◌, ℕ, map, take, sym, subst}
use Rattle.std.proofs.lemmas.List.{drop-map, take-map, take_rest}
use Rattle.std.proofs.lemmas.List.Elements.{All-drop, All-take}
use Rattle.std.specs.List.{All}
use Rattle.apollo_tree.proofs.Compacts.{in-two}
use Rattle.apollo_tree.proofs.compact.write_and_free.Goals as goal
use Rattle.apollo_tree.specs.Widened.{IsSmall}

pub write_all-requires-2 : goal.write_all-requires-2
write_all-requires-2 g c =
    let plain = g.R.Packed.plain in
    let all = c.deref.result.now in
    let half : ℕ = c.len-half.result / 2 in
    subst (λ ps. All IsSmall (map plain ps)) (sym (take_rest all half))
    (subst (All IsSmall) (drop-map plain half all)
    (All-drop IsSmall half (map plain all)
    (subst (λ ps. All IsSmall (map plain ps)) (sym c.deref.ensures.value) c.requires)))

pub write_all-requires-3 : goal.write_all-requires-3
write_all-requires-3 g c =
    let plain = g.R.Packed.plain in
    let all = c.args.records.items in
    let half : ℕ = c.len-half.result / 2 in
    let kept : c.as_slice-2.result.now ≡ take half all =
    cc (c.as_slice-2.ensures.value, c.shrink_to_fit.ensures.items, c.truncate.ensures.items) in
    subst (λ ps. All IsSmall (map plain ps)) (sym kept)
    (subst (All IsSmall) (take-map plain half all) (All-take IsSmall half (map plain all) c.requires))

pub returns : goal.returns
returns g c =
    let plain = g.R.Packed.plain in
    let all = c.args.records.items in
    let half : ℕ = c.len-half.result / 2 in
    let kept : c.as_slice-2.result.now ≡ take half all =
    cc (c.as_slice-2.ensures.value, c.shrink_to_fit.ensures.items, c.truncate.ensures.items) in
    let two = in-two plain all c.args.rows.now half c.min.result c.min.ensures in
    cc (
      c.write_all-3.ensures,
      c.write_all-2.ensures,
      c.split_at_mut-front.ensures.front,
      c.split_at_mut-front.ensures.back,
      kept,
      c.deref.ensures.value,
      two,
    )
