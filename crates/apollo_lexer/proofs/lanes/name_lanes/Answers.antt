use Rattle.std.proofs.Common.{ℕ, leb, cond, bit_and, refl, w8}
use Rattle.std.proofs.lemmas.Simd.{zip2_splat, zip2_of_maps, splat_is_map, length-chunk, chunk-fits}
use lib.Lanes.{chunk}
use Rattle.lexical_grammar.specs.Characters.{is_name_continue}
use Rattle.apollo_lexer.proofs.LaneRuns.{lanes-run}
use Rattle.apollo_lexer.proofs.lanes.name_lanes.Goals as goal

-- what is computed of each lane
pub returns : goal.returns
returns c =
    let v = chunk 0 16 c.args.bytes.now in
    let long = length-chunk 0 16 c.args.bytes.now c.requires in
    lanes-run is_name_continue _ v _ _ long (chunk-fits w8 0 16 c.args.bytes.now c.type_inv.bytes)
    (zip2_of_maps bit_and _ _ v
    (zip2_of_maps bit_and _ _ v
    (zip2_of_maps (λ a b. cond (leb a b) 255 0) _ _ v (splat_is_map v 16 26 long)
    (zip2_of_maps _ _ _ v (zip2_splat {Y = ℕ} _ v 16 32 long) (splat_is_map v 16 97 long)))
    (zip2_of_maps (λ a b. cond (leb a b) 255 0) _ _ v (splat_is_map v 16 10 long) (zip2_splat {Y = ℕ} _ v 16 48 long)))
    (zip2_splat {Y = ℕ} _ v 16 95 long))
    c.first_set.ensures refl
