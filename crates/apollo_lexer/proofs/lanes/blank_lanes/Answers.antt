use Rattle.std.proofs.Common.{ℕ, bit_and, refl, w8}
use Rattle.std.proofs.lemmas.Simd.{zip2_splat, zip2_of_maps, length-chunk, chunk-fits}
use lib.Lanes.{chunk}
use Rattle.apollo_lexer.proofs.LaneRuns.{lanes-run}
use Rattle.apollo_lexer.proofs.lanes.blank_lanes.Goals as goal
use Rattle.apollo_lexer.specs.Starts.{is_blank_byte}

-- what is computed of each lane
pub returns : goal.returns
returns c =
    let v = chunk 0 16 c.args.bytes.now in
    let long = length-chunk 0 16 c.args.bytes.now c.requires in
    lanes-run is_blank_byte _ v _ _ long (chunk-fits w8 0 16 c.args.bytes.now c.type_inv.bytes)
    (zip2_of_maps bit_and _ _ v
    (zip2_of_maps bit_and _ _ v (zip2_splat {Y = ℕ} _ v 16 32 long) (zip2_splat {Y = ℕ} _ v 16 9 long))
    (zip2_of_maps bit_and _ _ v (zip2_splat {Y = ℕ} _ v 16 10 long) (zip2_splat {Y = ℕ} _ v 16 13 long)))
    c.first_set.ensures refl
