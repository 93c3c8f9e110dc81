use Rattle.std.proofs.Common.{◌≡◌, ◌<◌, ◌∙◌, ℕ, List, [], ◌∷◌, None, arith, drop, length, refl, zero, suc}
use Rattle.file_uris.proofs.after_word.Goals as goal
use Rattle.file_uris.specs.Uris.{after_word}

-- nothing is left of the text before the word ends
ended : (word rest : List ℕ) (i : ℕ) → i < length word → length rest < 1 → after_word (drop i word) rest ≡ None
ended [] rest i within empty = absurd (omega (arith, within))
ended (w ∷ word) [] zero within empty = refl
ended (w ∷ word) (c ∷ rest) zero within empty = absurd (omega (arith, empty))
ended (w ∷ word) rest (suc i) within empty = ended word rest i (omega (arith, within)) empty

pub returns-in_default : goal.returns-in_default
returns-in_default c = c.loop-wanted.invariant ∙ ended _ _ _ c.loop-wanted-test.true c.in_default.len_below
