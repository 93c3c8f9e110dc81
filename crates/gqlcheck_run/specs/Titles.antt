-- Which operation some figures are of.
use Rattle.std.specs.Prelude.{ℕ, List, [], ◌∷◌, codes}

-- its name, or that it has none
abbrev pub title_of : List ℕ → List ℕ
title_of [] = codes "the operation without a name"
title_of (b ∷ bytes) = b ∷ bytes
