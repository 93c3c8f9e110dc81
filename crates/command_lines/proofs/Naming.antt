-- Which word is wrong.
use Rattle.std.proofs.Common.{◌≡◌, ℕ, suc, ◌-◌, ◌≤◌, List, [], ◌∷◌, length, take, drop, Bor, inl, subst, arith, Err}
use Rattle.std.proofs.lemmas.List.{take_all}
use Rattle.std.specs.List.{Contains}
use Rattle.std.specs.Prelude.{◌⊎◌}
use Rattle.command_lines.specs.Misuse.{IsAbout}
use Rattle.command_lines.specs.Words.{texts}
use Rattle.command_lines.specs.declared.misuse.WordsError.{WordsError}
use Rattle.command_lines.specs.declared.misuse.WordsError.TheVariants.{Usage, Memory}

-- one of the words after the first is one of all
pub named-later : (words : List (Bor (List ℕ))) (e : WordsError) → 1 ≤ length words
    → IsAbout {P = Unit {0}} (Contains (texts (take (length words - 1) (drop 1 words)))) (Err e)
    → IsAbout {P = Unit {0}} (λ wrong. Contains (texts words) wrong ⊎ (wrong ≡ [])) (Err e)
named-later [] e some h = absurd (omega (arith, some))
named-later (word ∷ more) Memory some h = tt
named-later (word ∷ more) (Usage misuse) some h =
    let all : take (length (word ∷ more) - 1) more ≡ more = take_all (length (word ∷ more) - 1) more (omega arith) in
    let there : Contains (texts more) misuse.word.now =
    subst (λ (l : List (Bor (List ℕ))). Contains (texts l) misuse.word.now) all h in
    inl (suc there.0, omega (arith, there.1), there.2)
