-- The words of a program taken one after another. `run` is the definition: what words give after others that gave
-- something.
use Rattle.std.proofs.Common.{◌≡◌, ℕ, ◌+◌, ◌-◌, ◌<◌, ◌≤◌, List, ◌∷◌, length, take, drop, get_or, Bor, sym, ap, ◌∙◌}
use Rattle.std.proofs.Common.{arith, add-one, drop-cons, length-drop}
use Rattle.std.proofs.lemmas.List.{take_rest, drop-drop}
use Rattle.std.specs.Prelude.{Option}
use Rattle.command_lines.specs.Words.{texts}

-- a word is taken, and some of those after it
pub goes-on : {G R : Type 0} (run : G → List (List ℕ) → Option R) (words : List (Bor (List ℕ)))
    (i count : ℕ) (d : Bor (List ℕ))
    (given new : G) (all : Option R) → i < length words
    → run given ((get_or words i d).now ∷ texts (take (length words - (i + 1)) (drop (i + 1) words)))
    ≡ run new (texts (drop count (take (length words - (i + 1)) (drop (i + 1) words))))
    → run given (texts (drop i words)) ≡ all → run new (texts (drop (i + (1 + count)) words)) ≡ all
goes-on run words i count d given new all some taken left =
    let rest : take (length words - (i + 1)) (drop (i + 1) words) ≡ drop (i + 1) words = take_rest words (i + 1) in
    let after : drop count (drop (i + 1) words) ≡ drop (i + (1 + count)) words =
    drop-drop count (i + 1) words ∙ ap (λ n. drop n words) (omega arith) in
    let first : drop i words ≡ get_or words i d ∷ drop (i + 1) words = rw (add-one, drop-cons words i d) in
    ap (λ (l : List (Bor (List ℕ))). run new (texts l)) (sym after)
    ∙ ap (λ (l : List (Bor (List ℕ))). run new (texts (drop count l))) (sym rest)
    ∙ sym taken
    ∙ ap (λ (l : List (Bor (List ℕ))). run given ((get_or words i d).now ∷ texts l)) rest
    ∙ ap (λ (l : List (Bor (List ℕ))). run given (texts l)) (sym first)
    ∙ left

pub stays-within : (words : List (Bor (List ℕ))) (i count : ℕ) → i < length words
    → count ≤ length (take (length words - (i + 1)) (drop (i + 1) words))
    → i + (1 + count) ≤ length words
stays-within words i count some few =
    let rest = ap (λ (l : List (Bor (List ℕ))). length l) (take_rest words (i + 1)) in
    omega (arith, rest, length-drop (i + 1) words)
