-- Whole trees that follow one another in a table.
use Rattle.std.proofs.Common.{◌≡◌, ℕ, zero, suc, pred, ◌+◌, ◌<◌, ◌≤◌, List, [], ◌∷◌, ◌++◌, length, drop, refl, sym, ap}
use Rattle.std.proofs.Common.{◌∙◌, arith, true, false}
use Rattle.document_grammar.specs.Forests.{Forest, none, leaf, node, text, count}
use Rattle.apollo_tree.specs.Children.{tiled}
use Rattle.apollo_tree.specs.ReadBack.{length-records}
use Rattle.apollo_tree.specs.Records.{records, further}
use Rattle.apollo_tree.specs.declared.record.Record.{Record}

pub size-parts : (n : ℕ) (rs : List Record) → elim n [ zero ↦ false | suc m ↦ tiled m rs ] ≡ true
    → (0 < n) × (tiled (pred n) rs ≡ true)
size-parts zero rs h = absurd cc
size-parts (suc n) rs h = (omega arith, h)

pub tiled-skip : (n : ℕ) (rs : List Record) → tiled n rs ≡ true → tiled 0 (drop n rs) ≡ true
tiled-skip zero rs h = h
tiled-skip (suc n) [] h = absurd cc
tiled-skip (suc n) (r ∷ rs) h = tiled-skip n rs h

pub tiled-le : (n : ℕ) (rs : List Record) → tiled n rs ≡ true → n ≤ length rs
tiled-le zero rs h = omega arith
tiled-le (suc n) [] h = absurd cc
tiled-le (suc n) (r ∷ rs) h = omega (arith, tiled-le n rs h)

tiled-past : (xs ys : List Record) → tiled (length xs) (xs ++ ys) ≡ tiled 0 ys
tiled-past [] ys = refl
tiled-past (x ∷ xs) ys = tiled-past xs ys

pub tiled-records : (at up : ℕ) (f : Forest) → tiled 0 (records at up f) ≡ true
tiled-records at up none = refl
tiled-records at up (leaf k s rest) = tiled-records (at + length s) (further up 1) rest
tiled-records at up (node k kids rest) =
    let at2 = at + length (text kids) in
    let up2 = further up (suc (count kids)) in
    ap (λ n. tiled n (records at 1 kids ++ records at2 up2 rest)) (sym (length-records at 1 kids))
    ∙ tiled-past (records at 1 kids) _
    ∙ tiled-records at2 up2 rest
