-- Items that are kept with the next one last, as the crates above that walk through folders keep paths.
use Rattle.std.proofs.Common.{◌≡◌, ℕ, ◌++◌, [], ◌∷◌, ◌-◌, List, map, take, reverse}
use Rattle.std.proofs.Common.{ap, ◌∙◌, append-nil}
use Rattle.std.proofs.lemmas.List.{map-append, reverse-append}

-- one item more
pub reverse_more : {X Y : Type 0} (f : X → Y) (items : List X) (x : X)
    → reverse (map f (items ++ x ∷ [])) ≡ f x ∷ reverse (map f items)
reverse_more f items x = ap reverse (map-append f items (x ∷ [])) ∙ reverse-append (map f items) (f x ∷ [])

-- the last item is the next one
pub popped : {X Y : Type 0} (f : X → Y) (items before : List X) (x : X) → items ≡ before ++ x ∷ []
    → reverse (map f items) ≡ f x ∷ reverse (map f before)
popped f items before x is = ap (λ xs. reverse (map f xs)) is ∙ reverse_more f before x

-- no item is left
pub drained : {X Y : Type 0} (f : X → Y) (items after : List X) (n : ℕ) → items ≡ after ++ []
    → after ≡ take (n - 1) items → n ≡ 0 → reverse (map f items) ≡ []
drained f items after n all front empty =
    ap (λ xs. reverse (map f xs)) (all ∙ append-nil after ∙ front ∙ ap (λ k. take (k - 1) items) empty)
