-- Lists of breaches up to a bound, with the breaches of one thing more.
use Rattle.std.proofs.Common.{◌≡◌, ℕ, zero, suc, ◌+◌, ◌<◌, List, [], ◌∷◌, ◌++◌, length, take, get_or}
use Rattle.std.proofs.Common.{refl, sym, ◌∙◌, ap, append_assoc}
use Rattle.std.proofs.lemmas.List.{flat_map_more, take_more}
use Rattle.std.specs.List.{flat_map}

-- what is next in a list that is left
pub listed_more :
    {A B : Type 0} (f : A → List B) (most : ℕ) (old new : List B) (all : List B) (x : A) (xs rest : List A)
    → rest ≡ x ∷ xs → take most (old ++ flat_map f rest) ≡ all → new ≡ old ++ f x
    → take most (new ++ flat_map f xs) ≡ all
listed_more f most old new all x xs rest is before adds =
    ap (take most) (ap (λ ys. ys ++ flat_map f xs) adds ∙ append_assoc old (f x) (flat_map f xs))
    ∙ ap (λ r. take most (old ++ flat_map f r)) (sym is) ∙ before

-- the first elements of a list are also the first of a longer list that begins with it
pub first_of_both : {B : Type 0} (most : ℕ) (xs ys : List B) → take most (take most xs ++ ys) ≡ take most (xs ++ ys)
first_of_both zero xs ys = refl
first_of_both (suc n) [] ys = refl
first_of_both (suc n) (x ∷ xs) ys = ap (λ zs. x ∷ zs) (first_of_both n xs ys)

pub listed_then : {B : Type 0} (most : ℕ) (old new before more : List B) → take most old ≡ take most before
    → take most new ≡ take most (old ++ more) → take most new ≡ take most (before ++ more)
listed_then most old new before more is adds =
    adds ∙ sym (first_of_both most old more) ∙ ap (λ xs. take most (xs ++ more)) is ∙ first_of_both most before more

-- one of the elements of a table more
pub each_more :
    {A B : Type 0} (f : A → List B) (table : List A) (init old new : List B) (n : ℕ) (d : A) → n < length table
    → old ≡ init ++ flat_map f (take n table) → new ≡ old ++ f (get_or table n d)
    → new ≡ init ++ flat_map f (take (n + 1) table)
each_more f table init old new n d below is adds =
    adds ∙ ap (λ xs. xs ++ f (get_or table n d)) is ∙ flat_map_more f init (take n table) (get_or table n d)
    ∙ ap (λ xs. init ++ flat_map f xs) (sym (take_more table n d below))
