-- Items that are handled one after the other.
use Rattle.std.proofs.Common.{◌≡◌, ℕ, ◌+◌, ◌<◌, List, [], ◌∷◌, ◌++◌, length, take, get_or, map}
use Rattle.std.proofs.Common.{max, refl, sym, ap, ◌∙◌, subst, arith}
use Rattle.std.proofs.lemmas.Bool.Decides.{nat_tests}
use Rattle.std.proofs.lemmas.List.{take_more, map-append}
use Rattle.std.specs.Ordering.{ord_max, nat_cmp}
use Rattle.named_files.specs.Handling.{InTurn}

ord_max-nat : (a b : ℕ) → ord_max nat_cmp a b ≡ max a b
ord_max-nat a b = grind (arith, nat_tests)

module _ {I D : Type 0} (handles : I → ℕ → D → D → Type 0) where
  -- one item more
  in_turn-more : (items : List I) (status : ℕ) (item : I) (one : ℕ) (old middle new : D)
      → InTurn handles items status old middle
      → handles item one middle new → InTurn handles (items ++ item ∷ []) (max status one) old new
  in_turn-more [] status item one old middle new h last =
      (one, 0, new, (omega (arith, h.0)), subst (λ (d : D). handles item one d new) h.1 last, (refl, refl))
  in_turn-more (i ∷ items) status item one old middle new h last =
      (h.0, max h.1 one, h.2, (omega (arith, h.3)), h.4, in_turn-more items h.1 item one h.2 middle new h.5 last)

  -- the same where the item is the next of a list, as the code has it
  pub in_turn-next : {X : Type 0} (f : X → I) (xs : List X) (i status one worst : ℕ) (d : X) (old middle new : D)
      → i < length xs
      → InTurn handles (map f (take i xs)) status old middle → handles (f (get_or xs i d)) one middle new
      → worst ≡ ord_max nat_cmp status one → InTurn handles (map f (take (i + 1) xs)) worst old new
  in_turn-next f xs i status one worst d old middle new within h last most =
      let more : map f (take (i + 1) xs) ≡ map f (take i xs) ++ f (get_or xs i d) ∷ [] =
      ap (map f) (take_more xs i d within) ∙ map-append f (take i xs) (get_or xs i d ∷ []) in
      subst (λ (n : ℕ). InTurn handles (map f (take (i + 1) xs)) n old new) (sym (most ∙ ord_max-nat status one))
      (subst (λ (items : List I). InTurn handles items (max status one) old new) (sym more)
      (in_turn-more (map f (take i xs)) status (f (get_or xs i d)) one old middle new h last))
