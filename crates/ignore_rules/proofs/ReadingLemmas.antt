-- Sets and signs, one after another.
use Rattle.std.proofs.Common.{◌≡◌, ℕ, suc, Bool, true, false, List, [], ◌∷◌, ◌++◌, drop, length, Option, Some, None}
use Rattle.std.proofs.Common.{refl, sym, ap, ◌∙◌, append_assoc, append-nil}
use Rattle.std.specs.Prelude.{option_map}
use Rattle.ignore_rules.specs.Fits.{Sign, none_of, one_of}
use Rattle.ignore_rules.specs.Reading.{Front, IsPut, closes_at, ends_name, is_inverse, joined, range_in, ranges_in}
use Rattle.ignore_rules.specs.Reading.{set_in, sign_in, signs_in, with_range}
use Rattle.ignore_rules.specs.declared.pattern.Range.{Range}

with_one : (before : List Range) (range : Range) (rest : Option (Front (List Range)))
    → option_map (joined before) (option_map (with_range range) rest) ≡ option_map (joined (before ++ range ∷ [])) rest
with_one before range None = refl
with_one before range (Some it) =
    ap (λ (ranges : List Range). Some (record { value = ranges; after = it.after }))
    (sym (append_assoc before (range ∷ []) it.value))

-- one range more
pub range_more : (n : ℕ) (closes : Bool) (text : List ℕ) (it : Front Range) (before : List Range)
    → closes_at closes text ≡ false → range_in text ≡ Some it
    → option_map (joined before) (ranges_in (suc n) closes text)
    ≡ option_map (joined (before ++ it.value ∷ [])) (ranges_in n true it.after)
range_more n closes text it before on is = rw (on, is) (with_one before it.value (ranges_in n true it.after))

-- no range more
pub range_last : (n : ℕ) (closes : Bool) (text : List ℕ) (before : List Range) → closes_at closes text ≡ true
    → option_map (joined before) (ranges_in (suc n) closes text) ≡ Some (record { value = before; after = drop 1 text })
range_last n closes text before on =
    rw on (ap (λ (ranges : List Range). Some (record { value = ranges; after = drop 1 text })) (append-nil before))

pub range_none : (n : ℕ) (closes : Bool) (text : List ℕ) → closes_at closes text ≡ false → range_in text ≡ None
    → ranges_in (suc n) closes text ≡ None
range_none n closes text on none = rw (on, none) refl

pub not_joined : (before : List Range) (found : Option (Front (List Range)))
    → option_map (joined before) found ≡ None → found ≡ None
not_joined before None is = refl
not_joined before (Some it) is = cc

-- ranges after none
pub joined_nil : (found : Option (Front (List Range))) (it : Front (List Range))
    → option_map (joined []) found ≡ Some it → found ≡ Some it
joined_nil None it is = cc
joined_nil (Some found) it is = is

-- a set that is closed
pub set_closed : (text : List ℕ) (it : Front (List Range)) → is_inverse text ≡ false
    → ranges_in (length text) false text ≡ Some it
    → set_in text ≡ record { value = one_of it.value; after = it.after }
set_closed text it none is = rw (none, is) refl

pub inverse_closed : (text : List ℕ) (it : Front (List Range)) → is_inverse text ≡ true
    → ranges_in (length text) false (drop 1 text) ≡ Some it
    → set_in text ≡ record { value = none_of it.value; after = it.after }
inverse_closed text it some is = rw (some, is) refl

-- no sign more
pub sign_none : (n : ℕ) (begins : Bool) (text : List ℕ) (before : List Sign) → text ≡ []
    → before ++ signs_in (suc n) begins text ≡ before
sign_none n begins text before is = ap (λ (t : List ℕ). before ++ signs_in (suc n) begins t) is ∙ append-nil before

-- one sign more
pub sign_more : (n : ℕ) (begins : Bool) (text : List ℕ) (b : ℕ) (rest : List ℕ) (before new : List Sign)
    (begins' : Bool) (after : List ℕ)
    → text ≡ b ∷ rest → IsPut (sign_in begins b rest) before new begins' after
    → before ++ signs_in (suc n) begins text ≡ new ++ signs_in n begins' after
sign_more n begins text b rest before new begins' after is put =
    let it : Front Sign = sign_in begins b rest in
    ap (λ (t : List ℕ). before ++ signs_in (suc n) begins t) is
    ∙ sym (append_assoc before (it.value ∷ []) (signs_in n (ends_name it.value) it.after))
    ∙ ap (λ (s : List Sign). s ++ signs_in n (ends_name it.value) it.after) (sym put.signs)
    ∙ ap (λ (c : Bool). new ++ signs_in n c it.after) (sym put.begun)
    ∙ ap (λ (t : List ℕ). new ++ signs_in n begins' t) (sym put.left)
