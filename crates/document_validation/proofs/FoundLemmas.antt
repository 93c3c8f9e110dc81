-- What is found of all breaches.
use Rattle.std.proofs.Common.{◌≡◌, ℕ, zero, suc, ◌<◌, ◌≤◌, ◌-◌, List, [], ◌∷◌, length, map, take, arith, refl}
use Rattle.std.proofs.Common.{sym, ◌∙◌, ap, subst, Option, None, Some, option_map, true}
use Rattle.std.proofs.lemmas.List.{length-map, nil_from_length}
use Rattle.std.proofs.lemmas.List.Sorted.{length_permutation}
use Rattle.std.specs.List.Sorted.{IsPermutation}
use Rattle.std.specs.Prelude.{◌↔◌}
use Rattle.apollo_tree.specs.Order.{Place}
use Rattle.validation_names.specs.Sites.{Located}
use Rattle.validation_rules.specs.Parts.{operations, parts_in}
use Rattle.validation_rules.specs.Selection.{is_selected_at}
use Rattle.validation_rules.specs.Violations.{Adds, Breach, as_breach, found, selected}
use Rattle.validation_rules.specs.declared.selection.Selection.{Selection}
use Rattle.validation_rules.specs.declared.violations.Rule.{Rule}
use Rattle.validation_rules.specs.declared.violations.Violation.{Violation}
use Rattle.validation_rules.specs.declared.violations.Violations.{Violations}
use Rattle.variable_rules.proofs.WalkLemmas.{ends_once}
use Rattle.document_validation.specs.Breaches.{breaches}
use Rattle.document_validation.specs.Validation.{AreDecided, AreValidIn, IsValidation, ValidationEndsAt}
use Rattle.document_validation.specs.declared.validation.Validation.{Validation}
use Rattle.document_validation.specs.declared.validation.ValidationOptions.{ValidationOptions}

-- what was added to an empty list
pub added : (all : List Breach) (old new : Violations) (most : ℕ) (selection : Selection) → old.list.items ≡ []
    → old.most ≡ most → old.selection ≡ selection
    → Adds all old new → found new ≡ take most (selected selection all)
added all old new most selection empty is same adds =
    let none : found old ≡ [] = ap (map as_breach) empty in
    let room : most - 0 ≡ most = omega arith in
    rw (none, is, same, room) at adds.are

-- the room that is left is that before the list was put in order
pub room_before : (v : Violations) (xs : List Violation) (most : ℕ) → IsPermutation (found v) (map as_breach xs)
    → v.most ≡ most → length xs < most → length v.list.items < v.most
room_before v xs most same is room =
    let a = length_permutation (found v) (map as_breach xs) same in
    let b = length-map xs as_breach in
    let d = length-map v.list.items as_breach in
    omega arith

pub full_before : (v : Violations) (xs : List Violation) (most : ℕ) → IsPermutation (found v) (map as_breach xs)
    → v.most ≡ most → most ≤ length xs → v.most ≤ length v.list.items
full_before v xs most same is full =
    let a = length_permutation (found v) (map as_breach xs) same in
    let b = length-map xs as_breach in
    let d = length-map v.list.items as_breach in
    omega arith

take_none : (most : ℕ) (all : List Breach) → 0 < most → take most all ≡ [] → all ≡ []
take_none zero all some none = absurd (omega arith)
take_none (suc most) [] some none = refl
take_none (suc most) (b ∷ bs) some none = absurd (cc)

no_items : (xs : List Violation) → map as_breach xs ≡ [] → xs ≡ []
no_items [] none = refl
no_items (x ∷ xs) none = absurd (cc)

nothing : (n : ℕ) → take {A = Breach} n [] ≡ []
nothing zero = refl
nothing (suc n) = refl

-- nothing is found exactly if there is nothing
pub found_none : (most : ℕ) (all : List Breach) (xs : List Violation) → IsPermutation (take most all) (map as_breach xs)
    → 0 < most → (xs ≡ []) ↔ (all ≡ [])
found_none most all xs same some = (to, from)
  where
    to : xs ≡ [] → all ≡ []
    to none =
        let long : length (take most all) ≡ 0 =
        sym (length_permutation _ _ same) ∙ ap (λ ys. length (map as_breach ys)) none in
        take_none most all some (nil_from_length (take most all) long)

    from : all ≡ [] → xs ≡ []
    from none =
        let empty : take most all ≡ [] = rw none (nothing most) in
        let long : length (map as_breach xs) ≡ 0 = length_permutation _ _ same ∙ ap length empty in
        no_items xs (nil_from_length (map as_breach xs) long)

-- ---- everything is selected
pub all_selected : (selection : Selection) (bs : List Breach)
    → ((rule : Rule) (site : Located) → is_selected_at selection rule site ≡ true) → selected selection bs ≡ bs
all_selected selection [] all = refl
all_selected selection (b ∷ bs) all = rw (all b.rule b.site) (ap (λ rest. b ∷ rest) (all_selected selection bs all))

-- ---- where validation ends
pub none_of : {A B C : Type 0} (f : A → C) (g : B → C) (x : Option A) (y : Option B)
    → option_map f x ≡ option_map g y → x ≡ None → y ≡ None
none_of f g None None same none = refl
none_of f g (Some a) None same none = refl
none_of f g None (Some b) same none = absurd (cc)
none_of f g (Some a) (Some b) same none = absurd (cc)

-- Nothing is found and no operation is undecided exactly if nothing breaks a rule and the steps suffice.
pub decided_and_valid :
    (options : ValidationOptions) (documents : List Place) (v : Validation) → IsValidation options documents v
    → 0 < options.most
    → ((v.violations.items ≡ []) × (v.undecided ≡ None))
    ↔ (AreValidIn options.selection documents × AreDecided options.steps documents)
decided_and_valid options documents v is some = (to, from)
  where
    listed : ValidationEndsAt options.steps documents None
        → (v.violations.items ≡ []) ↔ (selected options.selection (breaches documents) ≡ [])
    listed decided = found_none options.most (selected options.selection (breaches documents))
        v.violations.items (is.found None decided).same some

    room : v.violations.items ≡ [] → length v.violations.items < options.most
    room none = let l = ap length none in omega arith

    to : ((v.violations.items ≡ []) × (v.undecided ≡ None))
        → AreValidIn options.selection documents × AreDecided options.steps documents
    to (none, decided) =
        let all : is.ended_at ≡ None = none_of _ _ v.undecided is.ended_at is.undecided decided in
        let ends = subst (λ e. ValidationEndsAt options.steps documents e) all (is.ended (room none)) in
        ((listed ends).0 none, ends)

    from : AreValidIn options.selection documents × AreDecided options.steps documents
        → (v.violations.items ≡ []) × (v.undecided ≡ None)
    from (valid, decided) =
        let none = (listed decided).1 valid in
        let all : is.ended_at ≡ None =
        sym (ends_once options.steps (parts_in documents) (operations (parts_in documents)) None is.ended_at decided
        (is.ended (room none))) in
        (none, none_of _ _ is.ended_at v.undecided (sym is.undecided) all)
