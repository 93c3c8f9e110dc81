-- Where a rule is in its node, and what a test says of the next two tokens and of the recursion limit there.
--
-- `near` and `far` are the sets of classes that have those of the current token and of the significant one after it;
-- `h` says that the check holds, and `a` is known at the position.
use Rattle.std.proofs.Common.{◌≡◌, ℕ, Bool, true, false, cond, not, ◌&&◌, sym, ap, ◌∙◌, subst, inl, inr}
use Rattle.std.specs.Prelude.{⊤}
use Rattle.document_grammar.proofs.Booleans.{either, and-l, and-r}
use Rattle.document_grammar.specs.Booleans.{◌and◌}
use Rattle.parser_rules.proofs.lookahead.TokenSets.{set_of, fits-set, ready, present, ready-is, present-is, Seen}
use Rattle.parser_rules.proofs.lookahead.TokenSets.{Branch, by_near, by_far, near-at, far-at, flip}
use Rattle.parser_rules.proofs.runs.Reading.{Shown, second-shown}
use Rattle.parser_rules.specs.RuleLanguage.{Test, Here, Next, Ready, HasNext, Deep, Not, Both, holds}
use Rattle.parser_rules.specs.State.{State, is_deep, second}

-- Within a node: no level of nesting was entered in it, one is entered, or one was entered and left.
pub data Level : Type 0 where
  NotEntered : Level
  Entered : Level
  Left : Level

-- What is known of the open nodes beside the state of the innermost one: nothing; that the same nodes are open whatever
-- follows the current token; or that too, and that the recursion limit is reached.
pub data Certainty : Type 0 where
  Nothing : Certainty
  OpenWhateverFollows : Certainty
  AtLimit : Certainty

-- Where a walk of a rule is: in a state of the open node's row, with the level and what is known; or where the machine
-- is stuck, which is not yet reported.
pub data Position : Type 0 where
  in_row : ℕ → Level → Certainty → Position
  machine_is_stuck : Position

-- where a node begins
abbrev pub at_start : Position
at_start = in_row 0 NotEntered Nothing

-- where a root begins: it is open whatever its first tokens are
abbrev pub at_root_start : Position
at_root_start = in_row 0 NotEntered OpenWhateverFollows

-- a test has shown that the recursion limit is reached
abbrev pub limit_known : Certainty → Certainty
limit_known Nothing = Nothing
limit_known OpenWhateverFollows = AtLimit
limit_known AtLimit = AtLimit

abbrev pub with_limit_known : Position → Position
with_limit_known (in_row q level certainty) = in_row q level (limit_known certainty)
with_limit_known machine_is_stuck = machine_is_stuck

-- the positions and sets for which a test passes go to `if_passed`, those for which it fails to `if_failed`
unfoldable pub divide : {R : Type 0} → (R → R → R) → R → Test → Position → ℕ → ℕ → (Position → ℕ → ℕ → R)
    → (Position → ℕ → ℕ → R) → R
divide combine empty (Here token_test) position near far if_passed if_failed =
    by_near combine empty (set_of token_test) near far (if_passed position) (if_failed position)
divide combine empty (Next token_test) position near far if_passed if_failed =
    by_far combine empty (set_of token_test) near far (if_passed position) (if_failed position)
divide combine empty Ready position near far if_passed if_failed =
    by_near combine empty ready near far (if_passed position) (if_failed position)
divide combine empty HasNext position near far if_passed if_failed =
    by_far combine empty present near far (if_passed position) (if_failed position)
divide combine empty Deep position near far if_passed if_failed =
    combine (if_passed (with_limit_known position) near far) (if_failed position near far)
divide combine empty (Not test) position near far if_passed if_failed =
    divide combine empty test position near far if_failed if_passed
divide combine empty (Both test other_test) position near far if_passed if_failed =
    divide combine empty test position near far (λ p' u v. divide combine empty other_test p' u v if_passed if_failed)
    if_failed

-- the branch that is taken was checked; `A` is what is known at a position
module _ (state : State) (A : Position → Type 0)
    (fills : (p : Position) → is_deep state ≡ true → A p → A (with_limit_known p)) where
  abbrev pub BranchHolds : (Position → ℕ → ℕ → Bool) → Type 0
  BranchHolds if_passed =
      (position : Position) × (near_left : ℕ) × (far_left : ℕ) × (if_passed position near_left far_left ≡ true)
      × Seen near_left far_left state × A position

  same-position : (passed : Bool) (position : Position) (if_passed if_failed : Position → ℕ → ℕ → Bool) → A position
      → Branch (cond passed (if_passed position) (if_failed position)) state
      → BranchHolds (cond passed if_passed if_failed)
  same-position true position if_passed if_failed a branch = (position, branch.0, branch.1, branch.2, branch.3, a)
  same-position false position if_passed if_failed a branch = (position, branch.0, branch.1, branch.2, branch.3, a)

  at-depth-test : (passed : Bool) (position : Position) (near far : ℕ) (if_passed if_failed : Position → ℕ → ℕ → Bool)
      → passed ≡ is_deep state
      → if_passed (with_limit_known position) near far and if_failed position near far ≡ true
      → Seen near far state → A position
      → BranchHolds (cond passed if_passed if_failed)
  at-depth-test true position near far if_passed if_failed e h seen a =
      (with_limit_known position, near, far, and-l _ _ h, seen, fills position (sym e) a)
  at-depth-test false position near far if_passed if_failed e h seen a = (position, near, far, and-r _ _ h, seen, a)

  negated : (passed : Bool) (if_passed if_failed : Position → ℕ → ℕ → Bool)
      → BranchHolds (cond (not passed) if_failed if_passed)
      → BranchHolds (cond passed if_passed if_failed)
  negated true if_passed if_failed branch_holds = branch_holds
  negated false if_passed if_failed branch_holds = branch_holds

  pub divide-at : (test : Test) (b : Bool) (position : Position) (near far : ℕ)
      (if_passed if_failed : Position → ℕ → ℕ → Bool) → Shown state.current
      → b ≡ holds test state → divide (λ a b. a and b) true test position near far if_passed if_failed ≡ true
      → Seen near far state → A position
      → BranchHolds (cond b if_passed if_failed)
  unfolding divide holds
  divide-at (Here token_test) passed position near far if_passed if_failed shown e h seen a =
      same-position passed position if_passed if_failed a
      (near-at passed (set_of token_test) near far (if_passed position) (if_failed position) state
      (e ∙ fits-set token_test state.current shown) h seen)
  divide-at (Next token_test) passed position near far if_passed if_failed shown e h seen a =
      same-position passed position if_passed if_failed a
      (far-at passed (set_of token_test) near far (if_passed position) (if_failed position) state
      (e ∙ fits-set token_test (second state.items) (second-shown state.items)) h seen)
  divide-at Ready passed position near far if_passed if_failed shown e h seen a =
      same-position passed position if_passed if_failed a
      (near-at passed ready near far (if_passed position) (if_failed position) state
      (e ∙ ready-is state.current shown) h seen)
  divide-at HasNext passed position near far if_passed if_failed shown e h seen a =
      same-position passed position if_passed if_failed a
      (far-at passed present near far (if_passed position) (if_failed position) state
      (e ∙ present-is (second state.items) (second-shown state.items)) h seen)
  divide-at Deep passed position near far if_passed if_failed shown e h seen a =
      at-depth-test passed position near far if_passed if_failed e h seen a
  divide-at (Not test) passed position near far if_passed if_failed shown e h seen a =
      negated passed if_passed if_failed
      (divide-at test (not passed) position near far if_failed if_passed shown (flip passed (holds test state) e) h
      seen a)
  divide-at (Both test other_test) b position near far if_passed if_failed shown e h seen a =
      let k : Position → ℕ → ℕ → Bool = λ p' u v. divide (λ a b. a and b) true other_test p' u v if_passed if_failed in
      elim (either (holds test state)) [
        | inl y' ↦ (let r = divide-at test true position near far k if_failed shown (sym y') h seen a in
            divide-at other_test b r.0 r.1 r.2 if_passed if_failed shown
            (e ∙ ap (λ z. z && holds other_test state) y') r.3 r.4 r.5)
        | inr n ↦ subst (λ z. BranchHolds (cond z if_passed if_failed))
            (sym (e ∙ ap (λ z. z && holds other_test state) n))
            (divide-at test false position near far k if_failed shown (sym n) h seen a)
      ]

-- ---- where no position is followed

unfoldable pub split : {R : Type 0} → (R → R → R) → R → Test → ℕ → ℕ → (ℕ → ℕ → R) → (ℕ → ℕ → R) → R
split combine empty test near far if_passed if_failed =
    divide combine empty test machine_is_stuck near far (λ p u v. if_passed u v) (λ p u v. if_failed u v)

Nowhere : Position → Type 0
Nowhere position = ⊤

pub split-at : (test : Test) (b : Bool) (near far : ℕ) (if_passed if_failed : ℕ → ℕ → Bool) (state : State)
    → Shown state.current → b ≡ holds test state
    → split (λ a b. a and b) true test near far if_passed if_failed ≡ true → Seen near far state
    → Branch (cond b if_passed if_failed) state
unfolding split Nowhere
split-at test true near far if_passed if_failed state shown e h seen =
    let r = divide-at state Nowhere (λ p z a. a) test true machine_is_stuck near far (λ p u v. if_passed u v)
    (λ p u v. if_failed u v) shown e h seen tt in
    (r.1, r.2, r.3, r.4)
split-at test false near far if_passed if_failed state shown e h seen =
    let r = divide-at state Nowhere (λ p z a. a) test false machine_is_stuck near far (λ p u v. if_passed u v)
    (λ p u v. if_failed u v) shown e h seen tt in
    (r.1, r.2, r.3, r.4)
