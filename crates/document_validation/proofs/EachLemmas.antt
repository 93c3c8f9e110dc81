-- What is listed for one document after another.
use Rattle.std.proofs.Common.{◌≡◌, ℕ, suc, ◌+◌, List, [], ◌∷◌, arith}
use Rattle.apollo_tree.specs.Order.{Place}
use Rattle.validation_rules.proofs.AddLemmas.{adds_none, adds_then}
use Rattle.validation_rules.specs.Violations.{Adds, Breach}
use Rattle.validation_rules.specs.declared.violations.Violations.{Violations}
use Rattle.document_validation.specs.Breaches.{of_each, of_each_from}

-- Whoever adds what is listed for the documents that are left, the first of which has the number n, has added what is
-- listed for all.
abbrev pub AreLeft : (ℕ → Place → List Breach) → ℕ → List Place → List Place → Violations → Violations → Type 0
AreLeft f n left all old mid = (new : Violations) → Adds (of_each_from f n left) mid new → Adds (of_each f all) old new

pub each_next :
    (f : ℕ → Place → List Breach) (n : ℕ) (left rest all : List Place) (document : Place) (old mid new : Violations)
    → left ≡ document ∷ rest
    → AreLeft f n left all old mid → Adds (f n document) mid new → AreLeft f (n + 1) rest all old new
each_next f n left rest all document old mid new e before now end adds =
    let next : n + 1 ≡ suc n = omega arith in
    before end (rw e (adds_then (f n document) (of_each_from f (suc n) rest) mid new end now (rw next at adds)))

pub each_ends :
    (f : ℕ → Place → List Breach) (n : ℕ) (left all : List Place) (old new : Violations) → left ≡ []
    → AreLeft f n left all old new
    → Adds (of_each f all) old new
each_ends f n left all old new e before = before new (rw e (adds_none new))
