-- Patterns that fit no child.
use Rattle.std.proofs.Common.{◌≡◌, ℕ, Bool, true, false, List, [], ◌∷◌, ◌++◌, refl, sym, ◌∙◌, inl, inr}
use Rattle.document_grammar.proofs.Booleans.{and-i, or-l, or-r}
use Rattle.document_grammar.specs.Booleans.{◌and◌, ◌or◌}
use Rattle.document_grammar.specs.Pattern.{Pattern, any_of, nothing, ◌then◌, ◌or_else◌, many, Matches}

abbrev pub nullable : Pattern → Bool
nullable (any_of ks) = false
nullable nothing = true
nullable (p then q) = nullable p and nullable q
nullable (p or_else q) = nullable p or nullable q
nullable (many p) = true

pub nil-parts : {A : Type 0} (u v : List A) → u ++ v ≡ [] → (u ≡ []) × (v ≡ [])
nil-parts [] v e = (refl, e)
nil-parts (k ∷ u) v e = absurd cc

pub nullable-to : (p : Pattern) (w : List ℕ) → w ≡ [] → Matches p w → nullable p ≡ true
nullable-to (any_of ks) w e (k, i, f) = absurd cc
nullable-to nothing w e h = refl
nullable-to (p then q) w e (u, v, f, a, b) = let n = nil-parts u v (sym f ∙ e) in
    and-i (nullable-to p u n.0 a) (nullable-to q v n.1 b)
nullable-to (p or_else q) w e (inl h) = or-l _ _ (nullable-to p w e h)
nullable-to (p or_else q) w e (inr h) = or-r _ _ (nullable-to q w e h)
nullable-to (many p) w e h = refl
