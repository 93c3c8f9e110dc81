-- A tree with other spellings of its block strings.
use Rattle.std.proofs.Common.{◌≡◌, ℕ, ◌⊎◌, inl, inr, true, false, List, [], ◌∷◌, ◌++◌, refl, sym, ap, ◌∙◌, subst, arith}
use Rattle.std.proofs.Common.{append_assoc}
use Rattle.std.proofs.lemmas.Bool.{cases_Bool}
use Rattle.std.specs.Prelude.{cond}
use Rattle.document_grammar.specs.Choices.{is_ignored, is_keyword}
use Rattle.document_grammar.specs.Derivation.{Yield, Yields, spelled}
use Rattle.document_grammar.specs.Kinds.{IDENT, STRING}
use Rattle.document_grammar.specs.Tree.{Text, Token, Tree, leaf, node, Forest, none, ◌▸◌}
use Rattle.format_layout.specs.Respelled.{SameBlock, Alike, AllAlike}

abbrev pub SameToken : Token → Token → Type 0
SameToken a b = (a ≡ b) ⊎ ((a.0 ≡ STRING) × (b.0 ≡ STRING) × SameBlock a.1 b.1)

abbrev pub AreSame : List Token → List Token → Type 0
AreSame [] [] = Unit {0}
AreSame [] (b ∷ bs) = ⊥
AreSame (a ∷ more) [] = ⊥
AreSame (a ∷ more) (b ∷ bs) = SameToken a b × AreSame more bs

pub record Relabeled (t : Tree) (rest ws : List Token) : Type 0 where
  pub tree : Tree
  pub left : List Token
  pub alike : Alike t tree
  pub spells : ws ≡ Yield tree ++ left
  pub same : AreSame rest left

pub record AllRelabeled (f : Forest) (rest ws : List Token) : Type 0 where
  pub forest : Forest
  pub left : List Token
  pub alike : AllAlike f forest
  pub spells : ws ≡ Yields forest ++ left
  pub same : AreSame rest left

string-leaf : (k : ℕ) → cond (is_keyword k) IDENT k ≡ STRING → k ≡ STRING
string-leaf k e = elim (cases_Bool (is_keyword k)) [
  | inl p ↦ absurd (let no : IDENT ≡ STRING = rw p at e in omega arith)
  | inr p ↦ rw p at e
]

ignored-leaf : (k : ℕ) (x : Text) (rest ws : List Token) → is_ignored k ≡ true → AreSame rest ws
    → Relabeled (leaf k x) rest ws
ignored-leaf k x rest ws p s =
    record { tree = leaf k x; left = ws; alike = (refl, inl refl); spells = rw p refl; same = s }

token-leaf : (k : ℕ) (x : Text) (rest ws : List Token) → is_ignored k ≡ false → AreSame (spelled k x ∷ rest) ws
    → Relabeled (leaf k x) rest ws
token-leaf k x rest [] p s = absurd s
token-leaf k x rest ((n, y) ∷ ws) p s = elim s.0 [
  | inl e ↦ record {
    tree = leaf k x;
    left = ws;
    alike = (refl, inl refl);
    spells = rw p (ap (λ w. w ∷ ws) (sym e));
    same = s.1;
  }
  | inr d ↦ record {
    tree = leaf k y;
    left = ws;
    alike = (refl, inr (string-leaf k d.0, d.2));
    spells = rw p (ap (λ (m : ℕ). (m, y) ∷ ws) (d.1 ∙ sym d.0));
    same = s.1;
  }
]

relabel-leaf : (k : ℕ) (x : Text) (rest ws : List Token) → AreSame (Yield (leaf k x) ++ rest) ws
    → Relabeled (leaf k x) rest ws
relabel-leaf k x rest ws s = elim (cases_Bool (is_ignored k)) [
  | inl p ↦ ignored-leaf k x rest ws p (rw p at s)
  | inr p ↦ token-leaf k x rest ws p (rw p at s)
]

mutual
  pub relabel : (t : Tree) (rest ws : List Token) → AreSame (Yield t ++ rest) ws → Relabeled t rest ws
  relabel (leaf k x) rest ws s = relabel-leaf k x rest ws s
  relabel (node k f) rest ws s =
      let r = relabel-all f rest ws s in
      record { tree = node k r.forest; left = r.left; alike = (refl, r.alike); spells = r.spells; same = r.same }

  relabel-all : (f : Forest) (rest ws : List Token) → AreSame (Yields f ++ rest) ws → AllRelabeled f rest ws
  relabel-all none rest ws s = record { forest = none; left = ws; alike = tt; spells = refl; same = s }
  relabel-all (t ▸ f) rest ws s =
      let r = relabel t (Yields f ++ rest) ws (subst (λ l. AreSame l ws) (append_assoc (Yield t) (Yields f) rest) s) in
      let q = relabel-all f rest r.left r.same in
      record {
        forest = r.tree ▸ q.forest;
        left = q.left;
        alike = (r.alike, q.alike);
        spells = r.spells ∙ ap (λ l. Yield r.tree ++ l) q.spells
            ∙ sym (append_assoc (Yield r.tree) (Yields q.forest) q.left);
        same = q.same;
      }
