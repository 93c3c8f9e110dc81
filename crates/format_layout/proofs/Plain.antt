-- Each token stays that is below no node with members.
use Rattle.std.proofs.Common.{◌≡◌, inl, inr, Bool, true, false, List, [], ◌∷◌, ◌++◌, refl, sym, ap, subst}
use Rattle.std.proofs.lemmas.Bool.{cases_Bool}
use Rattle.std.specs.Prelude.{◌&&◌}
use Rattle.document_grammar.specs.Choices.{is_ignored}
use Rattle.document_grammar.specs.Derivation.{Yield, Yields, spelled}
use Rattle.document_grammar.specs.Tree.{Token, Tree, leaf, node, Forest, none, ◌▸◌}
use Rattle.format_layout.proofs.Steps.{step, Along, AtMarks, along-append}
use Rattle.format_layout.specs.Chosen.{Choice, stays, goes, signed, chosen}
use Rattle.format_layout.specs.Signs.{has_members, marks, all_marks, is_leaf, is_sign}
use Rattle.format_layout.specs.declared.lead.Lead.{Lead}
use Rattle.format_layout.specs.declared.lead.Lead.TheVariants.{Members}

abbrev pub steps : Lead → List Token → Lead
steps s [] = s
steps s (a ∷ ts) = steps (step s a.0 a.1) ts

pub steps-append : (s : Lead) (xs ys : List Token) → steps s (xs ++ ys) ≡ steps (steps s xs) ys
steps-append s [] ys = refl
steps-append s (x ∷ xs) ys = steps-append (step s x.0 x.1) xs ys

abbrev pub is_members : Lead → Bool
is_members Members = true
is_members _ = false

-- ---- choices that all stay

abbrev pub AllStay : List Choice → Type 0
AllStay [] = Unit {0}
AllStay (c ∷ cs) = (c ≡ stays) × AllStay cs

pub stay-append : (cs ds : List Choice) → AllStay cs → AllStay ds → AllStay (cs ++ ds)
stay-append [] ds a b = b
stay-append (c ∷ cs) ds a b = (a.0, stay-append cs ds a.1 b)

pub chosen-stay : {A : Type 0} (sign : A) (cs : List Choice) (xs : List A) → AllStay cs → Along cs xs
    → chosen sign cs xs ≡ xs
chosen-stay sign [] [] h l = refl
chosen-stay sign [] (x ∷ xs) h l = absurd l
chosen-stay sign (c ∷ cs) [] h l = absurd l
chosen-stay sign (stays ∷ cs) (x ∷ xs) h l = ap (λ r. x ∷ r) (chosen-stay sign cs xs h.1 l)
chosen-stay sign (goes ∷ cs) (x ∷ xs) h l = absurd (cc)
chosen-stay sign (signed ∷ cs) (x ∷ xs) h l = absurd (cc)

pub stay-at : (cs : List Choice) (ms : List Bool) → AllStay cs → Along cs ms → AtMarks cs ms
stay-at [] [] h l = tt
stay-at [] (m ∷ ms) h l = l
stay-at (c ∷ cs) [] h l = l
stay-at (stays ∷ cs) (m ∷ ms) h l = stay-at cs ms h.1 l
stay-at (goes ∷ cs) (m ∷ ms) h l = absurd (cc)
stay-at (signed ∷ cs) (m ∷ ms) h l = stay-at cs ms h.1 l

-- a mark for each token
mutual
  pub marks-long : (before : Bool) (t : Tree) (cs : List Choice) → Along cs (Yield t) → Along cs (marks before t)
  marks-long before (leaf k x) cs l = elim (cases_Bool (is_ignored k)) [
    | inl e ↦ (let there : Along {A = Token} cs [] = rw e at l in rw e (no-tokens cs there))
    | inr e ↦ (let there : Along cs (spelled k x ∷ []) = rw e at l in
        rw e (one-token cs (spelled k x) (before && is_sign k) there))
  ] where
    no-tokens : (cs : List Choice) → Along {A = Token} cs [] → Along {A = Bool} cs []
    no-tokens [] l = tt
    no-tokens (c ∷ cs) l = l

    one-token : (cs : List Choice) (a : Token) (m : Bool) → Along cs (a ∷ []) → Along cs (m ∷ [])
    one-token [] a m l = l
    one-token (c ∷ cs) a m l = no-tokens cs l
  marks-long before (node k f) cs l = all-marks-long (has_members k) f cs l

  pub all-marks-long : (before : Bool) (f : Forest) (cs : List Choice) → Along cs (Yields f)
      → Along cs (all_marks before f)
  all-marks-long before none [] l = tt
  all-marks-long before none (c ∷ cs) l = l
  all-marks-long before (t ▸ f) cs l =
      let p = parts cs (Yield t) (Yields f) l in
      subst (λ (r : List Choice). Along r (marks before t ++ all_marks (before && is_leaf t) f)) (sym p.2)
      (along-append p.0 p.1 (marks before t) (all_marks (before && is_leaf t) f) (marks-long before t p.0 p.3)
      (all-marks-long (before && is_leaf t) f p.1 p.4))
    where
      parts : (cs : List Choice) (xs ys : List Token) → Along cs (xs ++ ys)
          → (a : List Choice) × (b : List Choice) × (cs ≡ a ++ b) × Along a xs × Along b ys
      parts cs [] ys l = ([], cs, refl, tt, l)
      parts [] (x ∷ xs) ys l = absurd l
      parts (c ∷ cs) (x ∷ xs) ys l = let p = parts cs xs ys l in (c ∷ p.0, p.1, ap (λ r. c ∷ r) p.2, p.3, p.4)
