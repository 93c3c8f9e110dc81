-- Diagnostics depend on which fragments other documents have, and not on the order of the documents.
use Rattle.std.proofs.Common.{◌≡◌, zero, suc, Bool, true, false, not, List, [], ◌∷◌, map, take, arith, refl, sym, ap}
use Rattle.std.proofs.Common.{◌∙◌}
use Rattle.std.specs.List.{Contains, filter, list_any}
use Rattle.std.specs.Prelude.{◌↔◌, ◌||◌}
use Rattle.document_grammar.specs.declared.kind.SyntaxKind.TheVariants.{FRAGMENT_NAME}
use Rattle.apollo_lexer.specs.Diagnostics.{Diagnostic}
use Rattle.apollo_tree.specs.Order.{Place}
use Rattle.validation_names.specs.Mentions.{name_in}
use Rattle.validation_names.specs.Names.{Name}
use Rattle.validation_rules.proofs.TextOrderLemmas.{one_order}
use Rattle.validation_rules.specs.Violations.{Breach}
use Rattle.document_validation.specs.Breaches.{breaches}
use Rattle.editor_diagnostics.specs.Diagnostics.{Diagnosis}
use Rattle.editor_validation.proofs.Kept.{same_mends}
use Rattle.editor_validation.specs.Diagnostics.{AreDiagnostics, AreDiagnosticsOn, diagnostic_of}
use Rattle.editor_validation.specs.Fragments.{Fragments}
use Rattle.editor_validation.specs.Mending.{define, has_name, is_mended, spread}

-- ---- a test that some element passes
module _ {X : Type 0} (p : X → Bool) where
  record Passes (xs : List X) : Type 0 where
    one : X
    there : Contains xs one
    passes : p one ≡ true

  behind : (x : X) (xs : List X) → Passes xs → Passes (x ∷ xs)
  behind x xs so = record {
    one = so.one;
    there = let within = so.there.1 in
        (suc so.there.0, omega arith, so.there.2);
    passes = so.passes;
  }

  passed_at : (x : X) (xs : List X) (b : Bool) → p x ≡ b → (list_any p xs ≡ true → Passes xs)
      → (b || list_any p xs) ≡ true → Passes (x ∷ xs)
  passed_at x xs true e rest any = record { one = x; there = (0, omega arith, refl); passes = e }
  passed_at x xs false e rest any = behind x xs (rest any)

  passed : (xs : List X) → list_any p xs ≡ true → Passes xs
  passed [] any = absurd (cc)
  passed (x ∷ xs) any = passed_at x xs (p x) refl (passed xs) any

  first_passes : (x : X) (xs : List X) → p x ≡ true → list_any p (x ∷ xs) ≡ true
  first_passes x xs e = rw e refl

  later_passes : (x : X) (xs : List X) (b : Bool) → list_any p xs ≡ true → (b || list_any p xs) ≡ true
  later_passes x xs true any = refl
  later_passes x xs false any = any

  passes_any : (xs : List X) (x : X) → Contains xs x → p x ≡ true → list_any p xs ≡ true
  passes_any [] x (k, within, is) e = absurd (omega arith)
  passes_any (y ∷ ys) x (zero, within, is) e = first_passes y ys (ap p is ∙ e)
  passes_any (y ∷ ys) x (suc k, within, is) e = later_passes y ys (p y) (passes_any ys x (k, omega arith, is) e)

  one_answer : (a b : Bool) → (a ≡ true → b ≡ true) → (b ≡ true → a ≡ true) → a ≡ b
  one_answer true b to from = sym (to refl)
  one_answer false true to from = from refl
  one_answer false false to from = refl

  pub same_any : (xs ys : List X) → ((x : X) → Contains xs x ↔ Contains ys x) → list_any p xs ≡ list_any p ys
  same_any xs ys same =
      one_answer (list_any p xs) (list_any p ys)
      (λ any. let so = passed xs any in passes_any ys so.one ((same so.one).0 so.there) so.passes)
      (λ any. let so = passed ys any in passes_any xs so.one ((same so.one).1 so.there) so.passes)

-- ---- what others mend
module _ (others same : List Fragments) (alike : (f : Fragments) → Contains others f ↔ Contains same f) where
  same_mended : (b : Breach) → is_mended others b ≡ is_mended same b
  same_mended b =
      same_mends (define others) (define same) (spread others) (spread same)
      (λ name. same_any (λ (f : Fragments). has_name f.defined name) others same alike)
      (λ name. same_any (λ (f : Fragments). has_name f.spread name) others same alike)
      b.rule (name_in FRAGMENT_NAME b.site.place)

  rule_diagnostics : (document : Place) (first second : List Diagnosis) → AreDiagnostics others document first
      → AreDiagnostics same document second → second ≡ first
  rule_diagnostics document first second f s =
      let list : s.found ≡ f.found =
      one_order (take 10000 (breaches (document ∷ []))) s.found f.found s.exact f.exact in
      let stays : (λ (b : Breach). not (is_mended same b)) ≡ (λ (b : Breach). not (is_mended others b)) =
      sym (λ i b. not (same_mended b i)) in
      s.are
      ∙ ap (λ (bs : List Breach). map diagnostic_of (take 100 (filter (λ b. not (is_mended same b)) bs))) list
      ∙ ap (λ (keeps : Breach → Bool). map diagnostic_of (take 100 (filter keeps f.found))) stays
      ∙ sym f.are

pub same-diagnostics : (names_braces : Bool) (others same : List Fragments) (document : Place)
    (errors : List Diagnostic) (first second : List Diagnosis)
    → ((f : Fragments) → Contains others f ↔ Contains same f)
    → AreDiagnosticsOn names_braces others document errors first
    → AreDiagnosticsOn names_braces same document errors second → second ≡ first
same-diagnostics names_braces others same document [] first second alike f s =
    rule_diagnostics others same alike document first second f s
same-diagnostics names_braces others same document (error ∷ errors) first second alike f s = s.0 ∙ sym f.0
