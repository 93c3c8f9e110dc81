-- A message that quotes a text has it as a part.
use Rattle.std.proofs.Common.{◌≡◌, ℕ, ◌-◌, List, [], ◌++◌, length, take, drop, sym, ap, ◌∙◌, subst, arith}
use Rattle.std.proofs.Common.{length-append, append_assoc, IsUtf8, IsCharBoundary}
use Rattle.std.proofs.Math.Seq.{drop-append_seam, take-append_seam}
use Rattle.std.proofs.lemmas.Str.{IsCharBoundary-at_seam, IsUtf8-append}
use Rattle.apollo_lexer.specs.Subjects.{part, IsPart}

-- the second of three pieces lies between two offsets of a text
middle-is-part : (a t c m : List ℕ) (start end : ℕ) → m ≡ a ++ t ++ c → start ≡ length a → end ≡ length (a ++ t)
    → IsUtf8 t → IsUtf8 c → IsPart start end m
middle-is-part a t c m start end e s f u v =
    let first = IsCharBoundary-at_seam m a (t ++ c) (e ∙ append_assoc a t c) (IsUtf8-append t c u v) in
    let second = IsCharBoundary-at_seam m (a ++ t) c e v in
    (omega (arith, length-append a t), subst (IsCharBoundary m) (sym s) first, subst (IsCharBoundary m) (sym f) second)

-- and is what lies between them
middle-part : (a t c m : List ℕ) (start end : ℕ) → m ≡ a ++ t ++ c → start ≡ length a → end ≡ length (a ++ t)
    → part start end m ≡ t
middle-part a t c m start end e s f =
    let n : end - start ≡ length t = omega (arith, length-append a t) in
    ap (λ (k : ℕ). take k (drop start m)) n
    ∙ ap (λ (k : ℕ). take (length t) (drop k m)) s
    ∙ ap (λ (x : List ℕ). take (length t) (drop (length a) x)) (e ∙ append_assoc a t c)
    ∙ ap (λ (x : List ℕ). take (length t) x) (drop-append_seam a (t ++ c))
    ∙ take-append_seam t c

pub record Quoted (w o t c m : List ℕ) (start end : ℕ) : Type 0 where
  pub message : m ≡ w ++ o ++ t ++ c
  pub text : part start end m ≡ t
  pub is_part : IsPart start end m

-- a message that is made piece by piece
pub quoted : (w o t c m₀ m₁ m₂ m₃ m₄ : List ℕ) (start end : ℕ) → m₀ ≡ [] → m₁ ≡ m₀ ++ w → m₂ ≡ m₁ ++ o
    → m₃ ≡ m₂ ++ t → m₄ ≡ m₃ ++ c
    → start ≡ length m₂ → end ≡ length m₃ → IsUtf8 t → IsUtf8 c → Quoted w o t c m₄ start end
quoted w o t c m₀ m₁ m₂ m₃ m₄ start end none first second third fourth s f u v =
    let before : m₂ ≡ w ++ o = second ∙ ap (λ (x : List ℕ). x ++ o) (first ∙ ap (λ (x : List ℕ). x ++ w) none) in
    let up_to : m₃ ≡ w ++ o ++ t = third ∙ ap (λ (x : List ℕ). x ++ t) before in
    let all : m₄ ≡ w ++ o ++ t ++ c = fourth ∙ ap (λ (x : List ℕ). x ++ c) up_to in
    let s₂ = s ∙ ap length before in
    let f₂ = f ∙ ap length up_to in
    record {
      message = all;
      text = middle-part (w ++ o) t c m₄ start end all s₂ f₂;
      is_part = middle-is-part (w ++ o) t c m₄ start end all s₂ f₂ u v;
    }
