-- From sixteen lanes to the bytes at the front that pass a test.
use Rattle.std.proofs.Common.{◌≡◌, ℕ, ◌+◌, ◌-◌, ◌%◌, ◌^◌, ◌<◌, ◌≤◌, cond, eqb, Bool, true, not, List, [], ◌∷◌, map}
use Rattle.std.proofs.Common.{length, take, drop, Fits, w8, refl, sym, ap, ap₂, ◌∙◌, arith, inl, inr, length-take-le}
use Rattle.std.proofs.Common.{length-drop, drop-drop}
use Rattle.std.proofs.lemmas.Bool.{agree_below, agree_below_at, cases_eq, eq-eqb, ne_eqb, cond-true, cond-false}
use Rattle.std.proofs.lemmas.List.{length-map, take-append-drop, take_all}
use Rattle.std.proofs.lemmas.List.Folds.{prefix_len-append}
use Rattle.std.proofs.lemmas.List.Sums.{prefix_len-le-length}
use Rattle.std.proofs.lemmas.Simd.{map-map, mask_l-mod, first_set_mask_l}
use Rattle.std.specs.Int.{w64, trailing_zeros}
use Rattle.std.specs.List.{prefix_len}
use lib.Lanes.{Each1, mask_l, top}

-- two tests that agree on bytes
same-run : (p q : ℕ → Bool) → agree_below p q 256 ≡ true → (v : List ℕ) → Each1 (Fits w8) v
    → prefix_len p v ≡ prefix_len q v
same-run p q agree [] fit = refl
same-run p q agree (b ∷ bs) fit =
    ap₂ (λ t n. cond t (1 + n) 0) (agree_below_at p q 256 b agree fit.0.fits) (same-run p q agree bs fit.1)

-- the first lane that stops is the first byte that fails the test, where f is what a lane is computed to
pub lanes-run : (test : ℕ → Bool) (f : ℕ → ℕ) (v lanes : List ℕ) (n : ℕ) → length v ≡ 16
    → Each1 (Fits w8) v → lanes ≡ map f v
    → n ≡ cond (eqb (mask_l (map (top 7) lanes) % 2 ^ 64) 0) 16
    (trailing_zeros w64 (mask_l (map (top 7) lanes) % 2 ^ 64))
    → agree_below (λ b. not (top 7 (f b))) test 256 ≡ true → n ≡ prefix_len test v
lanes-run test f v lanes n long fit computed found agree =
    let mask : mask_l (map (top 7) lanes) % 2 ^ 64 ≡ mask_l (map (λ b. top 7 (f b)) v) =
    ap (λ l. mask_l l % 2 ^ 64) (ap (map (top 7)) computed ∙ map-map (top 7) f v)
    ∙ mask_l-mod (map (λ b. top 7 (f b)) v) 64 (omega (arith, length-map v (λ b. top 7 (f b)), long)) in
    found ∙ ap (λ m. cond (eqb m 0) 16 (trailing_zeros w64 m)) mask
    ∙ first_set_mask_l (λ b. top 7 (f b)) v 16 long (omega arith)
    ∙ same-run (λ b. not (top 7 (f b))) test agree v fit

-- a run ends within the first n bytes, or goes on after them
run-cut : (test : ℕ → Bool) (bytes : List ℕ) (n : ℕ) → n ≤ length bytes
    → prefix_len test bytes
    ≡ cond (eqb (prefix_len test (take n bytes)) n) (n + prefix_len test (drop n bytes))
    (prefix_len test (take n bytes))
run-cut test bytes n within =
    ap (prefix_len test) (sym (take-append-drop n bytes)) ∙ prefix_len-append test (take n bytes) (drop n bytes)
    ∙ ap (λ l. cond (eqb (prefix_len test (take n bytes)) l) (l + prefix_len test (drop n bytes))
    (prefix_len test (take n bytes)))
    (length-take-le n bytes within)

pub ends-within : (test : ℕ → Bool) (bytes : List ℕ) (n r : ℕ) → n ≤ length bytes → r ≡ prefix_len test (take n bytes)
    → r < n → r ≡ prefix_len test bytes
ends-within test bytes n r within is short =
    elim (cases_eq (prefix_len test (take n bytes)) n) [
      | inl whole ↦ omega (arith, whole, is, short)
      | inr other ↦ is ∙ sym (run-cut test bytes n within ∙ cond-false _ _ _ (ne_eqb _ _ other))
    ]

pub goes-on : (test : ℕ → Bool) (bytes : List ℕ) (n r m : ℕ) → n ≤ length bytes
    → r ≡ prefix_len test (take n bytes) → n ≤ r
    → m ≡ prefix_len test (take (length bytes - n) (drop n bytes)) → n + m ≡ prefix_len test bytes
goes-on test bytes n r m within is full rest =
    let all = take_all (length bytes - n) (drop n bytes) (omega (arith, length-drop n bytes)) in
    elim (cases_eq (prefix_len test (take n bytes)) n) [
      | inl whole ↦ ap (λ k. n + k) (rest ∙ ap (prefix_len test) all)
          ∙ sym (run-cut test bytes n within ∙ cond-true _ _ _ (eq-eqb _ _ whole))
      | inr other ↦
          let few = prefix_len-le-length test (take n bytes) in
          let long = length-take-le n bytes within in
          absurd (other (omega (arith, few, long, is, full)))
    ]

-- the run that is left after n bytes, in a slice of them
abbrev pub RunsOn : (ℕ → Bool) → List ℕ → ℕ → Type 0
RunsOn test bytes n = prefix_len test bytes ≡ n + prefix_len test (drop n bytes)

slice-all : (bytes : List ℕ) (n : ℕ) → take (length bytes - n) (drop n bytes) ≡ drop n bytes
slice-all bytes n = take_all (length bytes - n) (drop n bytes) (omega (arith, length-drop n bytes))

-- a step of a loop over sixteen bytes that all pass
pub sixteen-more : (test : ℕ → Bool) (bytes : List ℕ) (n k : ℕ) → n + 16 ≤ length bytes → RunsOn test bytes n
    → k ≡ prefix_len test (take 16 (take (length bytes - n) (drop n bytes))) → 16 ≤ k → RunsOn test bytes (n + 16)
sixteen-more test bytes n k within so_far is full =
    let rest = drop n bytes in
    let here : k ≡ prefix_len test (take 16 rest) = is ∙ ap (λ l. prefix_len test (take 16 l)) (slice-all bytes n) in
    let on = goes-on test rest 16 k (prefix_len test (take (length rest - 16) (drop 16 rest)))
    (omega (arith, length-drop n bytes)) here full refl in
    let left : prefix_len test (take (length rest - 16) (drop 16 rest)) ≡ prefix_len test (drop (n + 16) bytes) =
    ap (prefix_len test)
    (slice-all rest 16 ∙ drop-drop 16 n bytes) in
    omega (arith, so_far, on, left)

-- the end of the run in the next sixteen
pub sixteen-end : (test : ℕ → Bool) (bytes : List ℕ) (n k : ℕ) → n + 16 ≤ length bytes → RunsOn test bytes n
    → k ≡ prefix_len test (take 16 (take (length bytes - n) (drop n bytes))) → k < 16 → n + k ≡ prefix_len test bytes
sixteen-end test bytes n k within so_far is short =
    let rest = drop n bytes in
    let here : k ≡ prefix_len test (take 16 rest) = is ∙ ap (λ l. prefix_len test (take 16 l)) (slice-all bytes n) in
    let ends = ends-within test rest 16 k (omega (arith, length-drop n bytes)) here short in
    omega (arith, so_far, ends)
