-- A text with another line end has at most as many bytes for each of its own as the line end has.
use Rattle.std.proofs.Common.{◌≡◌, ℕ, ◌+◌, ◌*◌, ◌≤◌, Bool, true, false, cond, List, [], ◌∷◌, ◌++◌, length, sym, ap, ◌∙◌}
use Rattle.std.proofs.Common.{inl, inr, arith, length-append}
use Rattle.std.proofs.Math.Nat.{mul-add}
use Rattle.formatter.proofs.lines.Ends.{byte, turn, turn-is, turn-plain}
use Rattle.formatter.specs.LineEnds.{end_bytes, with_line_end}
use Rattle.formatter.specs.declared.line_ends.LineEnd.{LineEnd}
use Rattle.formatter.specs.declared.line_ends.LineEnd.TheVariants.{Lf, Crlf}

end-length : (end : LineEnd) → 1 ≤ length (end_bytes end)
end-length Lf = omega arith
end-length Crlf = omega arith

feed-length : (end : LineEnd) (cr : Bool) (text : List ℕ)
    → length (cond cr text (end_bytes end ++ text)) ≤ length (end_bytes end) + length text
feed-length end true text = omega arith
feed-length end false text = omega (arith, length-append (end_bytes end) text)

-- the bytes for one more byte
one-more : (each : ℕ) (c : ℕ) (text : List ℕ) → each * length (c ∷ text) ≡ each + each * length text
one-more each c text = let both = mul-add each 1 (length text) in omega (arith, both)

turn-length : (end : LineEnd) (cr : Bool) (text : List ℕ)
    → length (turn end cr text) ≤ length (end_bytes end) * length text
turn-length end cr [] = omega arith
turn-length end cr (c ∷ text) =
    let more = one-more (length (end_bytes end)) c text in
    elim (byte c) [
      | inl e ↦ rw e (omega (arith, more, feed-length end false (turn end true text), turn-length end true text))
      | inr (inl e) ↦ rw e (omega (arith, more, feed-length end cr (turn end false text), turn-length end false text))
      | inr (inr h) ↦
          omega (
            arith,
            more,
            end-length end,
            ap (λ (l : List ℕ). length l) (turn-plain end cr c text h),
            turn-length end false text,
          )
    ]

pub as-long-at-most : (end : LineEnd) (text other : List ℕ) → other ≡ with_line_end end text
    → length other ≤ length (end_bytes end) * length text
as-long-at-most end text other e =
    omega (arith, ap (λ (l : List ℕ). length l) (e ∙ sym (turn-is end text)), turn-length end false text)
