-- Texts whose formatted text has more bytes than are allowed.
use Rattle.std.proofs.Common.{◌≡◌, ℕ, ◌*◌, ◌<◌, ◌≤◌, List, length, arith}
use Rattle.std.proofs.Math.Nat.{mul-le-mul_left, mul-le-mul_right}
use Rattle.formatter.specs.Lengths.{longest_layout}
use Rattle.formatter.specs.LineEnds.{end_bytes}
use Rattle.formatter.specs.declared.line_ends.LineEnd.{LineEnd}
use Rattle.formatter.specs.declared.line_ends.LineEnd.TheVariants.{Lf, Crlf}
use Rattle.gqlfmt_run.specs.Formatting.{HasLayout, IsTooLong, line_end_of, most_of, nesting_of}
use Rattle.gqlfmt_run.specs.declared.job.Bounds.{Bounds}

some-end : (end : LineEnd) → 1 ≤ length (end_bytes end)
some-end Lf = omega arith
some-end Crlf = omega arith

-- with the line end that is wanted, the formatted text has more
pub ended-too-long : (bounds : Bounds) (source text : List ℕ) (end : LineEnd) (ended most : ℕ)
    → (has : HasLayout bounds.limits source)
    → end ≡ line_end_of bounds.line_endings source → ended ≤ length (end_bytes end) * length text
    → length text ≤ longest_layout (nesting_of bounds.limits source has) (length source)
    → most ≡ most_of bounds.most_output source → most < ended → IsTooLong bounds source
ended-too-long bounds source text end ended most has same short longest is more =
    let times = mul-le-mul_left (length (end_bytes end)) longest in
    record { text = has; few = rw (← same) (omega (arith, short, times, is, more)) }

-- it has more already without line ends
pub text-too-long : (bounds : Bounds) (source : List ℕ) → (has : HasLayout bounds.limits source)
    → most_of bounds.most_output source < longest_layout (nesting_of bounds.limits source has) (length source)
    → IsTooLong bounds source
text-too-long bounds source has few =
    let end = line_end_of bounds.line_endings source in
    let times = mul-le-mul_right (longest_layout (nesting_of bounds.limits source has) (length source))
    (some-end end) in
    record { text = has; few = omega (arith, few, times) }
