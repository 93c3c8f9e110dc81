use Rattle.std.proofs.Common.{◌≡◌, ℕ, ◌<◌, true}
use Rattle.std.specs.Prelude.{slice_index}
use Rattle.httparse.specs.Grammar.{is_token_byte}
use Rattle.rpc_serving.proofs.garbage.name_len.Given as goal

abbrev pub invariant-loop-i : goal.invariant-loop-i
invariant-loop-i l = (j : ℕ) → j < l.i → is_token_byte (slice_index l.bytes j) ≡ true
