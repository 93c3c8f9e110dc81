use Rattle.std.proofs.Common.{List, ◌≤◌, arith, length, subst, ℕ}
use Rattle.std.proofs.lemmas.List.{length-drop}
use Rattle.rpc_serving.proofs.NameLemmas.{joined, rest}
use Rattle.rpc_serving.proofs.garbage.garbage_len.Goals as goal
use Rattle.rpc_serving.specs.Frames.{AreGarbage}

pub loop-passed-preserved : goal.loop-passed-preserved
loop-passed-preserved c =
    let same = rest c.args.bytes.now c.loop-passed.passed in (
      joined c.args.bytes.now c.loop-passed.passed c.nameless_len-count.result c.loop-passed.invariant.0
          (subst (λ (x : List ℕ). AreGarbage x c.nameless_len-count.result) same c.nameless_len-count.ensures.garbage),
      omega (
        arith,
        subst (λ (x : List ℕ). c.nameless_len-count.result ≤ length x) same c.nameless_len-count.ensures.within,
        length-drop c.loop-passed.passed c.args.bytes.now,
        c.loop-passed.invariant.1,
      ),
    )
