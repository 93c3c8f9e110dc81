use Rattle.std.proofs.Common.{◌≡◌, List, drop, subst, ◌∙◌, ℕ}
use Rattle.rpc_serving.proofs.NameLemmas.{rest, skipped}
use Rattle.rpc_serving.proofs.frames.FrameBuffer.skip.Goals as goal
use Rattle.rpc_serving.specs.Frames.{AreGarbage}

pub returns : goal.returns
returns c =
    let count = c.max-count.result in
    skipped c.args.self.now c.garbage_len.result count c.in_ok-rest.rest.items c.max-count.ensures
    (subst (λ (b : List ℕ). c.in_ok-rest.rest.items ≡ drop count b) (c.deref.ensures.value ∙ c.self.view_is)
    (c.in_ok-rest.ensures.items ∙ rest _ count))
    (subst (λ (b : List ℕ). AreGarbage b c.garbage_len.result) (c.as_slice.ensures.value ∙ c.self.view_is)
    c.garbage_len.ensures.garbage)
