use Rattle.std.proofs.Common.{◌++◌, ℕ, List, length, ap, ◌∙◌, append_assoc, refl}
use Rattle.std.specs.Prelude.{codes, decimal}
use Rattle.rpc_serving.proofs.WrittenLemmas.{written}
use Rattle.rpc_serving.proofs.frames.put_frame.Goals as goal
use Rattle.rpc_serving.specs.Frames.{frame_of}

pub returns-clause-bytes : goal.returns-clause-bytes
returns-clause-bytes c =
    let head = c.as_bytes.ensures.value ∙ c.in_ok-head.ensures.ok in
    let first = c.in_ok-extend_from_slice.ensures.items ∙ ap (λ (xs : List ℕ). c.args.bytes.now.items ++ xs) head in
    c.in_ok-extend_from_slice-2.ensures.items ∙ ap (λ (xs : List ℕ). xs ++ c.args.body.now) first
    ∙ append_assoc c.args.bytes.now.items
    (codes "Content-Length: " ++ decimal (length c.args.body.now) ++ codes "\r\n\r\n") c.args.body.now

pub returns-clause-frame : goal.returns-clause-frame
returns-clause-frame c = λ small. written (frame_of c.args.body.now) c.args.body.now small refl
