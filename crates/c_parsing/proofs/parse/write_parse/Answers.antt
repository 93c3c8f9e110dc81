use Rattle.std.proofs.Common.{arith, ap, ◌≡◌, ◌∙◌, ◌≤◌, ◌^◌, refl, length, inr}
use Rattle.apollo_parser.specs.Forests.{text}
use Rattle.apollo_parser.specs.Order.{order}
use Rattle.apollo_parser.specs.Parsed.{Parsed}
use Rattle.c_parsing.proofs.Outcomes.{of-no-memory, of-too-long, of-written}
use Rattle.c_parsing.proofs.parse.write_parse.Goals as goal
use Rattle.c_parsing.specs.Outcomes.{Buffers}

pub returns-then-element_count : goal.returns-then-element_count
returns-then-element_count g c = λ source.
    let room : Buffers = record {
      elements = c.args.elements.now;
      errors = c.args.errors.now;
      messages = c.args.messages.now;
    } in
    let many : 2 ^ 28 ≤ length (order c.args.tree.tree) =
    omega (arith, c.if-element_count.true, c.element_count-element_count.ensures) in
    of-too-long (λ (p : Parsed). p ≡ c.args.tree) source room c.refused.result c.refused.ensures
    (inr (c.args.tree, refl, many))

pub returns-in_default : goal.returns-in_default
returns-in_default g c = λ source. of-no-memory _ source _ c.refused-in_default.result c.refused-in_default.ensures

pub returns : goal.returns
returns g c = λ source.
    let room : Buffers = record {
      elements = c.args.elements.now;
      errors = c.args.errors.now;
      messages = c.args.messages.now;
    } in
    let found : c.as_slice-found.result.now ≡ c.args.tree.errors =
    cc (c.as_slice-found.ensures.value, c.errors.ensures) in
    let depth : c.recursion_limit.result.high ≡ c.args.tree.recursion_limit.high = rw c.recursion_limit.ensures refl in
    let bytes : length c.text-text.result.now ≡ length (text c.args.tree.tree) =
    ap length (c.text-text.ensures.text ∙ c.root.ensures.text) in
    let items : c.token_limit.result.high ≡ c.args.tree.token_limit.high = rw c.token_limit.ensures refl in
    of-written source room c.args.tree c.into_compact.new.rows c.write_found.new.rows c.write_found.new.buffer
    c.as_slice-found.result.now
    c.element_count-element_count.result (length c.text-text.result.now) c.in-Some.message_bytes
    c.recursion_limit.result.high c.token_limit.result.high found
    c.into_compact.ensures c.write_found.ensures.rows c.write_found.ensures.messages
    c.element_count-element_count.ensures bytes c.in-Some.ensures.bytes
    depth items
