use Rattle.std.proofs.Common.{◌≡◌, ◌^◌, arith}
use Rattle.apollo_lexer.specs.Answers.{answers_left}
use Rattle.c_parsing.proofs.ItemRows.{ends-before, items-written}
use Rattle.c_parsing.proofs.items.lex_into.Goals as goal
use Rattle.c_parsing.specs.Items.{IsLexed, ItemBuffers}

pub write_items-requires : goal.write_items-requires
write_items-requires g c =
    rw (c.with_limit-lexer.ensures.answers, c.new.ensures.items, c.in-Ok.ensures.text)
    (ends-before (2 ^ 32) c.args.token_limit 0 0 c.args.source.now (omega (arith, c.in-Ok.ensures.short)))

pub returns : goal.returns
returns g c =
    let room : ItemBuffers =
    record { items = c.args.items.now; errors = c.args.errors.now; messages = c.args.messages.now } in
    let answers = answers_left c.with_limit-lexer.result in
    let found = c.as_slice-found.result.now in
    let same : found ≡ c.in-Ok-write_items.made.items = c.as_slice-found.ensures.value in
    let is : IsLexed c.args.source.now c.args.token_limit answers found = record {
      utf8 = c.in-Ok.ensures.utf8;
      cut = rw c.in-Ok.ensures.text at c.new.ensures.cut;
      answers_are = rw (c.new.ensures.items, c.in-Ok.ensures.text) at c.with_limit-lexer.ensures.answers;
      errors_are = rw same c.in-Ok-write_items.ensures.errors;
    } in
    items-written c.args.source.now c.args.token_limit room answers found c.write_items.new.rows c.write_found.new.rows
    c.write_found.new.buffer
    c.in-Ok-write_items.count c.in-Some.message_bytes is c.in-Ok-write_items.ensures.rows c.write_found.ensures.rows
    c.write_found.ensures.messages
    c.in-Ok-write_items.ensures.count c.in-Some.ensures.bytes
