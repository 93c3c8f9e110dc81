use Rattle.std.proofs.Common.{◌∙◌, arith, ap, length}
use Rattle.c_parsing.proofs.Messages.{text-within}
use Rattle.c_parsing.proofs.Outcomes.{of-its-parse}
use Rattle.c_parsing.proofs.parse.parse_into.Goals as goal
use Rattle.c_parsing.specs.Outcomes.{IsParse}

pub write_parse-requires : goal.write_parse-requires
write_parse-requires g c =
    let whole = text-within c.in-Ok-parse.tree c.in-Ok-parse.ensures.promise in
    omega (arith, whole, c.in-Ok.ensures.short, ap length c.within.ensures.source, ap length c.in-Ok.ensures.text)

pub returns-in-Ok-parse : goal.returns-in-Ok-parse
returns-in-Ok-parse g c =
    of-its-parse IsParse _ _ _ _ _ _ c.in-Ok-parse.tree _ _ _ (c.within.ensures.source ∙ c.in-Ok.ensures.text)
    c.within.ensures.recursion_limit c.within.ensures.token_limit (record {
      utf8 = rw (c.within.ensures.source, c.in-Ok.ensures.text) c.in-Ok.ensures.utf8;
      promise = c.in-Ok-parse.ensures.promise;
    }) (c.write_parse.ensures c.args.source.now)
