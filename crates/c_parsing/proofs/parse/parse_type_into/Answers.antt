use Rattle.std.proofs.Common.{◌∙◌}
use Rattle.c_parsing.proofs.Outcomes.{of-its-parse}
use Rattle.c_parsing.proofs.parse.parse_type_into.Goals as goal
use Rattle.c_parsing.specs.Outcomes.{IsTypeParse}

pub returns-in-Ok-parse_type : goal.returns-in-Ok-parse_type
returns-in-Ok-parse_type g c =
    of-its-parse IsTypeParse _ _ _ _ _ _ c.in-Ok-parse_type.tree _ _ _ (c.within.ensures.source ∙ c.in-Ok.ensures.text)
    c.within.ensures.recursion_limit c.within.ensures.token_limit (record {
      utf8 = rw (c.within.ensures.source, c.in-Ok.ensures.text) c.in-Ok.ensures.utf8;
      promise = c.in-Ok-parse_type.ensures.promise;
      one_type = c.in-Ok-parse_type.ensures.one_type;
    }) (c.write_parse.ensures c.args.source.now)
