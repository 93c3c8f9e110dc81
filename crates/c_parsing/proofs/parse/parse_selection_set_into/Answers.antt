use Rattle.std.proofs.Common.{◌∙◌}
use Rattle.c_parsing.proofs.Outcomes.{of-its-parse}
use Rattle.c_parsing.proofs.parse.parse_selection_set_into.Goals as goal
use Rattle.c_parsing.specs.Outcomes.{IsSelectionSetParse}

pub returns-in-Ok-parse_selection_set : goal.returns-in-Ok-parse_selection_set
returns-in-Ok-parse_selection_set g c =
    of-its-parse IsSelectionSetParse _ _ _ _ _ _ c.in-Ok-parse_selection_set.tree _ _ _
    (c.within.ensures.source ∙ c.in-Ok.ensures.text)
    c.within.ensures.recursion_limit c.within.ensures.token_limit (record {
      utf8 = rw (c.within.ensures.source, c.in-Ok.ensures.text) c.in-Ok.ensures.utf8;
      promise = c.in-Ok-parse_selection_set.ensures.promise;
      one_selection_set = c.in-Ok-parse_selection_set.ensures.one_selection_set;
    }) (c.write_parse.ensures c.args.source.now)
