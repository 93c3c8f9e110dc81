use Rattle.std.proofs.Common.{◌∙◌, length, ap, sym}
use Rattle.std.proofs.lemmas.List.{length-map}
use Rattle.std.specs.Slice.Iter.{iter_rest}
use Rattle.apollo_parser.specs.Errors.{error_of}
use Rattle.gqlcst_run.proofs.parser.parse.Goals as goal
use Rattle.gqlcst_run.specs.Parsing.{finding_of}

pub returns : goal.returns
returns g c =
    let source = c.within.ensures.source in
    let parsed = c.in_ok-tree.ensures.promise in
    let sound = rw (source, c.within.ensures.recursion_limit, c.within.ensures.token_limit) at parsed.sound in
    let accepts = rw (source, c.within.ensures.recursion_limit, c.within.ensures.token_limit) at parsed.accepts in
    record {
      cut = rw source at parsed.cut;
      reported = rw (source, c.within.ensures.token_limit) at parsed.errors;
      ascii = rw source at parsed.ascii;
      accepted = λ none. record { tree = _; sentence = (sound none).0; within = (sound none).1 };
      accepts = λ a. accepts a.tree a.sentence a.within;
      counted =
          c.finding_of-finding.ensures
          ∙ ap finding_of (c.len.ensures.value ∙ sym (length-map (iter_rest c.errors.result) error_of)
          ∙ ap length c.errors.ensures);
    }
