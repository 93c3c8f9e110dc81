use Rattle.std.proofs.Common.{◌∙◌, ap, map, arith}
use Rattle.std.proofs.lemmas.List.{length-map}
use Rattle.apollo_parser.specs.Errors.{error_of}
use Rattle.first_errors.proofs.Firsts.{cut}
use Rattle.first_errors.proofs.definition_errors.first_errors.Goals as goal
use Rattle.first_errors.specs.First.{firsts}
use Rattle.first_errors.specs.Groups.{groups}

pub returns : goal.returns
returns g c = record {
  first = cut error_of c.args.most c.in_ok-found.found.items c.truncate.new.self.items _ c.truncate.ensures.items
      (c.in_ok-found.ensures ∙ ap (λ l. firsts (groups l (map error_of c.args.errors.now)))
      (c.as_slice.ensures.value ∙ c.in_ok-starts.ensures));
  others = omega (
    arith,
    c.saturating_sub-more.ensures,
    c.len.ensures,
    length-map c.args.errors.now error_of,
    length-map c.truncate.new.self.items error_of,
  );
}
