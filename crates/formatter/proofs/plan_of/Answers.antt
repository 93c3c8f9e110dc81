use Rattle.std.proofs.Common.{◌≡◌, ◌<◌, length, map, refl, sym, ap, ◌∙◌, arith}
use Rattle.std.proofs.lemmas.Bool.Decides.{nat_tests}
use Rattle.std.proofs.lemmas.List.{length-map, nil_from_length}
use Rattle.apollo_parser.specs.Errors.{error_of}
use Rattle.formatter.proofs.Parses.{is-document, one-nesting, refused}
use Rattle.formatter.proofs.plan_of.Goals as goal

pub returns-then-not-is_empty-clause-refused : goal.returns-then-not-is_empty-clause-refused
returns-then-not-is_empty-clause-refused g c =
    let errors = c.as_slice-errors.result.now in
    let parsed = rw (c.within.ensures.source, c.within.ensures.recursion_limit, c.within.ensures.token_limit) at
    c.in_ok-tree.ensures.promise in
    let are = ap (map error_of) c.as_slice-errors.ensures.value ∙ c.errors.ensures in
    let some : 0 < length errors = grind (arith, nat_tests) in (
      _,
      refused _ _ _ _ _ refl
          (λ none. absurd (omega (arith, some, length-map errors error_of, ap length (are ∙ none)))) parsed,
    )

pub returns-then-not-is_empty-clause-first : goal.returns-then-not-is_empty-clause-first
returns-then-not-is_empty-clause-first g c = record {
  parsed = c.in_ok-tree.tree;
  promise = rw (c.within.ensures.source, c.within.ensures.recursion_limit, c.within.ensures.token_limit) at
      c.in_ok-tree.ensures.promise;
  first = rw (c.root.ensures.place, ap (map error_of) c.as_slice-errors.ensures.value ∙ c.errors.ensures) at
      c.in_ok-first.ensures;
}

pub returns-clause-document : goal.returns-clause-document
returns-clause-document g c =
    let errors = c.as_slice-errors.result.now in
    let parsed = rw (c.within.ensures.source, c.within.ensures.recursion_limit, c.within.ensures.token_limit) at
    c.in_ok-tree.ensures.promise in
    let are = ap (map error_of) c.as_slice-errors.ensures.value ∙ c.errors.ensures in
    let none : length errors ≡ 0 = grind (arith, nat_tests) in
    is-document _ _ _ _ (sym are ∙ ap (map error_of) (nil_from_length errors none)) parsed

pub returns-clause-nesting : goal.returns-clause-nesting
returns-clause-nesting g c =
    let errors = c.as_slice-errors.result.now in
    let parsed = rw (c.within.ensures.source, c.within.ensures.recursion_limit, c.within.ensures.token_limit) at
    c.in_ok-tree.ensures.promise in
    let are = ap (map error_of) c.as_slice-errors.ensures.value ∙ c.errors.ensures in
    let none : length errors ≡ 0 = grind (arith, nat_tests) in
    one-nesting _ _ _ _ _ (sym are ∙ ap (map error_of) (nil_from_length errors none))
    (ap (λ l. l.high) c.recursion_limit-nesting.ensures) parsed
