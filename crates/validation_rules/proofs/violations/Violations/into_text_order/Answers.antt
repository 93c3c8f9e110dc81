use Rattle.std.proofs.Common.{rules}
use Rattle.std.proofs.lemmas.List.Sorted.{IsPermutation-map, answers_always}
use Rattle.validation_rules.proofs.TextOrderLemmas.{sorted_breaches, stable_breaches}
use Rattle.validation_rules.proofs.violations.Violations.into_text_order.Goals as goal
use Rattle.validation_rules.specs.TextOrder.{text_key}
use Rattle.validation_rules.specs.Violations.{as_breach}

pub returns : goal.returns
returns c =
    let keys = answers_always _ _ _ (λ f a r g h. search rules) in
    record {
      same = IsPermutation-map as_breach _ _ c.in_ok-sort_by_key.ensures.permutation;
      sorted = sorted_breaches _ (c.in_ok-sort_by_key.ensures.sorted (λ v. text_key (as_breach v)) keys);
      stable = stable_breaches _ _ (c.in_ok-sort_by_key.ensures.stable (λ v. text_key (as_breach v)) keys);
    }
