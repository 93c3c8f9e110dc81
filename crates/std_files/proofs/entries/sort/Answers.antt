use Rattle.std.proofs.Common.{rules, string_bytes}
use Rattle.std.proofs.lemmas.Cmp.{nat_list_cmp_total}
use Rattle.std.proofs.lemmas.List.MinMax.{ranks_by}
use Rattle.std.proofs.lemmas.List.Sorted.{answers_always}
use Rattle.std_files.proofs.entries.sort.Goals as goal

pub returns : goal.returns
returns g c =
    c.sort_unstable_by.ensures.sorted _ (ranks_by nat_list_cmp_total (λ entry. string_bytes entry.name))
    (answers_always _ _ _ (λ f a r after called. search rules))
