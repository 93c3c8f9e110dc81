use Rattle.std.proofs.Common.{◌∙◌, List, ℕ, ap, subst, sym, ltb, max, rules, take}
use Rattle.std.proofs.lemmas.List.Sorted.{IsPartitionPoint-from_clause, IsPartitionedBy-ltb}
use Rattle.line_index.proofs.FirstLineLemmas.{kept}
use Rattle.line_index.proofs.LineLemmas.{numbered-ordered}
use Rattle.line_index.proofs.first_lines.FirstLines.forget_from.Goals as goal
use Rattle.line_index.specs.LineStarts.{AreFirstStarts}

pub returns : goal.returns
returns c = λ old new s same.
    let starts : List ℕ = c.as_slice.result.now in
    let s' : AreFirstStarts old starts =
    subst (AreFirstStarts old) (sym (c.as_slice.ensures.value ∙ c.self.view_is)) s in
    let p = IsPartitionPoint-from_clause (λ y. ltb y c.args.offset) starts c.partition_point-known.result
    c.partition_point-known.ensures.partitioned
    (IsPartitionedBy-ltb (λ y. y) starts c.args.offset (numbered-ordered old starts s'.number))
    (λ a r f k. search rules) in
    kept old new starts c.truncate.new.self.items c.args.offset c.partition_point-known.result s' same p
    (c.truncate.ensures.items ∙ ap (λ (k : ℕ). take k c.self.inside.starts.items) c.max.ensures
    ∙ ap (take (max c.partition_point-known.result 1)) (sym c.as_slice.ensures.value))
