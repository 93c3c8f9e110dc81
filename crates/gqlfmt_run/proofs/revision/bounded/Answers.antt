use Rattle.std.proofs.Common.{ℕ, List, inl, sym, subst}
use Rattle.formatter.specs.Formatted as format
use Rattle.gqlfmt_run.proofs.revision.bounded.Goals as goal

pub returns-then-stays_within-clause-document : goal.returns-then-stays_within-clause-document
returns-then-stays_within-clause-document g c = λ formatted few short ends.
    let limits = c.args.bounds.limits in
    let same = c.as_str-2.ensures.value in
    record {
      within = inl (record {
        formatted = formatted;
        again = subst (λ (t : List ℕ). format.IsDocument t limits.recursion limits.tokens) same
            (c.stays_within.ensures.yes c.if-stays_within.true c.args.source.now limits.recursion
            (subst (λ (t : List ℕ). format.IsFormatted c.args.source.now limits.recursion limits.tokens t)
            (sym same) formatted));
      });
      short = short;
      ends = ends;
    }
