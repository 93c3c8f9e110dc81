use Rattle.std.proofs.Common.{◌<◌, inl, inr, refl, arith, string_bytes}
use Rattle.std.proofs.lemmas.Bool.Decides.{nat_tests}
use Rattle.gqlfmt_run.proofs.TooLong.{ended-too-long}
use Rattle.gqlfmt_run.proofs.job.Job.bounded_with_ends.Goals as goal

-- with its line ends it is too long
pub returns-then-len-most_of-clause-document : goal.returns-then-len-most_of-clause-document
returns-then-len-most_of-clause-document g c = λ formatted few short longest.
    let more : c.most_of.result < c.len.result = grind (arith, nat_tests) in
    ended-too-long c.args.self.now.bounds c.args.source.now (string_bytes c.args.text) c.line_end_of-end.result
    c.len.result c.most_of.result
    (inl formatted.document) c.line_end_of-end.ensures (omega (arith, c.len.ensures, c.in_ok-ended.ensures.short))
    (longest formatted.document)
    c.most_of.ensures more

pub returns-then-len-most_of-clause-comments : goal.returns-then-len-most_of-clause-comments
returns-then-len-most_of-clause-comments g c = λ same tokens few short longest.
    let more : c.most_of.result < c.len.result = grind (arith, nat_tests) in
    ended-too-long c.args.self.now.bounds c.args.source.now (string_bytes c.args.text) c.line_end_of-end.result
    c.len.result c.most_of.result
    (inr (record { none = same.only; few = tokens })) c.line_end_of-end.ensures
    (omega (arith, c.len.ensures, c.in_ok-ended.ensures.short)) longest
    c.most_of.ensures more

-- a document's formatted text stays one with other line ends
pub returns-clause-document : goal.returns-clause-document
returns-clause-document g c = λ formatted few short longest.
    let ended = c.in_ok-ended.ensures.lines in
    let layout = formatted.formatted.layout formatted.document.tree formatted.document.sentence in
    let items = c.in_ok-ended.ensures.items _ (record {
      items = layout.sentence.items;
      cut = layout.sentence.cut;
      tokens = layout.sentence.tokens;
      same = refl;
    }) in
    c.bounded.ensures.document
    (rw ended (c.keeps_document.ensures.document c.line_end_of-end.result c.args.source.now (string_bytes c.args.text)
    c.args.self.now.bounds.limits.recursion c.args.self.now.bounds.limits.tokens formatted))
    (omega (arith, items, few))
    (omega arith)
    (rw (ended, ← c.line_end_of-end.ensures)
    (c.keeps_document.ensures.ends c.line_end_of-end.result (string_bytes c.args.text)))

-- and comments alone stay them
pub returns-clause-comments : goal.returns-clause-comments
returns-clause-comments g c = λ same tokens few short longest.
    let ended = c.in_ok-ended.ensures.lines in
    let items = c.in_ok-ended.ensures.items _ same.same in
    c.bounded.ensures.comments
    (rw ended (c.keeps_document.ensures.comments c.line_end_of-end.result c.args.source.now
    (string_bytes c.args.text) same))
    tokens
    (omega (arith, items, few))
    (omega arith)
    (rw (ended, ← c.line_end_of-end.ensures)
    (c.keeps_document.ensures.ends c.line_end_of-end.result (string_bytes c.args.text)))
