use Rattle.std.proofs.Common.{◌≡◌, ◌∷◌, ap, ◌∙◌, subst, refl}
use Rattle.lexical_grammar.proofs.Limited.{cut-text}
use Rattle.lexical_grammar.specs.Answers.{answers_text, usize_max, limited}
use Rattle.lexical_grammar.specs.Reads.{items_of}
use Rattle.apollo_lexer.proofs.Law.{answers-are-items}
use Rattle.apollo_lexer.specs.Answers.{answers_left, answer_of}
use Rattle.format_layout.proofs.Counts.{begun-count, ended-count, left-count, written-count}
use Rattle.format_layout.proofs.Lengths.{begun-length, ended-length, left-length, written-length}
use Rattle.format_layout.proofs.Reading.{no-word, token-text, writes-begin, writes-end, writes-on, writes-token}
use Rattle.format_layout.proofs.writer.write.Goals as goal
use Rattle.format_layout.specs.Lengths.{bytes_for_each}

pub loop-item-init : goal.loop-item-init
loop-item-init g c =
    let left : answers_left c.into_iter-item-iterator.result ≡ limited usize_max (items_of c.args.source.now) =
    ap answers_left c.into_iter-item-iterator.ensures.into_iter_gives ∙ c.new-item-items.ensures.answers in
    record {
      writes = writes-begin _ _ _ _ usize_max (items_of c.args.source.now) c.in_ok-with_capacity.ensures.laid
          left c.requires;
      short = begun-length _ _ c.args.source.now (answers_left c.into_iter-item-iterator.result)
          c.in_ok-with_capacity.ensures.empty
          (ap answers_text left ∙ cut-text usize_max c.args.source.now (items_of c.args.source.now)
          c.new-item-items.ensures.cut c.requires);
      few = begun-count _ c.args.source.now (answers_left c.into_iter-item-iterator.result) usize_max
          c.in_ok-with_capacity.ensures.none c.utf8.source left
          c.requires;
      bounds = refl;
    }

pub write-requires : goal.write-requires
write-requires g c =
    let given : answers_left c.loop-item.item-iterator ≡ answer_of c.in-Some.item ∷ answers_left c.next.new.self =
    c.in-Some.ensures.steps.answers in
    token-text _ _ _ _ _ (subst
    (λ item. answers_left c.loop-item.item-iterator ≡ answer_of item ∷ answers_left c.next.new.self) c.in-Ok.is given)
    (answers-are-items c.loop-item.item-iterator)

pub loop-item-preserved-in_ok-check_length : goal.loop-item-preserved-in_ok-check_length
loop-item-preserved-in_ok-check_length g c =
    let given : answers_left c.loop-item.item-iterator ≡ answer_of c.in-Some.item ∷ answers_left c.next.new.self =
    c.in-Some.ensures.steps.answers in
    let token = subst (λ item. answers_left c.loop-item.item-iterator ≡ answer_of item ∷ answers_left c.next.new.self)
    c.in-Ok.is given in
    record {
      writes = writes-token _ _ _ _ _ _ _ _ _ _ _ _ _ _ token c.in_ok-write.ensures.adds c.loop-item.invariant.writes;
      short = written-length (bytes_for_each c.args.bounds.deepest) _ _ _ _ _ _ token
          (rw c.loop-item.invariant.bounds at c.in_ok-write.ensures.short)
          c.loop-item.invariant.short;
      few = written-count _ _ _ c.in-Ok.token.kind _ _ _ token
          (token-text _ _ _ _ _ token (answers-are-items c.loop-item.item-iterator))
          c.in_ok-write.ensures.end c.in_ok-write.ensures.few c.loop-item.invariant.few;
      bounds = c.in_ok-write.ensures.bounds ∙ c.loop-item.invariant.bounds;
    }

pub loop-item-preserved : goal.loop-item-preserved
loop-item-preserved g c =
    let given : answers_left c.loop-item.item-iterator ≡ answer_of c.in-Some.item ∷ answers_left c.next.new.self =
    c.in-Some.ensures.steps.answers in
    let error = subst (λ item. answers_left c.loop-item.item-iterator ≡ answer_of item ∷ answers_left c.next.new.self)
    c.in_default.is given in
    record {
      writes = writes-on _ _ _ _ _ _ _ _ error (no-word _ _ _) c.loop-item.invariant.writes;
      short = left-length (bytes_for_each c.args.bounds.deepest) _ _ _ _ _ error c.loop-item.invariant.short;
      few = left-count _ _ _ _ _ error c.loop-item.invariant.few;
      bounds = c.loop-item.invariant.bounds;
    }

pub returns-clause-same : goal.returns-clause-same
returns-clause-same g c =
    writes-end _ _ _ _ _ _ _ _ _ _ c.in-None.ensures.steps.answers.0 c.loop-item.invariant.writes
    c.in_ok-finish.ensures.keeps c.finish-2.ensures.holds

pub returns-clause-few : goal.returns-clause-few
returns-clause-few g c =
    let laid = c.loop-item.invariant.writes.laid.laid in
    ended-count _ _ _ _ _ (c.finish-2.ensures.few laid.others (c.in_ok-finish.ensures.keeps laid.others laid.laid))
    c.in_ok-finish.ensures.few
    c.loop-item.invariant.few

pub returns-clause-longest : goal.returns-clause-longest
returns-clause-longest g c =
    ended-length _ _ _ _ _ _ c.finish-2.ensures.text c.in_ok-finish.ensures.short c.loop-item.invariant.short
