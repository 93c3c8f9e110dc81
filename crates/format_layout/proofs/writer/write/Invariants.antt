use Rattle.std.proofs.Common.{◌≡◌, ◌+◌, ◌*◌, ◌≤◌, length, string_bytes}
use Rattle.lexical_grammar.specs.Answers.{answers_text}
use Rattle.lexical_grammar.specs.Kept.{Kept}
use Rattle.lexical_grammar.specs.Reads.{items_of}
use Rattle.apollo_lexer.specs.Answers.{answers_left}
use Rattle.format_layout.proofs.Counts.{with_text}
use Rattle.format_layout.proofs.Reading.{Writes, kept_answers}
use Rattle.format_layout.proofs.writer.write.Given as goal
use Rattle.format_layout.specs.Laid.{ended_length}
use Rattle.format_layout.specs.Lengths.{bytes_for_each}

-- the tokens so far are written, in no more bytes and items than there are for theirs, and those that are left are to
-- be
abbrev pub invariant-loop-item : goal.invariant-loop-item
invariant-loop-item g l = record {
  writes : Writes (string_bytes l.writer.layout.text) l.writer.layout.edge l.writer.layout.tokens.value l.writer.lead
      (kept_answers (answers_left l.item-iterator)) (Kept (items_of l.fn.source));
  short : ended_length (string_bytes l.writer.layout.text) l.writer.layout.edge
      + bytes_for_each l.fn.bounds.deepest * length (answers_text (answers_left l.item-iterator))
      ≤ bytes_for_each l.fn.bounds.deepest * length l.fn.source;
  few : l.writer.layout.tokens.value + 2 * with_text (answers_left l.item-iterator) + 2
      ≤ 2 * length (items_of l.fn.source);
  bounds : l.writer.bounds ≡ l.fn.bounds;
}
