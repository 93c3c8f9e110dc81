-- The rows that say the errors of a parse.
use Rattle.std.specs.Int.{from_bool}
use Rattle.std.specs.List.{flat_map}
use Rattle.std.specs.Prelude.{ℕ, ◌+◌, ◌<◌, ◌^◌, List, [], ◌∷◌, length}
use Rattle.apollo_parser.specs.Diagnostics.{Diagnostic, diagnostic_end, is_end_subject, is_limit_subject}
use Rattle.c_parsing.specs.declared.rows.ErrorRow.{ErrorRow}

-- ---- errors

-- The messages of errors, one after another.
abbrev pub messages : List Diagnostic → List ℕ
messages errors = flat_map (λ (e : Diagnostic). e.message) errors

-- The row of an error whose message is at an offset of the messages. `diagnostic_end` is where the text has ended that
-- it is about.
abbrev pub error_row : ℕ → Diagnostic → ErrorRow
error_row offset e = record {
  start = e.index;
  end = diagnostic_end e;
  message = offset;
  message_length = length e.message;
  is_limit = from_bool (is_limit_subject e.subject);
  is_eof = from_bool (is_end_subject e.subject);
}

-- The rows of errors, of which the first has its message at the offset.
abbrev pub error_rows : ℕ → List Diagnostic → List ErrorRow
error_rows offset [] = []
error_rows offset (e ∷ es) = error_row offset e ∷ error_rows (offset + length e.message) es

-- Where the text has ended that an error is about fits a `size_t`.
abbrev pub EndFits : Diagnostic → Type 0
EndFits e = diagnostic_end e < 2 ^ 64
