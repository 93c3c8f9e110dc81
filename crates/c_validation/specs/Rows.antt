-- The rows that say the violations of a document, and the figures of its operations.
use Rattle.std.specs.Int.{from_bool}
use Rattle.std.specs.List.{flat_map}
use Rattle.std.specs.Prelude.{ℕ, ◌+◌, List, [], ◌∷◌, length, is_some, Option, Some, None, option_map}
use Rattle.document_grammar.specs.Numbers.{is_kind}
use Rattle.document_grammar.specs.declared.kind.SyntaxKind.TheVariants.{NAME}
use Rattle.apollo_tree.specs.Order.{Place, range_at}
use Rattle.apollo_cst_core.specs.Cast.{cast_children, first_of}
use Rattle.validation_names.specs.Sites.{Located}
use Rattle.validation_rules.specs.RuleNumbers.{rule_number}
use Rattle.validation_rules.specs.Violations.{Breach}
use Rattle.document_validation.specs.Messages.{message_of}
use Rattle.cost_limits.specs.Measures.{Measure}
use Rattle.c_validation.specs.declared.rows.OperationRow.{OperationRow}
use Rattle.c_validation.specs.declared.rows.ViolationRow.{ViolationRow}

-- the offsets at which a node begins and has ended; two zeros for none
abbrev pub range_of : Option Place → ℕ × ℕ
range_of None = (0, 0)
range_of (Some p) = range_at p

-- ---- violations

-- The messages of violations, one after another.
abbrev pub messages : List Breach → List ℕ
messages breaches = flat_map message_of breaches

-- The row of a violation with these words, where the messages before it have `offset` bytes.
abbrev pub violation_row : ℕ → List ℕ → Breach → ViolationRow
violation_row offset words b = record {
  start = (range_at b.site.place).0;
  end = (range_at b.site.place).1;
  other_start = (range_of (option_map (λ (s : Located). s.place) b.other)).0;
  other_end = (range_of (option_map (λ (s : Located). s.place) b.other)).1;
  message = offset;
  message_length = length words;
  rule = rule_number b.rule;
  has_other = from_bool (is_some b.other);
}

-- The rows of violations, of which the first has its message at the offset.
abbrev pub violation_rows : ℕ → List Breach → List ViolationRow
violation_rows offset [] = []
violation_rows offset (b ∷ bs) =
    violation_row offset (message_of b) b ∷ violation_rows (offset + length (message_of b)) bs

-- ---- operations

-- the offsets at which the name of an operation begins and has ended; two zeros for none
abbrev pub name_range : Place → ℕ × ℕ
name_range p = range_of (first_of (cast_children (is_kind NAME) p))

abbrev pub operation_row : Measure → OperationRow
operation_row m = record {
  start = (range_at m.operation.site.place).0;
  end = (range_at m.operation.site.place).1;
  name_start = (name_range m.operation.site.place).0;
  name_end = (name_range m.operation.site.place).1;
  depth = m.figures.depth;
  fields = m.figures.fields;
  root_fields = m.figures.root_fields;
  aliases = m.figures.aliases;
  directives = m.figures.directives;
  height = m.figures.height;
  distinct_root_fields = m.figures.distinct_root_fields;
}
