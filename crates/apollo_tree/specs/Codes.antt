-- A list of trees is stored as its table and its text, and what was built likewise.
use Rattle.std.specs.Coded.{Coded, code_by, coded×, coded_ℕ, coded_list}
use Rattle.std.specs.Prelude.{ℕ, List}
use Rattle.document_grammar.specs.Builds.{Building, built_text}
use Rattle.document_grammar.specs.Forests.{Forest, text}
use Rattle.apollo_tree.specs.ReadBack.{forest-records, built-records}
use Rattle.apollo_tree.specs.Records.{records, built_records, forest, built}
use Rattle.apollo_tree.specs.contracts.record.Record as row
use Rattle.apollo_tree.specs.declared.record.Record.{Record}

abbrev pub table_code : Coded (List Record × List ℕ)
table_code = coded× (coded_list row.the_row.coded) (coded_list coded_ℕ)

abbrev pub forest_code : Coded Forest
forest_code = code_by (List Record × List ℕ) table_code (λ f. (records 0 0 f, text f))
    (λ p. forest p.1 p.0) forest-records

abbrev pub building_code : Coded Building
building_code = code_by (List Record × List ℕ) table_code (λ b. (built_records b, built_text b))
    (λ p. built p.1 p.0) built-records
