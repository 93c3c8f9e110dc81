-- What is kept of the directives at one location.
use Rattle.std.specs.Prelude.{◌≡◌, ℕ, Some}
use Rattle.document_grammar.specs.Forests.{Forest}
use Rattle.validation_names.specs.Sites.{located}
use Rattle.type_system.specs.Definitions.{children}
use Rattle.type_system.specs.Tables.{AreFirst}
use Rattle.query_validation.specs.declared.repeats.DirectiveTable.{DirectiveTable}

-- If the table has the number of a list, in a tree of a document, it has the first directive there with each name.
pub record IsTable (document : ℕ) (tree : Forest) (table : DirectiveTable) : Type 0 where
  pub holds : (n : ℕ) → table.list ≡ Some n
      → AreFirst table.first (children (located document (record { whole = tree; index = n })))
