-- The table of the directives at one location.
use Rattle.std.proofs.Common.{◌≡◌, ℕ, Some, None, sym, ◌∙◌, subst}
use Rattle.std.proofs.lemmas.Option.{none-some, same_Some}
use Rattle.document_grammar.specs.Forests.{Forest}
use Rattle.validation_names.specs.Sites.{located}
use Rattle.type_system.specs.Definitions.{children}
use Rattle.type_system.specs.Tables.{AreFirst}
use Rattle.query_validation.specs.Repeats.{IsTable}
use Rattle.query_validation.specs.declared.repeats.DirectiveTable.{DirectiveTable}

pub no_table : (document : ℕ) (tree : Forest) (table : DirectiveTable) → table.list ≡ None → IsTable document tree table
no_table document tree table none = record { holds = λ n is. absurd (none-some n (sym none ∙ is)) }

pub table_of :
    (document : ℕ) (tree : Forest) (table : DirectiveTable) (index : ℕ) → table.list ≡ Some index
    → AreFirst table.first (children (located document (record { whole = tree; index = index })))
    → IsTable document tree table
table_of document tree table index list first = record {
  holds = λ n is.
      subst
      (λ (i : ℕ). AreFirst table.first (children (located document (record { whole = tree; index = i }))))
      (same_Some index n (sym list ∙ is)) first;
}
