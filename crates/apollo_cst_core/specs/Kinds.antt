-- Places by the kinds of their elements.
use Rattle.std.specs.List.{list_any}
use Rattle.std.specs.Prelude.{Bool, List}
use Rattle.document_grammar.specs.Numbers.{is_kind}
use Rattle.document_grammar.specs.declared.kind.SyntaxKind.{SyntaxKind}
use Rattle.apollo_tree.specs.Order.{Place, kind_at}

abbrev pub is_of : SyntaxKind → Place → Bool
is_of kind place = is_kind kind (kind_at place)

abbrev pub is_of_one : List SyntaxKind → Place → Bool
is_of_one kinds place = list_any (λ kind. is_of kind place) kinds
