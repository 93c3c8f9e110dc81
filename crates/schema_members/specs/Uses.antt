-- The names of a member in a document.
use Rattle.std.specs.Prelude.{◌≡◌, ℕ, List, Option, Some, MatchOption, IfSome, option_and_then, option_map, true}
use Rattle.document_grammar.specs.Numbers.{is_kind}
use Rattle.document_grammar.specs.declared.kind.SyntaxKind.TheVariants.{IDENT}
use Rattle.apollo_tree.specs.Order.{Place, kind_at, parent_place, text_at}
use Rattle.validation_names.specs.Sites.{Located, located}
use Rattle.schema_members.specs.Members.{defined_in, name_at}

-- a leaf is an identifier with this text
pub record IsIdentifier (text : List ℕ) (leaf : Place) : Type 0 where
  pub identifier : is_kind IDENT (kind_at leaf) ≡ true
  pub same : text_at leaf ≡ text

-- the member that a leaf defines by its name: the leaf is in a node NAME in the definition, or in the value that this
-- has
abbrev pub defined_by : ℕ → Place → Option Located
defined_by document leaf =
    option_map (located document)
    (option_and_then defined_in (option_and_then parent_place (parent_place leaf)))

-- what is defined is found, and else at most something with this name
abbrev pub IsDefinedOrNamed : Option Located → List ℕ → Option Located → Type 0
IsDefinedOrNamed defined text found =
    MatchOption defined (IfSome found (λ member. name_at member.place ≡ text)) (λ member. found ≡ Some member)
