-- The names that nodes mention: fragments that are spread, and variables that are declared or used.
use Rattle.std.specs.List.{filter_map}
use Rattle.std.specs.Prelude.{List, Bool, false, not, ◌&&◌, if◌then◌else◌, map, Option, Some, None, option_map}
use Rattle.std.specs.Prelude.{option_and_then}
use Rattle.document_grammar.specs.Numbers.{is_kind}
use Rattle.document_grammar.specs.declared.kind.SyntaxKind.{SyntaxKind}
use Rattle.document_grammar.specs.declared.kind.SyntaxKind.TheVariants.{NAME, VARIABLE, VARIABLE_DEFINITION}
use Rattle.document_grammar.specs.declared.kind.SyntaxKind.TheVariants.{FRAGMENT_NAME, FRAGMENT_SPREAD}
use Rattle.apollo_tree.specs.Order.{Place, kind_at, text_at, parent_place}
use Rattle.apollo_cst_core.specs.Cast.{cast_children, first_of}
use Rattle.validation_names.specs.Names.{Name}
use Rattle.validation_names.specs.Sites.{Located, as_located, located, nodes}
use Rattle.validation_names.specs.declared.name_mentions.Mention.{Mention}
use Rattle.validation_names.specs.declared.name_mentions.MentionKind.{MentionKind}
use Rattle.validation_names.specs.declared.name_mentions.MentionKind.TheVariants.{Spread, Declared, Used}

-- a node with a name
pub record Named : Type 0 where
  pub site : Located
  pub name : Name

abbrev pub as_named : Mention → Named
as_named m = record { site = as_located m.site; name = m.name.now }

-- the text of the name that a node has as a child
abbrev pub name_of : Place → Option Name
name_of p = option_map text_at (first_of (cast_children (is_kind NAME) p))

-- the name in a node's child of a kind
abbrev pub name_in : SyntaxKind → Place → Option Name
name_in kind p = option_and_then name_of (first_of (cast_children (is_kind kind) p))

-- whether a variable is the one that its definition declares
abbrev pub is_declared : Option Place → Bool
is_declared None = false
is_declared (Some parent) = is_kind VARIABLE_DEFINITION (kind_at parent)

-- The name that a node mentions: the fragment that it spreads, the variable that it declares, or the variable that it
-- uses.
abbrev pub mentioned_name : MentionKind → Place → Option Name
mentioned_name Spread p = if is_kind FRAGMENT_SPREAD (kind_at p) then name_in FRAGMENT_NAME p else None
mentioned_name Declared p = if is_kind VARIABLE_DEFINITION (kind_at p) then name_in VARIABLE p else None
mentioned_name Used p = if is_kind VARIABLE (kind_at p) && not (is_declared (parent_place p)) then name_of p else None

abbrev pub mentioned : MentionKind → Located → Option Named
mentioned kind site = option_map (λ name. record { site = site; name = name }) (mentioned_name kind site.place)

-- all of them at a node and below it, in the order of the text
abbrev pub mentions : MentionKind → Located → List Named
mentions kind site = filter_map (mentioned kind) (map (located site.document) (nodes site.place))
