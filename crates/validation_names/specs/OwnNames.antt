-- The names of elements.
use Rattle.std.specs.Prelude.{Bool, ◌||◌, if◌then◌else◌, [], Option, Some, None}
use Rattle.document_grammar.specs.Numbers.{is_kind}
use Rattle.document_grammar.specs.declared.kind.SyntaxKind.{SyntaxKind}
use Rattle.document_grammar.specs.declared.kind.SyntaxKind.TheVariants.{ENUM_VALUE, ENUM_VALUE_DEFINITION}
use Rattle.document_grammar.specs.declared.kind.SyntaxKind.TheVariants.{FRAGMENT_DEFINITION, FRAGMENT_NAME}
use Rattle.document_grammar.specs.declared.kind.SyntaxKind.TheVariants.{FRAGMENT_SPREAD, VARIABLE, VARIABLE_DEFINITION}
use Rattle.apollo_tree.specs.Order.{Place, kind_at}
use Rattle.validation_names.specs.Mentions.{name_in, name_of}
use Rattle.validation_names.specs.Names.{Name}

abbrev pub is_about_fragment : SyntaxKind → Bool
is_about_fragment kind = is_kind FRAGMENT_DEFINITION kind || is_kind FRAGMENT_SPREAD kind

-- the name that an element defines or mentions
abbrev pub own_name : Place → Option Name
own_name p =
    if is_about_fragment (kind_at p)
    then name_in FRAGMENT_NAME p
    else (if is_kind VARIABLE_DEFINITION (kind_at p)
    then name_in VARIABLE p
    else (if is_kind ENUM_VALUE_DEFINITION (kind_at p)
    then name_in ENUM_VALUE p
    else name_of p))

-- a name, or nothing where there is none
abbrev pub or_nothing : Option Name → Name
or_nothing (Some name) = name
or_nothing None = []

abbrev pub name_at : Place → Name
name_at p = or_nothing (own_name p)
