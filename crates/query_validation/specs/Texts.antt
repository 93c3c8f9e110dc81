-- Names and types as messages have them.
use Rattle.std.specs.List.{flat_map}
use Rattle.std.specs.Prelude.{ℕ, List, [], Option, Some, None, option_and_then, if◌then◌else◌}
use Rattle.apollo_tree.specs.Below.{at_or_below}
use Rattle.apollo_tree.specs.Order.{Place, parent_place, text_at}
use Rattle.apollo_cst_core.specs.Kinds.{is_of_one}
use Rattle.validation_names.specs.Names.{Name}
use Rattle.validation_names.specs.OwnNames.{or_nothing, own_name}
use Rattle.validation_names.specs.Sites.{Located}
use Rattle.type_system.specs.Definitions.{type_reference}
use Rattle.type_system.specs.Types.{Types}
use Rattle.query_validation.specs.Contexts.{around, type_definition}
use Rattle.query_validation.specs.declared.texts.TheConstants.{TYPE_TOKENS}

abbrev pub Text : Type 0
Text = List ℕ

-- ---- names

-- the name of a definition, if there is one
abbrev pub defined_name : Option Located → Name
defined_name d = or_nothing (option_and_then (λ (s : Located). own_name s.place) d)

-- the parent of a node, and the node that is two above it: for example the field with an argument
abbrev pub name_of_parent : Place → Name
name_of_parent p = or_nothing (option_and_then own_name (parent_place p))

abbrev pub owner : Place → Option Place
owner p = option_and_then parent_place (parent_place p)

-- the name of the type from which a field is selected
abbrev pub parent_type : Types → Place → Name
parent_type T field = defined_name (type_definition T (around T field).parent)

-- ---- types

-- 2.11: A reference to a type, without spaces: `[Dog!]!`.
abbrev pub type_token : Place → Text
type_token p = if is_of_one TYPE_TOKENS p then text_at p else []

abbrev pub type_text : Place → Text
type_text reference = flat_map type_token (at_or_below reference)

abbrev pub text_of_reference : Option Place → Text
text_of_reference None = []
text_of_reference (Some reference) = type_text reference

-- the type of a definition
abbrev pub type_of_definition : Option Located → Text
type_of_definition d = text_of_reference (option_and_then (λ (s : Located). type_reference s.place) d)
