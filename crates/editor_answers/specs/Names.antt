-- The names in a document, their meanings (GraphQL, October 2021), and where these are defined and used.
use Rattle.std.specs.List.{filter, find}
use Rattle.std.specs.Prelude.{ℕ, List, [], ◌∷◌, Bool, true, false, not, if◌then◌else◌, ◌&&◌, ◌||◌, Option, Some, None}
use Rattle.std.specs.Prelude.{option_and_then, option_map, unwrap_or}
use Rattle.std.specs.Str.{bytes_eq}
use Rattle.document_grammar.specs.declared.kind.SyntaxKind.TheVariants.{DIRECTIVE, DIRECTIVE_DEFINITION}
use Rattle.document_grammar.specs.declared.kind.SyntaxKind.TheVariants.{FRAGMENT_DEFINITION, FRAGMENT_NAME, IDENT}
use Rattle.document_grammar.specs.declared.kind.SyntaxKind.TheVariants.{NAMED_TYPE, OPERATION_DEFINITION, VARIABLE}
use Rattle.document_grammar.specs.declared.kind.SyntaxKind.TheVariants.{VARIABLE_DEFINITION}
use Rattle.apollo_tree.specs.Above.{at_or_above}
use Rattle.apollo_tree.specs.AtOffset.{leaves_at}
use Rattle.apollo_tree.specs.Below.{at_or_below, is_leaf_place}
use Rattle.apollo_tree.specs.Order.{Place, parent_place, text_at}
use Rattle.apollo_cst_core.specs.Kinds.{is_of, is_of_one}
use Rattle.editor_answers.specs.declared.names.Meaning.{Meaning}
use Rattle.editor_answers.specs.declared.names.NameKind.{NameKind}
use Rattle.editor_answers.specs.declared.names.NameKind.TheVariants.{Operation, Fragment, Variable, «Type» as of_type}
use Rattle.editor_answers.specs.declared.names.NameKind.TheVariants.{Directive}
use Rattle.editor_answers.specs.declared.names.TheConstants.{TYPE_DEFINITIONS, TYPE_EXTENSIONS}

-- ---- the meaning of a name

abbrev pub holds : {A : Type 0} → (A → Bool) → Option A → Bool
holds test None = false
holds test (Some x) = test x

-- whether the name in a node has this meaning
abbrev pub names : NameKind → Place → Bool
names Operation node = is_of OPERATION_DEFINITION node
names Fragment node = is_of FRAGMENT_NAME node
names Variable node = is_of VARIABLE node
names of_type node = is_of NAMED_TYPE node || is_of_one TYPE_DEFINITIONS node || is_of_one TYPE_EXTENSIONS node
names Directive node = is_of DIRECTIVE node || is_of DIRECTIVE_DEFINITION node

-- whether the thing is defined there
abbrev pub defines : NameKind → Place → Bool
defines Operation node = is_of OPERATION_DEFINITION node
defines Fragment node = holds (is_of FRAGMENT_DEFINITION) (parent_place node)
defines Variable node = holds (is_of VARIABLE_DEFINITION) (parent_place node)
defines of_type node = is_of_one TYPE_DEFINITIONS node
defines Directive node = is_of DIRECTIVE_DEFINITION node

-- the node in which a leaf is the name: the parent of the node NAME around the leaf
abbrev pub named_by : Place → Option Place
named_by leaf = option_and_then parent_place (parent_place leaf)

abbrev pub kind_in : Place → Option NameKind
kind_in node = find (λ kind. names kind node) (Operation ∷ Fragment ∷ Variable ∷ of_type ∷ Directive ∷ [])

-- what a leaf that is an identifier means, where it is the name of something that a document defines
abbrev pub meaning_at : Place → Option Meaning
meaning_at leaf = option_map (λ kind. record { kind = kind; defines = holds (defines kind) (named_by leaf) })
    (option_and_then kind_in (named_by leaf))

-- the leaf is a name, with this text, of such a thing
abbrev pub is_name : NameKind → List ℕ → Place → Bool
is_name kind text leaf =
    is_leaf_place leaf && (is_of IDENT leaf && (holds (names kind) (named_by leaf) && bytes_eq (text_at leaf) text))

-- the leaf is this name, in the definition of the thing
abbrev pub is_definition : NameKind → List ℕ → Place → Bool
is_definition kind text leaf = is_name kind text leaf && holds (defines kind) (named_by leaf)

-- ---- definitions and uses

-- the identifier that has the byte at an offset, or the byte before it: the first where there are two
abbrev pub identifier_at : Place → ℕ → Option Place
identifier_at root offset = find (is_of IDENT) (leaves_at offset root)

-- whether such names are known in their own document alone
abbrev pub is_local : NameKind → Bool
is_local Operation = true
is_local Variable = true
is_local _ = false

-- the nodes that an element is in
abbrev pub above : Option Place → List Place
above None = []
above (Some parent) = at_or_above parent

-- Where a name has its meaning: a variable's name in the operation that it is in, any other in the whole document.
abbrev pub scope_of : Place → Place → NameKind → Place
scope_of root leaf Operation = root
scope_of root leaf Fragment = root
scope_of root leaf Variable = unwrap_or (find (is_of OPERATION_DEFINITION) (above (parent_place leaf))) root
scope_of root leaf of_type = root
scope_of root leaf Directive = root

-- the name that is looked for: its meaning, its text, and the node in which it has this meaning
pub record Wanted : Type 0 where
  pub kind : NameKind
  pub text : List ℕ
  pub scope : Place

abbrev pub wanted : NameKind → List ℕ → Place → Wanted
wanted kind text scope = record { kind = kind; text = text; scope = scope }

-- the search for a name
abbrev pub wanted_by : Place → Place → Option Wanted
wanted_by root leaf = option_map (λ kind. wanted kind (text_at leaf) (scope_of root leaf kind))
    (option_and_then kind_in (named_by leaf))

-- the search for the name at an offset
abbrev pub wanted_at : Place → ℕ → Option Wanted
wanted_at root offset = option_and_then (wanted_by root) (identifier_at root offset)

-- the search for the name at an offset in another document; those of operations and variables are in none
abbrev pub wanted_in : Place → Wanted → Option Wanted
wanted_in other w = if is_local w.kind then None else Some (wanted w.kind w.text other)

abbrev pub wanted_elsewhere : Place → ℕ → Place → Option Wanted
wanted_elsewhere root offset other = option_and_then (wanted_in other) (wanted_at root offset)

-- the definition that is looked for: the first one in its scope
abbrev pub definition_of : Option Wanted → Option Place
definition_of = option_and_then (λ w. find (is_definition w.kind w.text) (at_or_below w.scope))

abbrev pub definition_in : Place → ℕ → Option Place
definition_in root offset = definition_of (wanted_at root offset)

-- the definition in another document
abbrev pub definition_elsewhere : Place → ℕ → Place → Option Place
definition_elsewhere root offset other = definition_of (wanted_elsewhere root offset other)

-- a use of the name, or a definition where these count too
abbrev pub is_reference : Bool → NameKind → List ℕ → Place → Bool
is_reference with_definition kind text leaf =
    is_name kind text leaf && (with_definition || not (is_definition kind text leaf))

-- the uses that are looked for: all that are in its scope, in their order
abbrev pub references_of : Bool → Option Wanted → List Place
references_of with_definition None = []
references_of with_definition (Some w) = filter (is_reference with_definition w.kind w.text) (at_or_below w.scope)

abbrev pub references_in : Place → ℕ → Bool → List Place
references_in root offset with_definition = references_of with_definition (wanted_at root offset)

-- the uses in another document
abbrev pub references_elsewhere : Place → ℕ → Place → Bool → List Place
references_elsewhere root offset other with_definition =
    references_of with_definition (wanted_elsewhere root offset other)
