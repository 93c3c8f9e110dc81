-- Braces of a document that are never closed, although a definition begins behind them.
use Rattle.std.specs.List.{filter, list_any}
use Rattle.std.specs.Prelude.{ℕ, ◌-◌, Bool, false, true, ◌&&◌, if◌then◌else◌, List, [], ◌∷◌, drop, find, fold, nat_lt}
use Rattle.std.specs.Prelude.{slice_index, Option, option_map, bytes_eq, codes}
use Rattle.lexical_grammar.specs.Characters.{is_line_terminator}
use Rattle.apollo_tree.specs.Below.{at_or_below, is_leaf_place}
use Rattle.apollo_tree.specs.Order.{Place, range_at, text_at}
use Rattle.editor_validation.specs.declared.braces.OpenBrace.{OpenBrace}

-- the keywords with which definitions begin (GraphQL, October 2021, section 2.2)
abbrev pub keywords : List (List ℕ)
keywords =
    codes "query" ∷ codes "mutation" ∷ codes "subscription" ∷ codes "fragment" ∷ codes "schema" ∷ codes "scalar"
    ∷ codes "type" ∷ codes "interface"
    ∷ codes "union" ∷ codes "enum" ∷ codes "input" ∷ codes "directive" ∷ codes "extend" ∷ []

abbrev pub is_keyword : List ℕ → Bool
is_keyword word = list_any (bytes_eq word) keywords

-- a line ends in front of an offset
abbrev pub begins_line : List ℕ → ℕ → Bool
begins_line text offset = is_line_terminator (slice_index text (offset - 1))

-- a leaf that begins a line of the text with such a keyword
abbrev pub begins_definition : List ℕ → Place → Bool
begins_definition text leaf = begins_line text (range_at leaf).0 && is_keyword (text_at leaf)

-- the innermost brace has a definition right inside it
abbrev pub with_definition : List OpenBrace → List OpenBrace
with_definition [] = []
with_definition (brace ∷ braces) = record brace { has_definition = true } ∷ braces

-- the braces that are open after a leaf, the innermost first
abbrev pub open_after : List ℕ → List OpenBrace → Place → List OpenBrace
open_after text braces leaf =
    if bytes_eq (text_at leaf) (codes "{") then record { start = (range_at leaf).0; has_definition = false } ∷ braces
    else (if bytes_eq (text_at leaf) (codes "}") then drop 1 braces
    else (if begins_definition text leaf then with_definition braces else braces))

-- the braces that are never closed
abbrev pub never_closed : Place → List OpenBrace
never_closed document = fold (open_after (text_at document)) [] (filter is_leaf_place (at_or_below document))

-- a brace in front of an error, with a definition right inside it
abbrev pub explains : ℕ → OpenBrace → Bool
explains error brace = brace.has_definition && nat_lt brace.start error

-- where the innermost of them begins that explains an error
abbrev pub open_brace : Place → ℕ → Option ℕ
open_brace document error =
    option_map (λ (brace : OpenBrace). brace.start) (find (explains error) (never_closed document))
