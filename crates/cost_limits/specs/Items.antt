-- The items of an operation or a fragment of one of some documents, in the order of the text.
use Rattle.std.specs.List.{list_any}
use Rattle.std.specs.Prelude.{ℕ, suc, ◌+◌, List, [], ◌∷◌, ◌++◌, Bool, true, false, not, ◌&&◌, ◌||◌, if◌then◌else◌}
use Rattle.std.specs.Prelude.{Option, Some, None, bytes_eq, codes}
use Rattle.document_grammar.specs.Forests.{Forest, none, leaf, node, count}
use Rattle.document_grammar.specs.Numbers.{is_kind}
use Rattle.document_grammar.specs.declared.kind.SyntaxKind.TheVariants.{FIELD, ALIAS, DIRECTIVE, FRAGMENT_SPREAD}
use Rattle.document_grammar.specs.declared.kind.SyntaxKind.TheVariants.{FRAGMENT_NAME}
use Rattle.apollo_tree.specs.Order.{Place, tree_at, tree_kids, kind_at, range_at}
use Rattle.apollo_cst_core.specs.Cast.{cast_children, first_of}
use Rattle.validation_names.specs.Mentions.{name_of, name_in}
use Rattle.validation_names.specs.Names.{Name}
use Rattle.validation_names.specs.Sites.{Located, located}
use Rattle.cost_figures.specs.declared.items.Item.{Item}
use Rattle.cost_figures.specs.declared.items.Item.TheVariants.{Field, ResponseName, Alias, Directive, Spread}
use Rattle.cost_figures.specs.declared.items.Span.{Span}
use Rattle.cost_limits.specs.declared.introspection.Introspection.{Introspection}
use Rattle.cost_limits.specs.declared.introspection.Introspection.TheVariants.{Counted, LeftOut}

-- the element with an index
abbrev pub spot : Forest → ℕ → Place
spot whole i = record { whole = whole; index = i }

-- the response name of a field (GraphQL October 2021, section 2.7): its alias, or else its name
abbrev pub response_name : Place → Option Name
response_name p = elim (first_of (cast_children (is_kind ALIAS) p)) [ Some alias ↦ name_of alias | None ↦ name_of p ]

abbrev pub is_among : List Name → Name → Bool
is_among seen s = list_any (λ t. bytes_eq t s) seen

-- whether a response name is not among `seen`; a field without a name, after a syntax error, counts as new
abbrev pub is_new : List Name → Option Name → Bool
is_new seen None = true
is_new seen (Some s) = not (is_among seen s)

abbrev pub with_name : Option Name → List Name → List Name
with_name None seen = seen
with_name (Some s) seen = s ∷ seen

-- the items of a field
abbrev pub field_items : ℕ → Bool → List Item
field_items n new = Field n ∷ (if new then ResponseName n ∷ [] else [])

abbrev pub span_at : Located → Span
span_at s = record { document = s.document; start = (range_at s.place).0; end = (range_at s.place).1 }

-- the items of another node; `number` has the number of the definition of each fragment
abbrev pub other_items : (Option Name → ℕ) → ℕ → Located → List Item
other_items number n s =
    if is_kind ALIAS (kind_at s.place) then Alias ∷ []
    else (if is_kind DIRECTIVE (kind_at s.place) then Directive ∷ []
    else (if is_kind FRAGMENT_SPREAD (kind_at s.place)
    then Spread n (number (name_in FRAGMENT_NAME s.place)) (span_at s) ∷ []
    else []))

-- The items of a node itself. `n` fields of the definition enclose it, and `seen` are the response names of the fields
-- before it in its parent.
abbrev pub items_of : (Option Name → ℕ) → ℕ → List Name → Located → List Item
items_of number n seen s =
    if is_kind FIELD (kind_at s.place)
    then field_items n (is_new seen (response_name s.place))
    else other_items number n s

abbrev pub seen_after : List Name → Place → List Name
seen_after seen p = if is_kind FIELD (kind_at p) then with_name (response_name p) seen else seen

-- how many fields enclose what is below a node
abbrev pub inside : ℕ → Place → ℕ
inside n p = if is_kind FIELD (kind_at p) then n + 1 else n

-- the name of a field that introspects the schema (GraphQL October 2021, section 4.2)
abbrev pub is_introspection : Option Name → Bool
is_introspection None = false
is_introspection (Some name) = bytes_eq name (codes "__schema") || bytes_eq name (codes "__type")

-- Whether a node counts, and what is below it. Only a field that introspects the schema may not.
abbrev pub is_counted : Introspection → Place → Bool
is_counted Counted p = true
is_counted LeftOut p = not (is_kind FIELD (kind_at p) && is_introspection (name_of p))

-- the items of the trees of the document with the number `d`, whose trees are `whole`, from the element `i` on, and of
-- all below them
abbrev pub items_below : Introspection → ℕ → Forest → (Option Name → ℕ) → ℕ → ℕ → List Name → Forest → List Item
items_below introspection d whole number n i seen none = []
items_below introspection d whole number n i seen (leaf k s rest) =
    items_below introspection d whole number n (suc i) seen rest
items_below introspection d whole number n i seen (node k kids rest) =
    if is_counted introspection (spot whole i)
    then items_of number n seen (located d (spot whole i))
    ++ (items_below introspection d whole number (inside n (spot whole i)) (suc i) [] kids
    ++ items_below introspection d whole number n (suc (i + count kids)) (seen_after seen (spot whole i)) rest)
    else items_below introspection d whole number n (suc (i + count kids)) seen rest

-- those of all below a node
abbrev pub items_inside : Introspection → (Option Name → ℕ) → ℕ → Located → List Item
items_inside introspection number n s =
    items_below introspection s.document s.place.whole number n (suc s.place.index) [] (tree_kids (tree_at s.place))

-- those of a definition
abbrev pub definition_items : Introspection → (Option Name → ℕ) → Located → List Item
definition_items introspection number s = items_inside introspection number 0 s
