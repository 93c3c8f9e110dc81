-- The rules of section 5 (GraphQL October 2021) that need the types of a schema, each as a test on one node. What a
-- rule says is broken is judged only where the types are known: below an unknown field, nothing is.
use Rattle.std.specs.Int.Signed.{lt_z}
use Rattle.std.specs.List.{filter, find}
use Rattle.std.specs.Prelude.{ℕ, List, [], ◌∷◌, map, Bool, false, not, ◌&&◌, Option, Some, None, is_some}
use Rattle.std.specs.Prelude.{is_none, if◌then◌else◌, option_map, option_and_then, bytes_eq, codes, pos, negsuc, true}
use Rattle.std.specs.Prelude.{nat_lt}
use Rattle.lexical_grammar.specs.Values.{IntOf}
use Rattle.document_grammar.specs.declared.kind.SyntaxKind.TheVariants.{ARGUMENT, ARGUMENTS, BOOLEAN_VALUE, DIRECTIVE}
use Rattle.document_grammar.specs.declared.kind.SyntaxKind.TheVariants.{ENUM_VALUE, FIELD, INT_VALUE, LIST_VALUE}
use Rattle.document_grammar.specs.declared.kind.SyntaxKind.TheVariants.{NAMED_TYPE, NON_NULL_TYPE, NULL_VALUE}
use Rattle.document_grammar.specs.declared.kind.SyntaxKind.TheVariants.{OBJECT_FIELD, OBJECT_VALUE, SELECTION_SET}
use Rattle.document_grammar.specs.declared.kind.SyntaxKind.TheVariants.{STRING_VALUE, TYPE_CONDITION}
use Rattle.document_grammar.specs.declared.kind.SyntaxKind.TheVariants.{VARIABLE_DEFINITION}
use Rattle.apollo_tree.specs.Children.{child_nodes}
use Rattle.apollo_tree.specs.Order.{Place, parent_place, text_at}
use Rattle.apollo_cst_core.specs.Kinds.{is_of, is_of_one}
use Rattle.validation_names.specs.Mentions.{name_of}
use Rattle.validation_names.specs.Names.{Name}
use Rattle.validation_names.specs.Sites.{Located, located}
use Rattle.type_system.specs.Definitions.{children, item_type, items, named_in}
use Rattle.type_system.specs.Locations.{is_repeatable, location_of, may_be_at}
use Rattle.type_system.specs.Types.{Types, WithArguments, first_named}
use Rattle.type_system.specs.declared.kinds.TheConstants.{TYPE_REFERENCES}
use Rattle.type_system.specs.declared.locations.DirectiveLocation.{DirectiveLocation}
use Rattle.query_validation.specs.Contexts.{Context, Wanted, is_composite, is_enum, is_input_object, is_leaf}
use Rattle.query_validation.specs.Contexts.{type_definition, type_name, type_named_in, type_of}
use Rattle.query_validation.specs.Texts.{owner}
use Rattle.query_validation.specs.declared.rules.QueryRule.{QueryRule}
use Rattle.query_validation.specs.declared.rules.QueryRule.TheVariants as rule
use Rattle.query_validation.specs.declared.rules.TheConstants.{WITH_ARGUMENTS}
use Rattle.query_validation.specs.declared.values.TheConstants.{FLOAT_LITERALS, ID_LITERALS, LITERALS}

-- What a node breaks of a rule: for each breach the definition in the schema that it is about, if there is one.
abbrev pub Abouts : Type 0
Abouts = List (Option Located)

abbrev pub once : Bool → Option Located → Abouts
once broken about = if broken then about ∷ [] else []

-- where a definition is
abbrev pub site_of : Option WithArguments → Option Located
site_of d = option_map (λ (w : WithArguments). w.definition.site) d

-- 5.3.1, "Field Selections": The field is defined on the type. A breach is about the type.
abbrev pub unknown_fields : Types → Context → Context → Place → Abouts
unknown_fields T around inside p =
    once (is_of FIELD p && (is_some around.parent && (is_some (name_of p) && is_none inside.definition)))
    (type_definition T around.parent)

-- 5.3.3, "Leaf Field Selections": A field has selections if its type is an object, an interface or a union, and has
-- none if it is a scalar or an enum. A breach is about the definition of the field; in the second case it is at the
-- selections.
abbrev pub has_selections : Place → Bool
has_selections p = is_some (find (is_of_one (SELECTION_SET ∷ [])) (child_nodes p))

abbrev pub wrong_leaves : Types → Context → Context → Place → Abouts
wrong_leaves T around inside p =
    if is_of FIELD p
    then once (is_composite T (type_of inside.definition) && not (has_selections p)) (site_of inside.definition)
    else once (is_of SELECTION_SET p && is_leaf T (type_of around.definition)) (site_of around.definition)

-- 5.4.1, "Argument Names": The argument is defined. A breach is about the definition of the field or the directive.
abbrev pub lacks_argument : Option WithArguments → Option Name → Bool
lacks_argument None name = false
lacks_argument (Some d) None = false
lacks_argument (Some d) (Some name) = is_none (d.argument_named name)

abbrev pub unknown_arguments : Context → Place → Abouts
unknown_arguments around p =
    once (is_of ARGUMENT p && lacks_argument around.definition (name_of p)) (site_of around.definition)

-- Each required argument is given, and each required field of an input object. A breach is about the one that is
-- lacking.
abbrev pub is_lacking : List Located → Located → Bool
is_lacking given required = is_none (option_and_then (first_named given) (name_of required.place))

abbrev pub lacking : Option WithArguments → List Located → List Located
lacking None given = []
lacking (Some d) given = filter (is_lacking given) d.required

-- what a field or a directive is given, or an input object
abbrev pub given : Located → List Located
given site = if is_of OBJECT_VALUE site.place then children site else items ARGUMENTS site

abbrev pub missing : Context → Located → Abouts
missing inside site = map Some (lacking inside.definition (given site))

-- 5.4.2.1, "Required Arguments"
abbrev pub missing_arguments : Context → Located → Abouts
missing_arguments inside site = if is_of_one WITH_ARGUMENTS site.place then missing inside site else []

-- 5.5.1.2, "Fragment Spread Type Existence", and the same of variables (5.8.2): The type is defined.
abbrev pub is_unknown_type : Types → Option Name → Bool
is_unknown_type T None = false
is_unknown_type T (Some name) = is_none (T.type_named name)

abbrev pub unknown_types : Types → Place → Abouts
unknown_types T p = once (is_of NAMED_TYPE p && is_unknown_type T (name_of p)) None

-- 5.5.1.3, "Fragments on Composite Types": The type in the condition of a fragment is an object, an interface or a
-- union. A breach is about the type.
abbrev pub is_condition : Option Place → Bool
is_condition None = false
is_condition (Some p) = is_of TYPE_CONDITION p

abbrev pub is_not_composite : Types → Option ℕ → Bool
is_not_composite T number = is_some (type_definition T number) && not (is_composite T number)

abbrev pub wrong_conditions : Types → Place → Abouts
wrong_conditions T p =
    once (is_of NAMED_TYPE p && (is_condition (parent_place p) && is_not_composite T (type_named_in T (name_of p))))
    (type_definition T (type_named_in T (name_of p)))

-- what a directive is on, as its location: the parent of the directive is the list of all directives there
abbrev pub location_at : Place → Option DirectiveLocation
location_at p = option_and_then location_of (owner p)

abbrev pub is_not_for : Option DirectiveLocation → WithArguments → Bool
is_not_for None d = false
is_not_for (Some location) d = not (may_be_at location d.definition.site.place)

-- 5.7.1, "Directives Are Defined"; and 5.7.2, "Directives Are in Valid Locations": The definition of the directive
-- lists the location. A breach of the second is about the definition.
abbrev pub is_wrong_directive : Option WithArguments → Place → Bool
is_wrong_directive None p = is_some (name_of p)
is_wrong_directive (Some d) p = is_not_for (location_at p) d

abbrev pub wrong_directives : Context → Place → Abouts
wrong_directives inside p =
    once (is_of DIRECTIVE p && is_wrong_directive inside.definition p) (site_of inside.definition)

-- 5.7.3, "Directives Are Unique per Location": A directive that is not repeatable is there once. A breach is at each
-- further one, and about the definition.

-- the directives at the same location: the parent of a directive is their list
abbrev pub list_around : Located → Option Located
list_around site = option_map (located site.document) (parent_place site.place)

abbrev pub all_in : Option Located → List Located
all_in None = []
all_in (Some list) = children list

-- the first of them with the same name
abbrev pub first_use : Located → Option Located
first_use site = option_and_then (first_named (all_in (list_around site))) (name_of site.place)

abbrev pub comes_before : Option Located → Place → Bool
comes_before None p = false
comes_before (Some other) p = nat_lt other.place.index p.index

abbrev pub is_used_once : Option WithArguments → Bool
is_used_once None = false
is_used_once (Some d) = not (is_repeatable d.definition.site.place)

abbrev pub is_repeat : Context → Located → Bool
is_repeat inside site =
    is_of DIRECTIVE site.place && (is_used_once inside.definition && comes_before (first_use site) site.place)

abbrev pub repeated_directives : Context → Located → Abouts
repeated_directives inside site = once (is_repeat inside site) (site_of inside.definition)

-- 5.8.2, "Variables Are Input Types": The type of a variable is a scalar, an enum or an input object. A breach is at
-- the reference to the type, and about the type.
abbrev pub is_variable : Option Place → Bool
is_variable None = false
is_variable (Some p) = is_of VARIABLE_DEFINITION p

abbrev pub wrong_variables : Types → Place → Abouts
wrong_variables T p =
    once
    (is_of_one TYPE_REFERENCES p
    && (is_variable (parent_place p) && is_composite T (type_named_in T (named_in p))))
    (type_definition T (type_named_in T (named_in p)))

-- ---- 5.6.1, "Values of Correct Type": A literal is of the type that is wanted. A breach is about the argument or the
-- input field.

-- 3.5.1: An integer is not less than -2^31, and less than 2^31.
abbrev pub is_32_bits : List ℕ → Bool
is_32_bits text = not (lt_z (IntOf text) (negsuc 2147483647)) && lt_z (IntOf text) (pos 2147483648)

-- 3.5.1 to 3.5.5: the literals of a scalar; a scalar of the schema's own takes each literal (3.5.6)
abbrev pub is_of_scalar : Option Name → Place → Bool
is_of_scalar None p = true
is_of_scalar (Some name) p =
    if bytes_eq name (codes "Int")
    then is_of INT_VALUE p && is_32_bits (text_at p)
    else (if bytes_eq name (codes "Float")
    then is_of_one FLOAT_LITERALS p
    else (if bytes_eq name (codes "String")
    then is_of STRING_VALUE p
    else (if bytes_eq name (codes "Boolean")
    then is_of BOOLEAN_VALUE p
    else (if bytes_eq name (codes "ID") then is_of_one ID_LITERALS p else true))))

-- 3.9: one of the enum's values
abbrev pub is_value : Types → Option ℕ → Place → Bool
is_value T number p =
    is_of ENUM_VALUE p && is_some (option_and_then (λ n. option_and_then (T.value_named n) (name_of p)) number)

-- by the named type, which is an input type
abbrev pub is_of_named : Types → Option ℕ → Place → Bool
is_of_named T number p =
    if is_enum T number
    then is_value T number p
    else (if is_input_object T number
    then is_of OBJECT_VALUE p
    else is_of_scalar (type_name T number) p)

-- `null` is of each type that is not non-null. A list is of each list's type; each of its items is judged by itself.
-- Another literal where a list is wanted is a list with one item (3.11).
abbrev pub is_of_type : Types → Wanted → Place → Bool
is_of_type T w p =
    if is_of NULL_VALUE p
    then not (is_of NON_NULL_TYPE w.reference)
    else (if is_of LIST_VALUE p && is_some (item_type w.reference) then true else is_of_named T w.type p)

abbrev pub wrong_literal : Types → Option Wanted → Place → Abouts
wrong_literal T None p = []
wrong_literal T (Some w) p = once (not (is_of_type T w p)) w.definition

-- 5.6.2, "Input Object Field Names": The field is defined. A breach is about the input object.
abbrev pub unknown_input_fields : Context → Place → Abouts
unknown_input_fields around p = once (lacks_argument around.definition (name_of p)) (site_of around.definition)

abbrev pub wrong_value : Types → Context → Place → Abouts
wrong_value T around p =
    if is_of OBJECT_FIELD p
    then unknown_input_fields around p
    else (if is_of_one LITERALS p then wrong_literal T around.wanted p else [])

-- 5.6.4, "Input Object Required Fields": an input object is given each field that has to be given
abbrev pub is_given_fields : Context → Place → Bool
is_given_fields inside p = is_of OBJECT_VALUE p && is_some inside.definition

abbrev pub wrong_values : Types → Context → Context → Located → Abouts
wrong_values T around inside site =
    if is_given_fields inside site.place then missing inside site else wrong_value T around site.place

-- what a node breaks of a rule, by the contexts around it and inside it
abbrev pub broken_by : Types → QueryRule → Context → Context → Located → Abouts
broken_by T rule.FieldsOnCorrectType around inside site = unknown_fields T around inside site.place
broken_by T rule.ScalarLeafs around inside site = wrong_leaves T around inside site.place
broken_by T rule.KnownArgumentNames around inside site = unknown_arguments around site.place
broken_by T rule.ProvidedRequiredArguments around inside site = missing_arguments inside site
broken_by T rule.ValuesOfCorrectType around inside site = wrong_values T around inside site
broken_by T rule.KnownTypeNames around inside site = unknown_types T site.place
broken_by T rule.FragmentsOnCompositeTypes around inside site = wrong_conditions T site.place
broken_by T rule.KnownDirectives around inside site = wrong_directives inside site.place
broken_by T rule.UniqueDirectivesPerLocation around inside site = repeated_directives inside site
broken_by T rule.VariablesAreInputTypes around inside site = wrong_variables T site.place
