-- Worked texts: sentences with the nesting of their derivations, near misses that are not, and tokens that start no
-- sentence.
use Rattle.std.proofs.Common.{ℕ, List, [], ◌∷◌, refl}
use Rattle.std.specs.Prelude.{codes}
use Rattle.std.specs.Str.{chars}
use Prim.Native.String.{String}
use Rattle.lexical_grammar.specs.Reads.{items_from}
use Rattle.document_grammar.specs.Beginnings.{Starts}
use Rattle.document_grammar.specs.Booleans.{◌and◌, ◌or◌}
use Rattle.document_grammar.specs.Derivation.{document, selections, type, word, end}
use Rattle.document_grammar.specs.Kinds.{L_PAREN, R_PAREN, L_CURLY, R_CURLY, IDENT, STRING, query_KW, fragment_KW}
use Rattle.document_grammar.specs.Kinds.{on_KW, extend_KW, type_KW, words, DOCUMENT, OPERATION_DEFINITION}
use Rattle.document_grammar.specs.Kinds.{SELECTION_SET, FIELD, NAME, UNION_TYPE_DEFINITION, union_KW, NON_NULL_TYPE}
use Rattle.document_grammar.specs.Kinds.{LIST_TYPE, NAMED_TYPE, L_BRACK, R_BRACK, BANG}
use Rattle.document_grammar.specs.Pattern.{member}
use Rattle.document_grammar.specs.Sentence.{Sentence}
use Rattle.document_grammar.specs.Tree.{Token, leaf, node, none, ◌▸◌}
use Rattle.grammar_machine.proofs.Endings.{spell}
use Rattle.grammar_machine.proofs.Patterns.{label}
use Rattle.grammar_machine.proofs.Worked.{walked, tree_read, is_read, is_refused, refused, AllWorked, NoSentences}
use Rattle.grammar_machine.proofs.Worked.{works, fails, all_work, all_fail, is-sentence, all-worked, no-sentences}
use Rattle.grammar_machine.proofs.generated.Labels.{labels}
use Rattle.grammar_machine.proofs.generated.Samples.{spellings}
use Rattle.grammar_machine.specs.Machine.{holds, is_leaf, at, ends, exit, arcs, has, target, entries, fires, move}
use Rattle.grammar_machine.specs.Machine.{class, first, second}
use Rattle.grammar_machine.specs.Table.{rows, firsts}

-- All that reading computes with, under one name.
unfoldable running : Unit {0}
unfolding ◌and◌ ◌or◌ holds is_leaf at ends exit arcs has target entries fires move class first second rows firsts
    spellings words member label labels walked
    tree_read is_read is_refused works fails all_work all_fail items_from chars
running = tt

-- A selection set with its tree.
braces : Sentence (codes "{a}")
    (node DOCUMENT (node OPERATION_DEFINITION (node SELECTION_SET (leaf L_CURLY (codes "{") ▸ node FIELD
    (node NAME (leaf IDENT (codes "a") ▸ none) ▸ none) ▸ leaf R_CURLY (codes "}") ▸ none) ▸ none) ▸ none)) document
unfolding running
braces = is-sentence document 30 (codes "{a}") refl

union-tree : Sentence (codes "union A")
    (node DOCUMENT (node UNION_TYPE_DEFINITION
    (leaf union_KW (codes "union") ▸ node NAME (leaf IDENT (codes "A") ▸ none) ▸ none) ▸ none)) document
unfolding running
union-tree = is-sentence document 30 (codes "union A") refl

type-tree : Sentence (codes "[A]!")
    (node NON_NULL_TYPE (node LIST_TYPE
    (leaf L_BRACK (codes "[") ▸ node NAMED_TYPE (node NAME (leaf IDENT (codes "A") ▸ none) ▸ none) ▸ leaf R_BRACK
    (codes "]") ▸ none) ▸ leaf BANG (codes "!") ▸ none)) type
unfolding running
type-tree = is-sentence type 30 (codes "[A]!") refl

-- Texts that are sentences, each with the nesting of its derivation.
abbrev documents : List (String × ℕ)
documents =
    ("{a{b}}", 2)
    ∷ ("{a,b}", 1)
    ∷ ("{ a , : b }", 1)
    ∷ ("{ a(b: []) }", 1)
    ∷ ("{ a(b: [1]) }", 2)
    ∷ ("{ a(b: {c: [1 {d: 2}]}) }", 4)
    ∷ ("query Q($a: [Int!] = [1] @d) @e { a(b: $a) { ...F } } fragment F on T { c }", 2)
    ∷ ("{ ... @a { b } }", 2)
    ∷ ("query { Q1 { Q2 { url } } }", 3)
    ∷ ("{ a } #c", 1)
    ∷ ("\"q\" query Q { a }", 1)
    ∷ ("\"f\" , fragment F on T { a }", 1)
    ∷ ("query(\"v\" $v: Int) { a }", 1)
    ∷ ("\"d\" , scalar , S", 0)
    ∷ ("type A implements & B & C", 0)
    ∷ ("union A", 0)
    ∷ ("union SearchResult = Photo | Person | Cat | Dog", 0)
    ∷ ("union A { a }", 1)
    ∷ ("interface I implements J @c { \"d\" a(b: Int = 1): [Int!] ! }", 1)
    ∷ ("enum E { A \"d\" on @a(b: true) }", 0)
    ∷ ("input I { a: Int = -1.5e3 b: S = null }", 0)
    ∷ ("schema @a { query: Q mutation: M }", 0)
    ∷ ("extend schema @a", 0)
    ∷ ("extend scalar S @a extend type A { a: Int } extend enum E @a", 0)
    ∷ ("directive @d(a: Int) repeatable on | FIELD | ENUM_VALUE", 0)
    ∷ []

documents-worked : AllWorked document documents
unfolding running
documents-worked = all-worked document documents refl

abbrev selection_sets : List (String × ℕ)
selection_sets =
    ("{ a }", 1)
    ∷ ("a b { c }", 2)
    ∷ []

selection_sets-worked : AllWorked selections selection_sets
unfolding running
selection_sets-worked = all-worked selections selection_sets refl

abbrev types : List (String × ℕ)
types =
    ("Int", 0)
    ∷ (" [Int!]! ", 1)
    ∷ []

types-worked : AllWorked type types
unfolding running
types-worked = all-worked type types refl

-- Texts that are not sentences.
abbrev no_documents : List String
no_documents =
    ""
    ∷ "{}"
    ∷ "{a"
    ∷ "{a} }"
    ∷ "{ a(b) }"
    ∷ "{ a(b: {c}) }"
    ∷ "type Q { a: [!] }"
    ∷ "type A { a }"
    ∷ "type A {a}"
    ∷ "extend type A @a {a}"
    ∷ "schema"
    ∷ "schema {}"
    ∷ "schema { query: }"
    ∷ "extend schema"
    ∷ "extend schema @a {}"
    ∷ "extend type A"
    ∷ "extend Cat"
    ∷ "fragment on on T { a }"
    ∷ "{ ...on }"
    ∷ "\"d\" {a}"
    ∷ "\"a\" \"b\" scalar S"
    ∷ "\"d\" extend scalar S @a"
    ∷ "query(\"d\") { a }"
    ∷ "query($: Int) { a }"
    ∷ "query($v: [Int] = [$x]) { a }"
    ∷ "input I { a: Int = $x }"
    ∷ "scalar S @a(b: {c: $d})"
    ∷ "enum E { true }"
    ∷ "directive @d on"
    ∷ "directive @d on Field"
    ∷ "{ a(b: 01) }"
    ∷ "{ a(b: \"x"
    ∷ "\"\\uD83D\" scalar S"
    ∷ []

no_documents-refused : NoSentences document no_documents
unfolding running
no_documents-refused = no-sentences document no_documents refl

abbrev no_selection_sets : List String
no_selection_sets =
    ""
    ∷ "{ a } b"
    ∷ []

no_selection_sets-refused : NoSentences selections no_selection_sets
unfolding running
no_selection_sets-refused = no-sentences selections no_selection_sets refl

abbrev no_types : List String
no_types =
    "!"
    ∷ "Int Int"
    ∷ []

no_types-refused : NoSentences type no_types
unfolding running
no_types-refused = no-sentences type no_types refl

-- A token of the kind; a Name that is a keyword; other Names.
abbrev t : ℕ → Token
t child = (child, spell child)

abbrev kw : ℕ → Token
kw child = (IDENT, spell child)

abbrev a : Token
a = (IDENT, codes "a")

abbrev T : Token
T = (IDENT, codes "T")

-- `query("" )` before `{`; `"" {`; `"" fragment on T`; `extend a`; `type T { a }` and the end: these begin no document.
variable-not-started : Starts document
    (word (kw query_KW) ∷ word (t L_PAREN) ∷ word (t STRING) ∷ word (t R_PAREN) ∷ word (t L_CURLY) ∷ []) → ⊥
unfolding running
variable-not-started = refused document 30 (kw query_KW ∷ t L_PAREN ∷ t STRING ∷ []) (t R_PAREN ∷ t L_CURLY ∷ [])
    refl refl

description-not-started : Starts document (word (t STRING) ∷ word (t L_CURLY) ∷ []) → ⊥
unfolding running
description-not-started = refused document 30 [] (t STRING ∷ t L_CURLY ∷ []) refl refl

fragment-on-not-started : Starts document (word (t STRING) ∷ word (kw fragment_KW) ∷ word (kw on_KW) ∷ word T ∷ []) → ⊥
unfolding running
fragment-on-not-started = refused document 30 (t STRING ∷ kw fragment_KW ∷ []) (kw on_KW ∷ T ∷ []) refl refl

extend-name-not-started : Starts document (word (kw extend_KW) ∷ word a ∷ []) → ⊥
unfolding running
extend-name-not-started = refused document 30 [] (kw extend_KW ∷ a ∷ []) refl refl

no-type-not-started : Starts document
    (word (kw type_KW) ∷ word T ∷ word (t L_CURLY) ∷ word a ∷ word (t R_CURLY) ∷ end ∷ []) → ⊥
unfolding running
no-type-not-started = refused document 40 (kw type_KW ∷ T ∷ t L_CURLY ∷ a ∷ []) (t R_CURLY ∷ []) refl refl
