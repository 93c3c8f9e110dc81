-- Derivations: trees whose nodes fit their rows and that keep four rules, on leaves, names, constants and braces
-- (GraphQL October 2021, section 2.2, "Document", and the sections that `Rows` names). Then the nesting of a tree.
use Rattle.std.specs.Prelude.{◌≡◌, ◌≢◌, ℕ, ◌+◌, ◌<◌, max, cond, List, [], ◌∷◌, ◌++◌, ◌⊎◌, IsTrue, IsFalse, codes}
use Rattle.document_grammar.specs.Choices.{Types, Values, is_ignored, is_keyword}
use Rattle.document_grammar.specs.Kinds.{L_CURLY, IDENT, STRING, DOCUMENT, OPERATION_DEFINITION, SELECTION_SET}
use Rattle.document_grammar.specs.Kinds.{FRAGMENT_NAME, DIRECTIVES, VARIABLE_DEFINITION, VARIABLE, DEFAULT_VALUE}
use Rattle.document_grammar.specs.Kinds.{ENUM_VALUE, LIST_VALUE, OBJECT_FIELD, LIST_TYPE, SCHEMA_DEFINITION}
use Rattle.document_grammar.specs.Kinds.{SCALAR_TYPE_DEFINITION, OBJECT_TYPE_DEFINITION, FIELDS_DEFINITION}
use Rattle.document_grammar.specs.Kinds.{FIELD_DEFINITION, INPUT_VALUE_DEFINITION, INTERFACE_TYPE_DEFINITION}
use Rattle.document_grammar.specs.Kinds.{UNION_TYPE_DEFINITION, ENUM_TYPE_DEFINITION, ENUM_VALUES_DEFINITION}
use Rattle.document_grammar.specs.Kinds.{ENUM_VALUE_DEFINITION, INPUT_OBJECT_TYPE_DEFINITION, INPUT_FIELDS_DEFINITION}
use Rattle.document_grammar.specs.Kinds.{SCHEMA_EXTENSION, SCALAR_TYPE_EXTENSION, OBJECT_TYPE_EXTENSION}
use Rattle.document_grammar.specs.Kinds.{INTERFACE_TYPE_EXTENSION, UNION_TYPE_EXTENSION, ENUM_TYPE_EXTENSION}
use Rattle.document_grammar.specs.Kinds.{INPUT_OBJECT_TYPE_EXTENSION, words}
use Rattle.document_grammar.specs.Pattern.{Pattern, Matches, member}
use Rattle.document_grammar.specs.Rows.{Row, bare_selections}
use Rattle.document_grammar.specs.Tree.{Text, Token, Tree, leaf, node, Forest, none, ◌▸◌, root}

-- The kinds of the trees of a list.
abbrev pub kinds : Forest → List ℕ
kinds none = []
kinds (t ▸ f) = root t ∷ kinds f

-- The joined text of the leaves.
abbrev mutual
  pub text : Tree → Text
  text (leaf k x) = x
  text (node k f) = texts f

  pub texts : Forest → Text
  texts none = []
  texts (t ▸ f) = text t ++ texts f

-- The token that a leaf spells, its kind and text: a keyword's leaf spells a Name, as IDENT does.
abbrev pub spelled : ℕ → Text → Token
spelled k x = (cond (is_keyword k) IDENT k, x)

-- The tokens that the leaves spell, in order; ignored leaves spell none.
abbrev mutual
  pub Yield : Tree → List Token
  Yield (leaf k x) = cond (is_ignored k) [] (spelled k x ∷ [])
  Yield (node k f) = Yields f

  pub Yields : Forest → List Token
  Yields none = []
  Yields (t ▸ f) = Yield t ++ Yields f

-- A list pairs the kind with the text.
abbrev pub Listed : List (ℕ × Text) → ℕ → Text → Type 0
Listed [] k x = ⊥
Listed (w ∷ more) k x = ((w.0 ≡ k) × (w.1 ≡ x)) ⊎ Listed more k x

-- Leaf rule: the leaf of a keyword has its word as text. The kinds after STRING are those of keywords, and then those
-- of nodes, which have no word, so no leaf has one. `Sentence`, in which the leaves are a text's tokens, asks that the
-- other leaves have texts of their token kinds.
abbrev pub LeafRule : ℕ → Text → Type 0
LeafRule k x = STRING < k → Listed words k x

abbrev pub on_text : Text
on_text = codes "on"

abbrev pub true_text : Text
true_text = codes "true"

abbrev pub false_text : Text
false_text = codes "false"

abbrev pub null_text : Text
null_text = codes "null"

-- Name rule: the name of a fragment is not `on` (section 2.8), and an enum value is not `true`, `false` or `null`
-- (section 2.9.6).
abbrev pub NameRule : ℕ → Forest → Type 0
NameRule k f =
    (k ≡ FRAGMENT_NAME → texts f ≢ on_text)
    × (k ≡ ENUM_VALUE → (texts f ≢ true_text) × (texts f ≢ false_text) × (texts f ≢ null_text))

-- No VARIABLE is in the tree.
abbrev mutual
  pub NoVariable : Tree → Type 0
  NoVariable (leaf k x) = Unit {0}
  NoVariable (node k f) = (k ≢ VARIABLE) × NoVariables f

  pub NoVariables : Forest → Type 0
  NoVariables none = Unit {0}
  NoVariables (t ▸ f) = NoVariable t × NoVariables f

-- The kinds of nodes whose DIRECTIVES are constant.
abbrev pub HasConstantDirectives : List ℕ
HasConstantDirectives =
    VARIABLE_DEFINITION
    ∷ SCHEMA_DEFINITION
    ∷ SCALAR_TYPE_DEFINITION
    ∷ OBJECT_TYPE_DEFINITION
    ∷ FIELD_DEFINITION
    ∷ INPUT_VALUE_DEFINITION
    ∷ INTERFACE_TYPE_DEFINITION
    ∷ UNION_TYPE_DEFINITION
    ∷ ENUM_TYPE_DEFINITION
    ∷ ENUM_VALUE_DEFINITION
    ∷ INPUT_OBJECT_TYPE_DEFINITION
    ∷ SCHEMA_EXTENSION
    ∷ SCALAR_TYPE_EXTENSION
    ∷ OBJECT_TYPE_EXTENSION
    ∷ INTERFACE_TYPE_EXTENSION
    ∷ UNION_TYPE_EXTENSION
    ∷ ENUM_TYPE_EXTENSION
    ∷ INPUT_OBJECT_TYPE_EXTENSION
    ∷ []

abbrev pub ConstantDirectives : Forest → Type 0
ConstantDirectives none = Unit {0}
ConstantDirectives (t ▸ f) = (root t ≡ DIRECTIVES → NoVariable t) × ConstantDirectives f

-- Constant rule: no VARIABLE is below a DEFAULT_VALUE or below constant DIRECTIVES (`Const` in the standard's grammar,
-- section 2.9).
abbrev pub ConstantRule : ℕ → Forest → Type 0
ConstantRule k f = (k ≡ DEFAULT_VALUE → NoVariables f)
    × (IsTrue (member k HasConstantDirectives) → ConstantDirectives f)

-- The kinds of definitions that may have a block in braces, but the definition of a schema, which always has it.
abbrev pub Braced : List ℕ
Braced =
    OBJECT_TYPE_DEFINITION
    ∷ INTERFACE_TYPE_DEFINITION
    ∷ ENUM_TYPE_DEFINITION
    ∷ INPUT_OBJECT_TYPE_DEFINITION
    ∷ SCHEMA_EXTENSION
    ∷ OBJECT_TYPE_EXTENSION
    ∷ INTERFACE_TYPE_EXTENSION
    ∷ ENUM_TYPE_EXTENSION
    ∷ INPUT_OBJECT_TYPE_EXTENSION
    ∷ []

-- What such a block begins with: its node, or the brace of a schema's extension, whose block is no node of its own.
abbrev pub Blocks : List ℕ
Blocks = FIELDS_DEFINITION ∷ ENUM_VALUES_DEFINITION ∷ INPUT_FIELDS_DEFINITION ∷ L_CURLY ∷ []

-- No child is one of these.
abbrev pub NoBlock : Forest → Type 0
NoBlock none = Unit {0}
NoBlock (t ▸ f) = IsFalse (member (root t) Blocks) × NoBlock f

-- A definition of such a kind without its block.
abbrev pub LacksBlock : Tree → Type 0
LacksBlock (leaf k x) = ⊥
LacksBlock (node k f) = IsTrue (member k Braced) × NoBlock f

-- An operation that is a selection set alone.
abbrev pub StartsWithSelections : Forest → Type 0
StartsWithSelections none = ⊥
StartsWithSelections (t ▸ f) = root t ≡ SELECTION_SET

abbrev pub IsQuery : Tree → Type 0
IsQuery (leaf k x) = ⊥
IsQuery (node k f) = (k ≡ OPERATION_DEFINITION) × StartsWithSelections f

abbrev pub NotBefore : Tree → Forest → Type 0
NotBefore t none = Unit {0}
NotBefore t (u ▸ f) = LacksBlock t → IsQuery u → ⊥

-- Brace rule: a definition that lacks its block is not directly followed by an operation that is a selection set alone
-- (the standard's lookahead restriction `[lookahead ≠ {]` in section 3).
abbrev pub BraceRule : Forest → Type 0
BraceRule none = Unit {0}
BraceRule (t ▸ f) = NotBefore t f × BraceRule f

-- Each node's children match the row of its kind, by a table of rows, and the rules hold.
abbrev mutual
  pub FitsBy : (ℕ → Pattern) → Tree → Type 0
  FitsBy row (leaf k x) = LeafRule k x
  FitsBy row (node k f) =
      Matches (row k) (kinds f) × NameRule k f × ConstantRule k f × (k ≡ DOCUMENT → BraceRule f) × AllFitBy row f

  pub AllFitBy : (ℕ → Pattern) → Forest → Type 0
  AllFitBy row none = Unit {0}
  AllFitBy row (t ▸ f) = FitsBy row t × AllFitBy row f

-- A node that holds what is between the braces of a selection set.
abbrev pub BareBy : (ℕ → Pattern) → Tree → Type 0
BareBy row (leaf k x) = ⊥
BareBy row (node k f) = Matches bare_selections (kinds f) × AllFitBy row f

-- What is parsed: a document, a selection set, or a type.
pub data Sort : Type 0 where
  document : Sort
  selections : Sort
  type : Sort

-- The root is of the sort; a SELECTION_SET as root may lack both braces.
abbrev pub DerivationBy : (ℕ → Pattern) → Tree → Sort → Type 0
DerivationBy row t document = (root t ≡ DOCUMENT) × FitsBy row t
DerivationBy row t selections = (root t ≡ SELECTION_SET) × (FitsBy row t ⊎ BareBy row t)
DerivationBy row t type = IsTrue (member (root t) Types) × FitsBy row t

abbrev pub Fits : Tree → Type 0
Fits t = FitsBy Row t

abbrev pub AllFit : Forest → Type 0
AllFit f = AllFitBy Row f

abbrev pub Derivation : Tree → Sort → Type 0
Derivation t sort = DerivationBy Row t sort

-- The tree is a derivation that spells these tokens.
abbrev pub Spells : List Token → Tree → Sort → Type 0
Spells w t sort = Derivation t sort × (Yield t ≡ w)

-- Whether a node of the kind `k` is counted below a parent of the kind `p`: each SELECTION_SET, each LIST_TYPE, and
-- each value that is a child of a LIST_VALUE or an OBJECT_FIELD.
abbrev pub counts : ℕ → ℕ → ℕ
counts p k =
    cond (member k (SELECTION_SET ∷ LIST_TYPE ∷ [])) 1
    (cond (member p (LIST_VALUE ∷ OBJECT_FIELD ∷ [])) (cond (member k Values) 1 0) 0)

-- The greatest number of counted nodes on a path: below the root; with the root, which counts as a child of a DOCUMENT
-- does.
abbrev mutual
  pub below : Tree → ℕ
  below (leaf k x) = 0
  below (node k f) = belows k f

  pub belows : ℕ → Forest → ℕ
  belows k none = 0
  belows k (t ▸ f) = max (counts k (root t) + below t) (belows k f)

abbrev pub nest : Tree → ℕ
nest t = counts DOCUMENT (root t) + below t

-- A terminal of the grammar in a text: a significant token, or the end.
pub data Terminal : Type 0 where
  word : Token → Terminal
  end : Terminal

-- All significant tokens, and then the end.
abbrev pub terminals : List Token → List Terminal
terminals [] = end ∷ []
terminals (a ∷ w) = word a ∷ terminals w
