-- What the tree of a parse comes from: the parser's own rules. The promises are theorems on such runs; only the law
-- `one_parse` needs to know that there is one.
use Rattle.std.specs.List.{AllZip}
use Rattle.std.specs.Prelude.{◌≡◌, ◌≤◌, ◌<◌, ◌^◌, ℕ, List, length}
use Rattle.std.specs.Str.{IsUtf8}
use Rattle.lexical_grammar.specs.Answers.{limited}
use Rattle.lexical_grammar.specs.Cut.{Cut}
use Rattle.lexical_grammar.specs.Reads.{items_of}
use Rattle.document_grammar.specs.Forests.{count}
use Rattle.document_grammar.specs.declared.kind.SyntaxKind.{SyntaxKind}
use Rattle.document_grammar.specs.declared.kind.SyntaxKind.TheVariants as kind
use Rattle.parser_rules.specs.Fragments.{started, unopened, left_out, IsTypeRoot, RunsTypeRoot}
use Rattle.parser_rules.specs.Nodes.{Document}
use Rattle.parser_rules.specs.RuleLanguage.{Rule, Call}
use Rattle.parser_rules.specs.Runs.{Runs}
use Rattle.parser_rules.specs.State.{State, begun, finished}
use Rattle.parser_state.specs.Errors.{IsErrorOf}
use Rattle.apollo_parser.specs.Parsed.{Parsed}

-- the document's rule ran over the items of the text, of which k are allowed, with the recursion limit r
pub record ByRules (source : List ℕ) (r k : ℕ) (t : Parsed) : Type 0 where
  pub last : State
  pub cut : Cut source (items_of source)
  pub characters : IsUtf8 source
  pub short : length source < 2 ^ 63
  pub run : Runs (Call Document) (begun (limited k (items_of source)) r kind.DOCUMENT) last
  pub tree : t.tree ≡ finished last
  pub counted : count t.tree < 2 ^ 64
  pub errors : AllZip IsErrorOf last.errors t.errors
  pub recursion_limit : t.recursion_limit ≡ record { current = last.depth; high = last.high; limit = last.limit }
  pub token_limit : t.token_limit ≡ record { current = 0; high = last.asked; limit = k }

-- the rule of a root of this kind ran, where a part of a document is parsed by itself
pub record ByRootRule (root : SyntaxKind) (rule : Rule) (source : List ℕ) (r k : ℕ) (t : Parsed) : Type 0 where
  pub last : State
  pub cut : Cut source (items_of source)
  pub characters : IsUtf8 source
  pub short : length source < 2 ^ 63
  pub run : Runs rule (started (limited k (items_of source)) r root) last
  pub tree : t.tree ≡ finished (left_out last)
  pub counted : count t.tree < 2 ^ 64
  pub errors : AllZip IsErrorOf last.errors t.errors
  pub recursion_limit : t.recursion_limit ≡ record { current = last.depth; high = last.high; limit = last.limit }
  pub token_limit : (t.token_limit.current ≡ 0) × (t.token_limit.limit ≡ k) × (t.token_limit.high ≤ last.asked)

-- the same for a type, whose root is what its first token and a `!` after it say
pub record ByTypeRule (source : List ℕ) (r k : ℕ) (t : Parsed) : Type 0 where
  pub kind : SyntaxKind
  pub rule : Rule
  pub is : IsTypeRoot (unopened (limited k (items_of source)) r) kind rule
  pub root : ByRootRule kind rule source r k t
  pub made : RunsTypeRoot (unopened (limited k (items_of source)) r) root.last
