-- What a parse promises of its result. Each field is a lemma of its name in `proofs/Parses`, for a part of a document
-- in `proofs/RootParses`.
--
-- `items_of source` are the items that the lexer cuts the source into; `cut` says that they are one of its cuts. Of
-- them `max_items` are allowed, the token limit, and `limited` has what the lexer answers then. `max_depth` is the
-- recursion limit.
use Rattle.std.specs.List.{Any, All}
use Rattle.std.specs.List.Sorted.{IsNonDecreasing}
use Rattle.std.specs.Prelude.{◌≡◌, ◌≤◌, ◌<◌, ◌+◌, ◌*◌, ℕ, [], length, min, take, map}
use Rattle.std.specs.Str.{IsAscii}
use Rattle.lexical_grammar.specs.Answers.{limited}
use Rattle.lexical_grammar.specs.Cut.{Cut, texts}
use Rattle.lexical_grammar.specs.Reads.{items_of}
use Rattle.document_grammar.specs.Derivation.{Sort, document, nest}
use Rattle.document_grammar.specs.FirstError.{NotLate, NotEarly, NotEarlyLimit, EndedNodesFit}
use Rattle.document_grammar.specs.Forests.{Forest, none, node, text}
use Rattle.document_grammar.specs.Leaves.{leaves, OneLeafAnItem}
use Rattle.document_grammar.specs.Numbered.{tree_of}
use Rattle.document_grammar.specs.Placed.{bare, Placed}
use Rattle.document_grammar.specs.Recovery.{Rowed}
use Rattle.document_grammar.specs.Sentence.{Sentence, FirstSentence, Within, OnlyDerivation}
use Rattle.document_grammar.specs.Tree.{Tree}
use Rattle.document_grammar.specs.declared.kind.SyntaxKind.TheVariants as kind
use Rattle.parser_rules.specs.Messages.{Text}
use Rattle.apollo_tree.specs.Order.{order}
use Rattle.apollo_parser.specs.ByRules.{ByRules}
use Rattle.apollo_parser.specs.Parsed.{Parsed, IsLimit, IsTokenLimit, IsRecursionLimit, IsLimitWorded, ErrorsOf}
use Rattle.apollo_parser.specs.Parsed.{OfFirst, Recovers}
use Rattle.apollo_parser.specs.Parts.{FirstItems}

-- What `Parser::parse` promises.
pub record Promise (source : Text) (max_depth max_items : ℕ) (t : Parsed) : Type 0 where
  -- ---- the text is a document exactly where there are no errors

  -- the items of which the other fields speak are a cut of the source
  pub cut : Cut source (items_of source)
  -- without errors, the tree without its ignored leaves is the derivation of the text, which is a sentence within both
  -- limits
  pub sound : t.errors ≡ []
      → Sentence source (bare (tree_of t.tree)) document × Within source (bare (tree_of t.tree)) max_depth max_items
  -- a sentence within both limits has no errors
  pub accepts : (u : Tree) → Sentence source u document → Within source u max_depth max_items → t.errors ≡ []
  -- without errors, there is no other derivation, and it nests as deep as `high` says
  pub only_derivation : t.errors ≡ []
      → OnlyDerivation (items_of source) (bare (tree_of t.tree))
      × (t.recursion_limit.high ≡ nest (bare (tree_of t.tree)))
  -- a sentence of the first profile has no errors either, and the tree is its derivation
  pub still_a_sentence : (u : Tree) → FirstSentence source u document → Within source u max_depth max_items
      → (t.errors ≡ []) × (bare (tree_of t.tree) ≡ u)
  -- ---- the tree, also where there are errors

  -- its text is the source, or the source's first items where the token limit is met
  pub lossless : text t.tree ≡ texts (take max_items (items_of source))
  -- it is one DOCUMENT
  pub one_document : (kids : Forest) × (t.tree ≡ node kind.DOCUMENT kids none)
  -- its leaves are, one for one, the items that are allowed
  pub one_leaf : OneLeafAnItem (limited max_items (items_of source)) (leaves t.tree)
  -- there are at most five elements for each item that is read, and the root
  pub elements : length (order t.tree) ≤ 5 * min (length (items_of source)) max_items + 1
  -- without errors, each ignored leaf is where the text fixes it
  pub placed : t.errors ≡ [] → Placed (tree_of t.tree)
  -- ---- the limits

  -- the recursion limit is what was set, and no more than one level above it was tried; each level that was entered was
  -- left
  pub recursion : (t.recursion_limit.current ≡ 0) × (t.recursion_limit.limit ≡ max_depth)
      × (t.recursion_limit.high ≤ max_depth + 1)
  -- with the recursion limit's error, one level more than the limit was tried
  pub limit_met : Any IsRecursionLimit t.errors → max_depth + 1 ≤ t.recursion_limit.high
  -- where more than the limit was tried, there is a limit's error: the recursion limit's, or the token limit's before
  -- it
  pub past_limit : max_depth < t.recursion_limit.high → Any IsLimit t.errors
  -- the greatest depth that was tried covers what the tree nests, also where there are errors
  pub nesting : nest (tree_of t.tree) ≤ t.recursion_limit.high
  -- the token limit is what was set; all items were tried, or one more than is allowed
  pub tokens : (t.token_limit.limit ≡ max_items) × (t.token_limit.high ≡ min (length (items_of source)) (max_items + 1))
  -- ---- the errors

  -- They go along the items: one for each bad text and for the token limit; the grammar's and the recursion limit's at
  -- significant tokens or the end, and none of these after a limit's error. What their messages say is not stated.
  pub errors : ErrorsOf (limited max_items (items_of source)) t.errors
  -- there are at most three for each item that is read, and one more
  pub error_count : length t.errors ≤ 3 * min (length (items_of source)) max_items + 1
  -- a limit's error has a limit's message, and no other error has one
  pub limit_messages : All IsLimitWorded t.errors
  -- the messages of an ASCII text are ASCII
  pub ascii : IsAscii source → All (λ e. IsAscii e.message) t.errors
  -- their indices never fall
  pub in_order : IsNonDecreasing (map (λ e. e.index) t.errors)
  -- ---- the first error

  -- the text before it begins a sentence, unless it is the token limit's
  pub not_late : OfFirst (λ e. ¬ IsTokenLimit e → NotLate document source e.index) t.errors
  -- no sentence starts with the tokens before it, the one there and the next, if it is no limit's
  pub not_early : OfFirst (λ e. ¬ IsLimit e → NotEarly document max_items (items_of source) e.index) t.errors
  -- no sentence that nests within the limit starts with the tokens before it and the one there, if it is the recursion
  -- limit's
  pub not_early_limit : OfFirst (λ e. IsRecursionLimit e → NotEarlyLimit document max_depth (items_of source) e.index)
      t.errors
  -- each node that a significant token in front of it follows fits its row and the rules
  pub ended_nodes_fit : OfFirst (λ e. EndedNodesFit (items_of source) e.index (tree_of t.tree)) t.errors
  -- ---- after errors

  -- each child of a node is a symbol of its row, or an ERROR, SPREAD or ignored leaf
  pub row_symbols : Rowed (tree_of t.tree)
  -- Where no limit is met: each token that was left over has its error, and is a child of the root or of a list, or its
  -- node's only one. Where what follows a child of the root is a document of its own, the later children are its
  -- derivation's, and no error is beyond its first token.
  pub recovers : ¬ Any IsLimit t.errors → Recovers max_depth (items_of source) t
  -- ---- that it is a function

  -- There is no other result: the law `one_parse` says so of any two that keep this promise. What `ByRules` is has no
  -- part in it.
  pub by_rules : ByRules source max_depth max_items t

-- What the parse of a part of a document promises, of a selection set or of a type, which is the `sort`. The text after
-- the part is left.
pub record PartPromise (sort : Sort) (source : Text) (max_depth max_items : ℕ) (t : Parsed) : Type 0 where
  -- ---- a text that is such a part has no errors

  -- the items of which the other fields speak are a cut of the source
  pub cut : Cut source (items_of source)
  -- without errors, the tree's text is a sentence of the sort, and the tree without its ignored leaves is its
  -- derivation; it nests within the limit, and as deep as `high` says
  pub sound : t.errors ≡ []
      → Sentence (text t.tree) (bare (tree_of t.tree)) sort × (nest (bare (tree_of t.tree)) ≤ max_depth)
      × (t.recursion_limit.high ≡ nest (bare (tree_of t.tree)))
  -- a sentence within both limits has no errors, and the tree is its derivation, so it holds every significant token
  pub accepts : (u : Tree) → Sentence source u sort → Within source u max_depth max_items
      → (t.errors ≡ []) × (bare (tree_of t.tree) ≡ u)
  -- ---- the tree, also where there are errors

  -- the source begins with its text
  pub beginning : take (length (text t.tree)) source ≡ text t.tree
  -- its leaves are, one for one, the first of the items that are allowed, and the errors go along these and the next
  -- token
  pub first_items : FirstItems (limited max_items (items_of source)) (leaves t.tree) t.errors
  -- there are at most five elements for each item that is read, and the root
  pub elements : length (order t.tree) ≤ 5 * min (length (items_of source)) max_items + 1
  -- ---- the limits, as those of a document; the last is `≤`, since the rest of the text is not read

  pub recursion : (t.recursion_limit.current ≡ 0) × (t.recursion_limit.limit ≡ max_depth)
      × (t.recursion_limit.high ≤ max_depth + 1)
  pub limit_met : Any IsRecursionLimit t.errors → max_depth + 1 ≤ t.recursion_limit.high
  pub past_limit : max_depth < t.recursion_limit.high → Any IsLimit t.errors
  pub nesting : nest (tree_of t.tree) ≤ t.recursion_limit.high
  pub tokens : (t.token_limit.limit ≡ max_items) × (t.token_limit.high ≤ min (length (items_of source)) (max_items + 1))
  -- ---- the errors, as those of a document

  pub error_count : length t.errors ≤ 3 * min (length (items_of source)) max_items + 1
  pub limit_messages : All IsLimitWorded t.errors
  pub ascii : IsAscii source → All (λ e. IsAscii e.message) t.errors
  pub in_order : IsNonDecreasing (map (λ e. e.index) t.errors)
  -- ---- the first error, and the row of each node, as those of a document

  pub not_late : OfFirst (λ e. ¬ IsTokenLimit e → NotLate sort source e.index) t.errors
  pub not_early : OfFirst (λ e. ¬ IsLimit e → NotEarly sort max_items (items_of source) e.index) t.errors
  pub not_early_limit : OfFirst (λ e. IsRecursionLimit e → NotEarlyLimit sort max_depth (items_of source) e.index)
      t.errors
  pub ended_nodes_fit : OfFirst (λ e. EndedNodesFit (items_of source) e.index (tree_of t.tree)) t.errors
  pub row_symbols : Rowed (tree_of t.tree)
