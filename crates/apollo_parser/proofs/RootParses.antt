-- What follows from a run of a root's rule over the items of a text, and so what the parse of a part of a document
-- promises.
use Rattle.std.proofs.Common.{◌≡◌, ◌≢◌, ℕ, ◌+◌, ◌*◌, ◌^◌, ◌<◌, ◌≤◌, arith, min, None, List, [], ◌∷◌, ◌++◌, length, map}
use Rattle.std.proofs.Common.{take, drop, refl, sym, ap, ◌∙◌, subst, append_assoc, append-nil}
use Rattle.std.proofs.Math.Seq.{take-append_seam}
use Rattle.std.proofs.lemmas.List.{take-append-drop}
use Rattle.std.specs.List.{Any, All}
use Rattle.std.specs.List.Sorted.{IsNonDecreasing}
use Rattle.std.specs.Str.{IsAscii, IsUtf8}
use Rattle.lexical_grammar.proofs.Cuts.{texts-append}
use Rattle.lexical_grammar.proofs.Limited.{limited-text}
use Rattle.lexical_grammar.specs.Answers.{Answer, gives, limit_at, answer_text, answers_text}
use Rattle.lexical_grammar.specs.Cut.{Cut, texts}
use Rattle.lexical_grammar.specs.Reads.{items_of}
use Rattle.document_grammar.specs.Derivation.{Sort, nest}
use Rattle.document_grammar.specs.FirstError.{NotLate, NotEarly, NotEarlyLimit, EndedNodesFit}
use Rattle.document_grammar.specs.Forests.{Forest, none, node, text, count}
use Rattle.document_grammar.specs.Leaves.{Leaf, leaves, OneLeafAnItem}
use Rattle.document_grammar.specs.Numbered.{tree_of}
use Rattle.document_grammar.specs.Numbers.{number}
use Rattle.document_grammar.specs.Placed.{bare}
use Rattle.document_grammar.specs.Recovery.{Rowed}
use Rattle.document_grammar.specs.Sentence.{Sentence, Within}
use Rattle.document_grammar.specs.Tree.{Tree}
use Rattle.document_grammar.specs.declared.kind.SyntaxKind.{SyntaxKind}
use Rattle.parser_rules.proofs.fragments.OneFront.{OneFront, one-front as run-front}
use Rattle.parser_rules.proofs.fragments.PartTexts.{IsSoundPart}
use Rattle.parser_rules.proofs.fragments.RootChecks.{RootRule}
use Rattle.parser_rules.proofs.fragments.RootRuns.{root-above, levels-left, all-asked, limit-passed, ordered-front}
use Rattle.parser_rules.proofs.leaves.AllAnswers.{leaves-go-on}
use Rattle.parser_rules.proofs.leaves.OneLeaf as run_leaves
use Rattle.parser_rules.proofs.leaves.OneLeaf.{root-leaves, joined, text-leaves}
use Rattle.parser_rules.proofs.nesting.LevelTokens.{root-levels-within}
use Rattle.parser_rules.proofs.nesting.Nesting.{root-nesting}
use Rattle.parser_rules.proofs.recovery.LeftOver.{all-rowed}
use Rattle.parser_rules.proofs.recovery.RowSymbols.{root-rowed}
use Rattle.parser_rules.proofs.reports.Endings.{ends-well}
use Rattle.parser_rules.proofs.reports.PastTheLimit.{root-limited}
use Rattle.parser_rules.proofs.sizes.Sizes.{Sized, finished-count}
use Rattle.parser_rules.proofs.soundness.OverTexts.{RightFirst}
use Rattle.parser_rules.specs.Fragments.{started, left_out}
use Rattle.parser_rules.specs.RuleLanguage.{Rule}
use Rattle.parser_rules.specs.Runs.{Runs}
use Rattle.parser_rules.specs.State.{State, Report, finished}
use Rattle.apollo_lexer.proofs.Law.{limited-length}
use Rattle.apollo_lexer.specs.Diagnostics.{of_limit}
use Rattle.apollo_lexer.specs.declared.limit.LimitTracker.{LimitTracker}
use Rattle.apollo_tree.proofs.Places.{length-order}
use Rattle.apollo_tree.specs.Order.{order}
use Rattle.apollo_parser.proofs.Errors.{AllTexts, no-reports, no-errors, same-indices, same-length, any-recursion}
use Rattle.apollo_parser.proofs.Errors.{ascii-messages, limited-ascii, limit-worded, any-limit, errors-along}
use Rattle.apollo_parser.proofs.FirstOnes as first
use Rattle.apollo_parser.proofs.Parses.{answers, below-cap, few-answers}
use Rattle.apollo_parser.proofs.Roots.{finished-node}
use Rattle.apollo_parser.specs.ByRules.{ByRootRule}
use Rattle.apollo_parser.specs.Parsed.{Parsed, IsLimit, IsTokenLimit, IsRecursionLimit, IsLimitWorded, OfFirst}
use Rattle.apollo_parser.specs.Parts.{FirstItems}
use Rattle.apollo_parser.specs.Promise.{PartPromise}

text-append : (xs ys : List Answer) → answers_text (xs ++ ys) ≡ answers_text xs ++ answers_text ys
text-append [] ys = refl
text-append (x ∷ xs) ys =
    ap (λ (t : List ℕ). answer_text x ++ t) (text-append xs ys)
    ∙ sym (append_assoc (answer_text x) (answers_text xs) (answers_text ys))

texts-front : (P : List ℕ → Type 0) (xs ys : List Answer) → AllTexts P (xs ++ ys) → AllTexts P xs
texts-front P [] ys h = tt
texts-front P (gives item ∷ xs) ys h = (h.0, texts-front P xs ys h.1)
texts-front P (limit_at index ∷ xs) ys h = texts-front P xs ys h

module _ {q : Rule} (j : SyntaxKind) (max_items max_depth : ℕ) (source : List ℕ) (s : State)
    (run : Runs q (started (answers max_items source) max_depth j) s) where
  pub root-is : finished (left_out s) ≡ node j s.tree.here none
  root-is = finished-node (left_out s) j (root-above (answers max_items source) max_depth j run)

  module _ (passes : RootRule j q) where
    first-leaves : run_leaves.FirstLeaves (answers max_items source) (leaves s.tree.here)
    first-leaves = root-leaves (answers max_items source) max_depth j passes.leaves run

    leaves-are : leaves (finished (left_out s)) ≡ leaves s.tree.here
    leaves-are = ap leaves root-is ∙ append-nil (leaves s.tree.here)

    -- the source begins with the tree's text
    pub root-begins : Cut source (items_of source)
        → take (length (text (finished (left_out s)))) source ≡ text (finished (left_out s))
    root-begins cut =
        let items = items_of source in
        let front = answers_text first-leaves.front in
        let rest = answers_text first-leaves.back ++ texts (drop max_items items) in
        let is : text (finished (left_out s)) ≡ front =
        text-leaves (finished (left_out s)) ∙ ap joined leaves-are ∙ first-leaves.text in
        let taken : front ++ answers_text first-leaves.back ≡ texts (take max_items items) =
        sym (text-append first-leaves.front first-leaves.back) ∙ ap answers_text (sym first-leaves.split)
        ∙ limited-text max_items items in
        let whole : texts (take max_items items) ++ texts (drop max_items items) ≡ source =
        sym (texts-append (take max_items items) (drop max_items items))
        ∙ ap texts (take-append-drop max_items items) ∙ cut.joined in
        let joins : front ++ rest ≡ source =
        sym (append_assoc front (answers_text first-leaves.back) (texts (drop max_items items)))
        ∙ ap (λ (t : List ℕ). t ++ texts (drop max_items items)) taken ∙ whole in
        ap (λ (t : List ℕ). take (length t) source) is ∙ ap (take (length front)) (sym joins)
        ∙ take-append_seam front rest ∙ sym is

    pub root-nested : count (finished (left_out s)) < 2 ^ 64 → nest (tree_of (finished (left_out s))) ≤ s.high
    root-nested c =
        let n = ap count root-is in
        subst (λ f. nest (tree_of f) ≤ s.high) (sym root-is)
        (root-nesting (answers max_items source) max_depth j s passes.heavy passes.levels run
        (omega (arith, c, n)))

-- ---- a parse

module _ {j : SyntaxKind} {q : Rule} {source : List ℕ} {max_depth max_items : ℕ} {t : Parsed}
    (p : ByRootRule j q source max_depth max_items t) where
  pub one-root : (kids : Forest) × (t.tree ≡ node j kids none)
  one-root = (p.last.tree.here, p.tree ∙ root-is j max_items max_depth source p.last p.run)

  recursion : (t.recursion_limit.current ≡ 0) × (t.recursion_limit.limit ≡ max_depth)
      × (t.recursion_limit.high ≤ max_depth + 1)
  recursion = subst (λ (l : LimitTracker). (l.current ≡ 0) × (l.limit ≡ max_depth) × (l.high ≤ max_depth + 1))
      (sym p.recursion_limit)
      (levels-left (answers max_items source) max_depth j p.run)

  tokens : (t.token_limit.limit ≡ max_items) × (t.token_limit.high ≤ min (length (items_of source)) (max_items + 1))
  tokens =
      let a = all-asked (answers max_items source) max_depth j p.run ∙ limited-length max_items (items_of source) in
      let h = p.token_limit.2 in
      (p.token_limit.1, omega (arith, a, h))

  -- as large as what the run built and reported
  module _ (sized : Sized (min (length (items_of source)) max_items) p.last) where
    elements : length (order t.tree) ≤ 5 * min (length (items_of source)) max_items + 1
    elements = rw p.tree (let e = length-order 0 0 None (finished (left_out p.last)) in
        let f = finished-count (left_out p.last) in let b = sized.elements in
        omega (arith, e, f, b))

    error_count : length t.errors ≤ 3 * min (length (items_of source)) max_items + 1
    error_count = let e = same-length p.last.errors t.errors p.errors in let b = sized.reports in omega (arith, e, b)

  module _ (passes : RootRule j q) where
    one-front : OneFront (answers max_items source) (leaves t.tree) p.last.errors
    one-front =
        let f = run-front (answers max_items source) max_depth j passes.leaves p.run in
        let same : leaves p.last.tree.here ≡ leaves t.tree =
        sym (ap leaves (p.tree ∙ root-is j max_items max_depth source p.last p.run)
        ∙ append-nil (leaves p.last.tree.here)) in
        subst (λ (ls : List Leaf). OneFront (answers max_items source) ls p.last.errors) same f

    first_items : FirstItems (answers max_items source) (leaves t.tree) t.errors
    first_items =
        let f = one-front in
        record {
          front = f.front;
          ahead = f.ahead;
          back = f.back;
          split = f.split;
          one_leaf = f.leaves;
          errors =
              errors-along f.reported t.errors p.errors;
          few = f.few;
        }

    limit_messages : All IsLimitWorded t.errors
    limit_messages = limit-worded t.errors one-front.reported p.errors

    ascii : IsAscii source → All (λ e. IsAscii e.message) t.errors
    ascii h =
        let f = one-front in
        let split = f.split ∙ sym (append_assoc f.front f.ahead f.back) in
        let all : AllTexts IsAscii ((f.front ++ f.ahead) ++ f.back) = subst (AllTexts IsAscii) split
        (limited-ascii max_items (items_of source) (rw p.cut.joined h)) in
        ascii-messages t.errors f.reported (texts-front IsAscii (f.front ++ f.ahead) f.back all) p.errors

  in_order : IsNonDecreasing (map (λ e. e.index) t.errors)
  in_order = subst IsNonDecreasing (sym (same-indices p.last.errors t.errors p.errors))
      (ordered-front max_items source (items_of source) max_depth j p.run p.cut)

  module _ (passes : RootRule j q) where
    limit_met : Any IsRecursionLimit t.errors → max_depth + 1 ≤ t.recursion_limit.high
    limit_met h =
        let xs = answers max_items source in
        let past = limit-passed xs max_depth j p.run (any-recursion p.last.errors t.errors p.errors h) in
        subst (λ (l : LimitTracker). max_depth + 1 ≤ l.high) (sym p.recursion_limit)
        (below-cap max_depth p.last.high past (root-levels-within xs max_depth j p.last passes.tokens p.run)
        (few-answers max_items source p.short))

    beginning : take (length (text t.tree)) source ≡ text t.tree
    beginning = subst (λ f. take (length (text f)) source ≡ text f) (sym p.tree)
        (root-begins j max_items max_depth source p.last p.run passes p.cut)

    nesting : nest (tree_of t.tree) ≤ t.recursion_limit.high
    nesting =
        subst (λ f. nest (tree_of f) ≤ t.recursion_limit.high) (sym p.tree)
        (subst (λ (l : LimitTracker). nest (tree_of (finished (left_out p.last))) ≤ l.high) (sym p.recursion_limit)
        (root-nested j max_items max_depth source p.last p.run passes (subst (λ f. count f < 2 ^ 64) p.tree p.counted)))

    past_limit : max_depth < t.recursion_limit.high → Any IsLimit t.errors
    past_limit more =
        let limit : p.last.limit ≡ max_depth = (levels-left (answers max_items source) max_depth j p.run).1 in
        let high : max_depth < p.last.high = subst (λ (l : LimitTracker). max_depth < l.high) p.recursion_limit more in
        any-limit p.last.errors t.errors p.errors
        (root-limited max_depth (answers max_items source) j p.last
        (ends-well max_items 0 (items_of source) p.cut.each) passes.limits p.run
        (subst (λ (n : ℕ). n < p.last.high) (sym limit) high))

  -- without errors, the tree's text is a sentence, and the tree its derivation
  sound : (sort : Sort) → (p.last.errors ≡ [] → IsSoundPart sort max_depth p.last)
      → t.errors ≡ [] → Sentence (text t.tree) (bare (tree_of t.tree)) sort × (nest (bare (tree_of t.tree)) ≤ max_depth)
      × (t.recursion_limit.high ≡ nest (bare (tree_of t.tree)))
  sound sort right nil =
      let c = right (no-reports p.last.errors t.errors p.errors nil) in
      rw (p.tree, p.recursion_limit) (c.sentence, c.nesting, c.high)

  -- a sentence within both limits has no errors, and the tree is its derivation
  accepts : (sort : Sort) → ((u : Tree) → Sentence source u sort → Within source u max_depth max_items
      → (p.last.errors ≡ []) × (bare (tree_of (finished (left_out p.last))) ≡ u))
      → (u : Tree) → Sentence source u sort → Within source u max_depth max_items
      → (t.errors ≡ []) × (bare (tree_of t.tree) ≡ u)
  accepts sort accepted u h n =
      let c = accepted u h n in
      (no-errors p.last.errors t.errors p.errors c.0, rw p.tree c.1)

  -- the first error, and each node's row
  module _ (passes : RootRule j q) where
    row_symbols : Rowed (tree_of t.tree)
    row_symbols =
        rw (p.tree ∙ root-is j max_items max_depth source p.last p.run) (all-rowed (number j) p.last.tree.here
        (root-rowed max_depth (answers max_items source) j p.last passes.row p.run))

    module _ (sort : Sort) (right : IsUtf8 source → (e : Report) (more : List Report) → p.last.errors ≡ e ∷ more
        → RightFirst sort source (items_of source) max_depth max_items (finished (left_out p.last)) e) where
      first-right : (e : Report) (more : List Report) → p.last.errors ≡ e ∷ more
          → RightFirst sort source (items_of source) max_depth max_items t.tree e
      first-right e more h = rw p.tree (right p.characters e more h)

      not_late : OfFirst (λ e. (IsTokenLimit e → ⊥) → NotLate sort source e.index) t.errors
      not_late = first.not_late sort max_depth max_items t.tree p.cut p.last.errors t.errors p.errors first-right

      not_early : OfFirst (λ e. e.subject ≢ of_limit → NotEarly sort max_items (items_of source) e.index) t.errors
      not_early = first.not_early sort max_depth max_items t.tree p.cut p.last.errors t.errors p.errors first-right

      not_early_limit : OfFirst (λ e. IsRecursionLimit e → NotEarlyLimit sort max_depth (items_of source) e.index)
          t.errors
      not_early_limit = first.not_early_limit sort max_depth max_items t.tree p.cut p.last.errors t.errors
          p.errors first-right

      ended_nodes_fit : OfFirst (λ e. EndedNodesFit (items_of source) e.index (tree_of t.tree)) t.errors
      ended_nodes_fit =
          let l = one-front passes in
          let all = leaves-go-on l.front (l.ahead ++ l.back) (leaves t.tree) l.leaves in
          first.ended_nodes_fit sort max_depth max_items t.tree p.cut p.last.errors t.errors p.errors first-right all.0
          (subst (λ (xs : List Answer). OneLeafAnItem xs (leaves t.tree ++ all.0)) (sym l.split) all.1)

  -- all of it
  pub promise : RootRule j q → Sized (min (length (items_of source)) max_items) p.last → (sort : Sort)
      → (p.last.errors ≡ [] → IsSoundPart sort max_depth p.last)
      → ((u : Tree) → Sentence source u sort → Within source u max_depth max_items
      → (p.last.errors ≡ []) × (bare (tree_of (finished (left_out p.last))) ≡ u))
      → (IsUtf8 source → (e : Report) (more : List Report) → p.last.errors ≡ e ∷ more
      → RightFirst sort source (items_of source) max_depth max_items (finished (left_out p.last)) e)
      → PartPromise sort source max_depth max_items t
  promise passes sized sort right accepted reported = record {
    cut = p.cut;
    sound = sound sort right;
    accepts = accepts sort accepted;
    beginning = beginning passes;
    first_items = first_items passes;
    elements = elements sized;
    recursion = recursion;
    limit_met = limit_met passes;
    past_limit = past_limit passes;
    nesting = nesting passes;
    tokens = tokens;
    error_count = error_count sized;
    limit_messages = limit_messages passes;
    ascii = ascii passes;
    in_order = in_order;
    not_late = not_late passes sort reported;
    not_early = not_early passes sort reported;
    not_early_limit = not_early_limit passes sort reported;
    ended_nodes_fit = ended_nodes_fit passes sort reported;
    row_symbols = row_symbols passes;
  }
