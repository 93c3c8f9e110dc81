-- What follows from a run of the document's rule over the items of a text, and so what a parse promises.
use Rattle.std.proofs.Common.{inl, inr, ◌≡◌, ◌≢◌, ℕ, Bool, ◌+◌, ◌^◌, ◌*◌, ◌<◌, ◌≤◌, append-nil, arith, min, true, false}
use Rattle.std.proofs.Common.{List, [], length, map, take, drop, ◌++◌, Option, Some, None, refl, sym, ap, ◌∙◌, subst}
use Rattle.std.proofs.Common.{◌∷◌}
use Rattle.std.proofs.Math.Seq.{take-append_seam}
use Rattle.std.proofs.lemmas.List.{take-append-drop}
use Rattle.std.specs.List.{Any, All, list_all}
use Rattle.std.specs.List.Sorted.{IsNonDecreasing}
use Rattle.std.specs.Str.{IsAscii}
use Rattle.lexical_grammar.proofs.Cuts.{texts-append}
use Rattle.lexical_grammar.proofs.Limited.{limited-text, limited-answers, given-within}
use Rattle.lexical_grammar.specs.Answers.{Answer, limited, usize_max, is_given, is_end}
use Rattle.lexical_grammar.specs.Cut.{Cut, texts, Item}
use Rattle.lexical_grammar.specs.Reads.{items_of}
use Rattle.document_grammar.proofs.Texts.{one-cut, first-sentence}
use Rattle.document_grammar.specs.Derivation.{document, nest, Yield}
use Rattle.document_grammar.specs.FirstError.{NotLate, NotEarly, NotEarlyLimit, EndedNodesFit}
use Rattle.document_grammar.specs.Forests as built
use Rattle.document_grammar.specs.Forests.{Forest, none, node, text}
use Rattle.document_grammar.specs.Kinds.{DOCUMENT}
use Rattle.document_grammar.specs.Leaves.{leaves, OneLeafAnItem}
use Rattle.document_grammar.specs.Numbered.{tree_of}
use Rattle.document_grammar.specs.Placed.{Placed, bare}
use Rattle.document_grammar.specs.Recovery.{Rowed, children_of, LeftOver, GoesOn, NoneBeyond}
use Rattle.document_grammar.specs.Sentence.{Sentence, FirstSentence, Within, tokens_of, OnlyDerivation}
use Rattle.document_grammar.specs.Tree.{Tree}
use Rattle.document_grammar.specs.declared.kind.SyntaxKind.TheVariants as kind
use Rattle.grammar_machine.proofs.SentenceTheorems.{one-derivation}
use Rattle.parser_rules.proofs.leaves.OneLeaf.{document-leaves, document-over, document-read, leaves-text}
use Rattle.parser_rules.proofs.nesting.LevelTokens.{levels-within}
use Rattle.parser_rules.proofs.nesting.Nesting.{nesting as run-nesting}
use Rattle.parser_rules.proofs.recovery.IgnoredPlaces.{placed as run-placed}
use Rattle.parser_rules.proofs.recovery.LaterChildren.{goes-on as run-goes-on}
use Rattle.parser_rules.proofs.recovery.LeftOver.{all-rowed, left-over as run-left-over}
use Rattle.parser_rules.proofs.recovery.Popped.{document-recovers}
use Rattle.parser_rules.proofs.recovery.RowSymbols.{document-rowed}
use Rattle.parser_rules.proofs.reports.AlongItems.{reported}
use Rattle.parser_rules.proofs.reports.AtTheLimit.{asked-past}
use Rattle.parser_rules.proofs.reports.Endings.{ends-well}
use Rattle.parser_rules.proofs.reports.InOrder.{in-order as run-in-order}
use Rattle.parser_rules.proofs.reports.NoReport.{EndsWell, current_tokens, kind_tokens, end-kind}
use Rattle.parser_rules.proofs.reports.PastTheLimit.{limit-reported}
use Rattle.parser_rules.proofs.runs.Frame.{root-kept, root-stays, begun-nesting, begun-asked}
use Rattle.parser_rules.proofs.runs.Steps.{along}
use Rattle.parser_rules.proofs.runs.TreesWithSources.{reports-along, Has, Limited, limited-later, taken-or-limited}
use Rattle.parser_rules.proofs.sizes.Sizes.{Sized, document-sized, finished-count}
use Rattle.parser_rules.proofs.soundness.OverTexts.{RightFirst, accepts-text, accepts-tree, first-report-right}
use Rattle.parser_rules.proofs.soundness.Soundness.{sound as run-sound, clean}
use Rattle.parser_rules.specs.Nodes.{Document}
use Rattle.parser_rules.specs.Open.{IsRoot}
use Rattle.parser_rules.specs.Reports.{Reported, no_more, bad_text, token_limit, fault, recursion_limit, passed}
use Rattle.parser_rules.specs.RuleLanguage.{Call}
use Rattle.parser_rules.specs.Runs.{Runs}
use Rattle.parser_rules.specs.State.{State, Lexeme, Report, fault_report, is_over, begun, finished, add_all}
use Rattle.parser_rules.specs.declared.message.Message.{Message}
use Rattle.apollo_lexer.proofs.Law.{limited-length, few-from}
use Rattle.apollo_lexer.specs.Diagnostics.{Diagnostic, of_text, of_limit}
use Rattle.apollo_tree.proofs.Places.{length-order}
use Rattle.apollo_tree.specs.Order.{order}
use Rattle.apollo_parser.proofs.Errors.{same-indices, same-length, no-reports, no-errors, any-recursion, ascii-messages}
use Rattle.apollo_parser.proofs.Errors.{limited-ascii, limit-worded, any-limit, any-said, fault-text, errors-along}
use Rattle.apollo_parser.proofs.FirstOnes as first
use Rattle.apollo_parser.proofs.Roots.{finished-node}
use Rattle.apollo_parser.specs.ByRules.{ByRules}
use Rattle.apollo_parser.specs.Parsed.{Parsed, ErrorsOf, IsRecursionLimit, IsLimitWorded, IsTokenLimit, OfFirst}
use Rattle.apollo_parser.specs.Parsed.{HasError, IsAbout, Recovers, root_children, IsLimit}
use Rattle.apollo_parser.specs.Promise.{Promise}

-- the answers to a parser of the text, where k items are allowed
abbrev pub answers : ℕ → List ℕ → List Answer
answers max_items source = limited max_items (items_of source)

module _ (max_items max_depth : ℕ) (source : List ℕ) (s : State) (cut : Cut source (items_of source))
    (run : Runs (Call Document) (begun (answers max_items source) max_depth kind.DOCUMENT) s) where
  pub run-leaves : OneLeafAnItem (answers max_items source) (leaves (finished s))
  run-leaves = document-leaves (answers max_items source) max_depth
      (limited-answers max_items source (items_of source) cut) run

  pub run-text : text (finished s) ≡ texts (take max_items (items_of source))
  run-text = leaves-text (finished s) run-leaves (limited-answers max_items source (items_of source) cut)
      ∙ limited-text max_items (items_of source)

  -- the source begins with the tree's text
  pub run-begins : take (length (text (finished s))) source ≡ text (finished s)
  run-begins =
      let items = items_of source in
      let front = texts (take max_items items) in
      let back = texts (drop max_items items) in
      let joined : front ++ back ≡ source =
      sym (texts-append (take max_items items) (drop max_items items)) ∙ ap texts (take-append-drop max_items items)
      ∙ cut.joined in
      ap (λ t. take (length t) source) run-text ∙ ap (take (length front)) (sym joined)
      ∙ take-append_seam front back ∙ sym run-text

  pub run-read : s.items ≡ []
  run-read = document-read (answers max_items source) max_depth
      (limited-answers max_items source (items_of source) cut) run

over-tokens : (o : Option Lexeme) → is_over o ≡ true → current_tokens o ≡ []
over-tokens None h = refl
over-tokens (Some x) h = ap (λ each. kind_tokens each x.text) (end-kind x.kind h)

-- where no limit is reported, all items are read
all-given-by : {taken : Bool} {xs : List Answer} {rs : List Report} → Reported taken xs rs → (Limited rs → ⊥)
    → list_all is_given xs ≡ true
all-given-by no_more n = refl
all-given-by (bad_text {reports = rs} i h) n = all-given-by h (λ l. n (limited-later (_ ∷ []) rs l))
all-given-by (token_limit {reports = rs} h) n = absurd (n (_, refl, record { before = []; after = rs; split = refl }))
all-given-by (fault m {reports = rs} i j h) n = all-given-by h (λ l. n (limited-later (_ ∷ []) rs l))
all-given-by (recursion_limit {reports = rs} i j h) n =
    absurd (n (_, refl, record { before = []; after = rs; split = refl }))
all-given-by (passed i h) n = all-given-by h n

-- So there are fewer answers than a `usize` counts.
pub few-answers : (max_items : ℕ) (source : List ℕ) → length source < 2 ^ 63
    → length (answers max_items source) + 1 < usize_max
few-answers max_items source short =
    let l = limited-length max_items (items_of source) in
    let f = few-from 0 0 source in
    omega (arith, l, f, short)

pub below-cap : (max_depth high : ℕ) {n : ℕ} → min (max_depth + 1) usize_max ≤ high → high ≤ n → n < usize_max
    → max_depth + 1 ≤ high
below-cap max_depth high a b c = omega (arith, a, b, c)

-- ---- a parse

module _ {source : List ℕ} {max_depth max_items : ℕ} {t : Parsed} (p : ByRules source max_depth max_items t) where
  abbrev s : State
  s = p.last

  abbrev items : List Item
  items = items_of source

  abbrev xs : List Answer
  xs = answers max_items source

  -- its run: all is read, the answers end, and the root is open
  read : s.items ≡ []
  read = run-read max_items max_depth source s p.cut p.run

  no-end : EndsWell xs
  no-end = ends-well max_items 0 items p.cut.each

  root : IsRoot s.tree
  root = root-kept xs max_depth kind.DOCUMENT refl p.run

  in-answers : Reported true xs s.errors
  in-answers = reported xs max_depth kind.DOCUMENT p.run read

  silent : t.errors ≡ [] → s.errors ≡ []
  silent = no-reports s.errors t.errors p.errors

  same-offsets : map (λ (e : Diagnostic). e.index) t.errors ≡ map (λ (e : Report). e.index) s.errors
  same-offsets = same-indices s.errors t.errors p.errors

  -- ---- its tree

  pub lossless : text t.tree ≡ texts (take max_items items)
  lossless = ap text p.tree ∙ run-text max_items max_depth source s p.cut p.run

  abbrev kids : Forest
  kids = (add_all s.pending s.tree).here

  one-tree : t.tree ≡ node kind.DOCUMENT kids none
  one-tree = p.tree ∙ finished-node s kind.DOCUMENT (root-stays xs max_depth kind.DOCUMENT p.run)

  pub one_document : (kids : Forest) × (t.tree ≡ node kind.DOCUMENT kids none)
  one_document = (kids, one-tree)

  pub one_leaf : OneLeafAnItem xs (leaves t.tree)
  one_leaf = rw p.tree (run-leaves max_items max_depth source s p.cut p.run)

  -- ---- its limits

  pub recursion : (t.recursion_limit.current ≡ 0) × (t.recursion_limit.limit ≡ max_depth)
      × (t.recursion_limit.high ≤ max_depth + 1)
  recursion = rw p.recursion_limit (begun-nesting xs max_depth kind.DOCUMENT p.run)

  pub nesting : nest (tree_of t.tree) ≤ t.recursion_limit.high
  nesting = let c = rw p.tree at p.counted in
      rw (p.tree, p.recursion_limit) (run-nesting xs max_depth s p.run (omega (arith, c)))

  pub tokens : (t.token_limit.limit ≡ max_items) × (t.token_limit.high ≡ min (length items) (max_items + 1))
  tokens = rw p.token_limit (refl, begun-asked xs max_depth kind.DOCUMENT p.run ∙ limited-length max_items items)

  -- each level takes a token, so there are fewer than a `usize` counts
  pub limit_met : Any IsRecursionLimit t.errors → max_depth + 1 ≤ t.recursion_limit.high
  limit_met h =
      let past = asked-past xs max_depth kind.DOCUMENT p.run (any-recursion s.errors t.errors p.errors h) in
      rw p.recursion_limit (below-cap max_depth s.high past (levels-within xs max_depth s p.run)
      (let f = few-answers max_items source p.short in
      omega (arith, f)))

  pub past_limit : max_depth < t.recursion_limit.high → Any IsLimit t.errors
  past_limit more =
      let limit : s.limit ≡ max_depth = (begun-nesting xs max_depth kind.DOCUMENT p.run).1 in
      let high : max_depth < s.high = rw p.recursion_limit at more in
      any-limit s.errors t.errors p.errors (limit-reported max_depth xs s no-end p.run (omega (arith, limit, high)))

  -- ---- how much there is

  all-sized : Sized (min (length items) max_items) s
  all-sized = document-sized max_items items max_depth s p.run

  pub elements : length (order t.tree) ≤ 5 * min (length items) max_items + 1
  elements = rw p.tree (let e = length-order 0 0 None (finished s) in let f = finished-count s in
      let b = all-sized.elements in omega (arith, e, f, b))

  pub error_count : length t.errors ≤ 3 * min (length items) max_items + 1
  error_count = let e = same-length s.errors t.errors p.errors in let b = all-sized.reports in omega (arith, e, b)

  -- ---- its errors

  pub errors : ErrorsOf xs t.errors
  errors = errors-along in-answers t.errors p.errors

  pub ascii : IsAscii source → All (λ e. IsAscii e.message) t.errors
  ascii h = ascii-messages t.errors in-answers (limited-ascii max_items items (rw p.cut.joined h)) p.errors

  pub limit_messages : All IsLimitWorded t.errors
  limit_messages = limit-worded t.errors in-answers p.errors

  pub in_order : IsNonDecreasing (map (λ e. e.index) t.errors)
  in_order = subst IsNonDecreasing (sym same-offsets) (run-in-order max_items source items p.cut in-answers)

  -- ---- no errors, and acceptance

  pub sound : t.errors ≡ []
      → Sentence source (bare (tree_of t.tree)) document × Within source (bare (tree_of t.tree)) max_depth max_items
  sound nil = let c = run-sound max_depth max_items source items s no-end (λ tokens. p.cut) root (silent nil) p.run in
      rw p.tree (c.sentence, c.within)

  pub accepts : (u : Tree) → Sentence source u document → Within source u max_depth max_items → t.errors ≡ []
  accepts u h n = no-errors s.errors t.errors p.errors
      (accepts-text max_depth max_items source items s p.cut root p.run u h n)

  pub only_derivation : t.errors ≡ []
      → OnlyDerivation items (bare (tree_of t.tree)) × (t.recursion_limit.high ≡ nest (bare (tree_of t.tree)))
  only_derivation nil =
      let h = (sound nil).0 in
      let same : h.items ≡ items = one-cut source h.items items h.cut p.cut h.tokens in
      let yield : Yield (bare (tree_of t.tree)) ≡ tokens_of items = h.yield ∙ ap tokens_of same in (
        (λ u d. one-derivation document (tokens_of items) u (bare (tree_of t.tree)) d (h.derivation, yield)),
        rw (p.tree, p.recursion_limit) (clean max_depth xs s no-end root (silent nil) p.run).high,
      )

  -- A sentence's derivation is the tree.
  pub still_a_sentence : (u : Tree) → FirstSentence source u document → Within source u max_depth max_items
      → (t.errors ≡ []) × (bare (tree_of t.tree) ≡ u)
  still_a_sentence u h n = let i = first-sentence source u document h in
      (accepts u i n, rw p.tree (accepts-tree max_depth max_items source items s p.cut root p.run u i n))

  pub placed : t.errors ≡ [] → Placed (tree_of t.tree)
  placed nil = rw p.tree (run-placed max_depth xs s no-end root (silent nil) p.run)

  -- ---- the first error

  right : (e : Report) (more : List Report) → s.errors ≡ e ∷ more
      → RightFirst document source items max_depth max_items t.tree e
  right e more h = rw p.tree
      (first-report-right max_depth max_items source items s p.cut root p.run p.characters e more h)

  all-leaves : OneLeafAnItem xs (leaves t.tree ++ [])
  all-leaves = subst (OneLeafAnItem xs) (sym (append-nil (leaves t.tree))) one_leaf

  pub not_late : OfFirst (λ e. (IsTokenLimit e → ⊥) → NotLate document source e.index) t.errors
  not_late = first.not_late document max_depth max_items t.tree p.cut s.errors t.errors p.errors right

  pub not_early : OfFirst (λ e. e.subject ≢ of_limit → NotEarly document max_items items e.index) t.errors
  not_early = first.not_early document max_depth max_items t.tree p.cut s.errors t.errors p.errors right

  pub not_early_limit : OfFirst (λ e. IsRecursionLimit e → NotEarlyLimit document max_depth items e.index) t.errors
  not_early_limit = first.not_early_limit document max_depth max_items t.tree p.cut s.errors t.errors p.errors right

  pub ended_nodes_fit : OfFirst (λ e. EndedNodesFit items e.index (tree_of t.tree)) t.errors
  ended_nodes_fit = first.ended_nodes_fit document max_depth max_items t.tree p.cut s.errors t.errors p.errors right
      [] all-leaves

  -- ---- after errors

  pub row_symbols : Rowed (tree_of t.tree)
  row_symbols = rw one-tree (all-rowed DOCUMENT kids (document-rowed max_depth xs s p.run))

  -- where no limit is met
  module _ (n : Any IsLimit t.errors → ⊥) where
    none-met : Limited s.errors → ⊥
    none-met l = n (any-limit s.errors t.errors p.errors l)

    -- each token that was left over has its error, and is where one may be
    left-over : LeftOver (HasError t.errors) items 0 (children_of (tree_of t.tree))
    left-over = rw one-tree
        (run-left-over source max_items items s p.cut (HasError t.errors) has
        (document-recovers max_depth xs s no-end p.run none-met))
      where
        has : (m : Message) (x : Lexeme) → is_end x.kind ≡ false → Has s.errors (fault_report m x)
            → HasError t.errors x.index x.text
        has m x some h = any-said (IsAbout (of_text x.text) x.index) s.errors t.errors (fault_report m x) h
            (λ d z. record { subject = fault-text m x d some z; index = z.index }) p.errors

    -- where what follows a child of the root is a document of its own, the later children are its derivation's, and no
    -- error is beyond its first token
    goes-on : GoesOn max_depth items (map (λ e. e.index) t.errors) (root_children t.tree)
    goes-on front later a u same whole spells nests =
        let count : length items ≤ max_items = given-within max_items items (all-given-by in-answers none-met) in
        let taken : s.accepts ≡ true =
        elim (taken-or-limited xs max_depth kind.DOCUMENT s (along reports-along p.run)) [
          | inl y ↦ y
          | inr l ↦
              absurd (none-met l)
        ] in
        let here : kids ≡ built.join front later = sym (ap root_children one-tree) ∙ same in
        let g = run-goes-on max_depth max_items source items s p.cut p.run count taken read
        (over-tokens s.current (document-over p.run)) front later a u here whole spells nests in
        (g.0, subst (NoneBeyond (a.item ∷ a.more)) (sym same-offsets) g.1)

  pub recovers : (Any IsLimit t.errors → ⊥) → Recovers max_depth items t
  recovers n = record { left_over = left-over n; row_symbols = row_symbols; goes_on = goes-on n }

-- ---- all of it

pub promise : {source : List ℕ} {max_depth max_items : ℕ} {t : Parsed} → ByRules source max_depth max_items t
    → Promise source max_depth max_items t
promise p = record {
  cut = p.cut;
  sound = sound p;
  accepts = accepts p;
  only_derivation = only_derivation p;
  still_a_sentence = still_a_sentence p;
  lossless = lossless p;
  one_document = one_document p;
  one_leaf = one_leaf p;
  elements = elements p;
  placed = placed p;
  recursion = recursion p;
  limit_met = limit_met p;
  past_limit = past_limit p;
  nesting = nesting p;
  tokens = tokens p;
  errors = errors p;
  error_count = error_count p;
  limit_messages = limit_messages p;
  ascii = ascii p;
  in_order = in_order p;
  by_rules = p;
  not_late = not_late p;
  not_early = not_early p;
  not_early_limit = not_early_limit p;
  ended_nodes_fit = ended_nodes_fit p;
  row_symbols = row_symbols p;
  recovers = recovers p;
}
