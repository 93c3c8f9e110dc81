-- Where the items after some of the root's children are those of a document, the later children are its derivation's,
-- and no report is beyond its first token.
use Rattle.std.proofs.Common.{◌≡◌, ◌≢◌, ℕ, ◌+◌, ◌≤◌, Bool, true, false, true≢false, ◌&&◌, ltb, List, [], ◌∷◌, ◌++◌}
use Rattle.std.proofs.Common.{length, map, Option, Some, None, refl, sym, ap, ap₂, ◌∙◌, subst, inl, inr, ◌⊎◌, arith}
use Rattle.std.proofs.Common.{is_some, length-append}
use Rattle.std.proofs.lemmas.Bool.{and_parts}
use Rattle.std.proofs.lemmas.List.Elements.{All-map, All-weaker}
use Rattle.std.specs.List.{list_all}
use Rattle.lexical_grammar.proofs.Limited.{all_given, within-limit}
use Rattle.lexical_grammar.proofs.Offsets.{item-some}
use Rattle.lexical_grammar.specs.Answers.{Answer, gives, limit_at, limited, is_given}
use Rattle.lexical_grammar.specs.Cut.{Item, Cut, CutFrom, texts, end_at, Significant, significant_word, are_tokens}
use Rattle.document_grammar.proofs.Added.{added-leaf}
use Rattle.document_grammar.proofs.Booleans.{and-i}
use Rattle.document_grammar.proofs.Joins.{join-none}
use Rattle.document_grammar.proofs.Shown.{index-at, item-then, cut-from}
use Rattle.document_grammar.specs.Booleans.{◌and◌}
use Rattle.document_grammar.specs.Builds.{Building, add_leaf}
use Rattle.document_grammar.specs.Derivation.{document, Spells, nest}
use Rattle.document_grammar.specs.FirstError.{At}
use Rattle.document_grammar.specs.Forests as built
use Rattle.document_grammar.specs.Kinds.{ERROR, DOCUMENT}
use Rattle.document_grammar.specs.Numbers.{number}
use Rattle.document_grammar.specs.Recovery.{NoneBeyond}
use Rattle.document_grammar.specs.Sentence.{tokens_of}
use Rattle.document_grammar.specs.Tree.{Token, Tree, node}
use Rattle.document_grammar.specs.declared.kind.SyntaxKind.TheVariants as kind
use Rattle.grammar_machine.proofs.TableLemmas.{head-same, tail-same}
use Rattle.parser_rules.proofs.recovery.LeftOver.{source-text, bytes, text-bytes}
use Rattle.parser_rules.proofs.recovery.OneChild.{Kid, leaf_of, alone, turn-one, behind, added-behind, loop-alike}
use Rattle.parser_rules.proofs.recovery.OneChild.{next-child}
use Rattle.parser_rules.proofs.recovery.Recovers.{recovers, none-beyond}
use Rattle.parser_rules.proofs.reports.Endings.{ends-well}
use Rattle.parser_rules.proofs.reports.InOrder.{AllUpTo}
use Rattle.parser_rules.proofs.reports.NoReport.{answers_tokens, all_tokens, current_tokens, kind_tokens, item_tokens}
use Rattle.parser_rules.proofs.reports.NoReport.{ignored-tokens}
use Rattle.parser_rules.proofs.runs.Frame.{parts_forest, read-untouched, root-kept, turned, begun-nesting}
use Rattle.parser_rules.proofs.runs.Reading.{Reading, stops, cuts, bad_text, waits, shows, reading, ignored-kinds}
use Rattle.parser_rules.proofs.runs.Reading.{ignored-leaf}
use Rattle.parser_rules.proofs.runs.Steps.{Holds_along, Keeps_reading, along-reading, along, turns-along}
use Rattle.parser_rules.proofs.runs.TreesWithSources.{by-kind, Source, token, aside, text_of, TreesWithSources, none}
use Rattle.parser_rules.proofs.runs.TreesWithSources.{append, erase, flat, set_aside, now_of, source_at, sources}
use Rattle.parser_rules.proofs.runs.TreesWithSources.{to_come, read-to_come, reports-along, Grown, grown-none}
use Rattle.parser_rules.proofs.runs.TreesWithSources.{grown-then, grown-note, reports-same}
use Rattle.parser_rules.proofs.soundness.OverTexts.{words-cons}
use Rattle.parser_rules.proofs.soundness.Soundness.{accepted, loops, Turn, from_now, turn-of}
use Rattle.parser_rules.proofs.soundness.WithoutIgnored.{strip, all_ignored}
use Rattle.parser_rules.specs.Nodes.{Document, Definition}
use Rattle.parser_rules.specs.RuleLanguage.{Rule, Skip, Do, Note, Call, Ready, holds, step}
use Rattle.parser_rules.specs.Rules.{body}
use Rattle.parser_rules.specs.Runs.{Runs, skip, does, seq, yes, no, done, again, call, Turns, begin, turn}
use Rattle.parser_rules.specs.State.{State, Lexeme, lexeme, Report, PendingToken, read_on, add_all, flush, note, fresh}
use Rattle.parser_rules.specs.State.{begun}
use Rattle.parser_rules.specs.declared.message.Message.TheVariants as message

-- no document is empty
no-empty : (tree : Tree) → Spells [] tree document → ⊥
unfolding body holds step note read_on ◌and◌
no-empty tree spells =
    let xs : List Answer = gives (end_at 0) ∷ [] in
    let before : State = begun xs (nest tree) kind.DOCUMENT in
    let run : Runs (Call Document) before (note message.UnexpectedEof before) =
    call (no refl (seq (does refl) (done refl))) in
    let e : (note message.UnexpectedEof before).errors ≡ [] =
    accepted (nest tree) xs (note message.UnexpectedEof before) tree refl
    (root-kept xs (nest tree) kind.DOCUMENT refl run) run spells (omega arith) refl in
    absurd cc

-- the document's rule reaches its loop
document-loop : {before state : State} → Runs (Call Document) before state
    → (rule : Rule) × (after : State) × Runs rule before after × Grown before after none × Runs loops after state
unfolding body step
document-loop {before = before} (call (yes e run)) = (Skip, before, skip, grown-none before, run)
document-loop {before = before} (call (no e (seq {after = after} (does i) run))) = (
  Do (Note message.UnexpectedEof),
  after,
  does i,
  subst (λ (z : State). Grown before z none) (sym i) (grown-note message.UnexpectedEof before),
  run,
)

-- no answer that is left is the limit
reading-given : {xs : List Answer} {state after : State} → Reading xs state after → state.items ≡ xs
    → list_all is_given xs ≡ true
    → list_all is_given after.items ≡ true
reading-given stops e h = ap (list_all is_given) e
reading-given (cuts this_reading) e h = absurd (true≢false (sym h))
reading-given (bad_text i this_reading) e h = reading-given this_reading refl h
reading-given (waits i j this_reading) e h = reading-given this_reading refl h
reading-given (shows i j) e h = h

given-along : Holds_along (Keeps_reading (λ o items. list_all is_given items ≡ true))
given-along = along-reading (λ o items. list_all is_given items ≡ true)
    (λ leaf x s e h. reading-given (reading s.items _) refl h)

join-cancel : (this_forest more_trees last_trees : built.Forest)
    → built.join this_forest more_trees ≡ built.join this_forest last_trees
    → more_trees ≡ last_trees
join-cancel built.none g h e = e
join-cancel (built.leaf k x f) more_trees last_trees e =
    let i : built.join f more_trees ≡ built.join f last_trees = cc in join-cancel f more_trees last_trees i
join-cancel (built.node k kids f) more_trees last_trees e =
    let i : built.join f more_trees ≡ built.join f last_trees = cc in
    join-cancel f more_trees last_trees i

-- ---- the trees of a list

abbrev forest : List built.Tree → built.Forest
forest [] = built.none
forest (tree ∷ ts) = built.first tree (forest ts)

forest-trees : (this_forest : built.Forest) → forest (built.trees this_forest) ≡ this_forest
forest-trees built.none = refl
forest-trees (built.leaf k x rest) = ap (built.leaf k x) (forest-trees rest)
forest-trees (built.node k kids rest) = ap (built.node k kids) (forest-trees rest)

-- ---- items and their sources

abbrev source_item : Item → Source
source_item item = source_at item item.kind

-- whether there is no bad text, and the tokens
abbrev reads : List Source → Bool × List Token
reads [] = (true, [])
reads (token this_lexeme ∷ these_sources) =
    ((reads these_sources).0, kind_tokens this_lexeme.kind this_lexeme.text ++ (reads these_sources).1)
reads (aside pending_token ∷ these_sources) =
    (ltb (number pending_token.kind) ERROR && (reads these_sources).0, (reads these_sources).1)

reads-item : (item : Item) (these_sources : List Source) → reads (source_item item ∷ these_sources)
    ≡ (is_some item.kind && (reads these_sources).0, item_tokens item.kind item.text ++ (reads these_sources).1)
reads-item item these_sources = by-kind (λ found o. reads (o ∷ these_sources)
    ≡ (is_some found && (reads these_sources).0, item_tokens found item.text ++ (reads these_sources).1)) item
    refl (λ k i. refl)
    (λ k own i. ap₂ (λ (b : Bool) (tokens : List Token).
    (b && (reads these_sources).0, tokens ++ (reads these_sources).1)) (ignored-leaf k own i)
    (sym (ignored-tokens k own item.text i)))

reads-items : (items : List Item) → reads (map source_item items) ≡ (are_tokens items, tokens_of items)
reads-items [] = refl
reads-items (item ∷ items) =
    reads-item item _ ∙ ap (λ (z : Bool × List Token).
    (is_some item.kind && z.0, item_tokens item.kind item.text ++ z.1))
    (reads-items items) ∙ ap (λ (w : List Token). (are_tokens (item ∷ items), w)) (sym (words-cons item items))

reads-answers : (ys : List Answer) → list_all is_given ys ≡ true
    → reads (sources ys) ≡ (all_tokens ys, answers_tokens ys)
unfolding ◌and◌
reads-answers [] g = refl
reads-answers (limit_at index ∷ ys) g = absurd (true≢false (sym g))
reads-answers (gives item ∷ ys) g =
    reads-item item _ ∙ ap (λ (z : Bool × List Token).
    (is_some item.kind && z.0, item_tokens item.kind item.text ++ z.1))
    (reads-answers ys g)

reads-left : (pending : List PendingToken) (found : Option Lexeme) (these_sources : List Source)
    → reads (flat (set_aside pending) ++ (now_of found ++ these_sources)) ≡ (
      all_ignored pending && (reads these_sources).0,
      current_tokens found ++ (reads these_sources).1,
    )
unfolding ◌and◌
reads-left [] None these_sources = refl
reads-left [] (Some x) these_sources = refl
reads-left (pending_token ∷ pending) found these_sources =
    ap (λ (z : Bool × List Token). (ltb (number pending_token.kind) ERROR && z.0, z.1))
    (reads-left pending found these_sources) ∙ (elim (ltb (number pending_token.kind) ERROR) as
    (λ b. ◌≡◌ {A = Bool × List Token}
    (b && (all_ignored pending && (reads these_sources).0), current_tokens found ++ (reads these_sources).1)
    ((b && all_ignored pending) && (reads these_sources).0, current_tokens found ++ (reads these_sources).1))
    [ true ↦ refl | false ↦ refl ])

token-index : (item : Item) (this_lexeme : Lexeme) → source_item item ≡ token this_lexeme
    → this_lexeme.index ≡ item.index
token-index item this_lexeme = by-kind (λ found o. o ≡ token this_lexeme
    → this_lexeme.index ≡ item.index) item (λ z. absurd cc) (λ k i z. let same : this_lexeme ≡ lexeme k item = cc in
    ap (λ (y : Lexeme). y.index) same) (λ k own i z. absurd cc)

-- the first token that is not ignored is not beyond a significant one
first-token : (offset : ℕ) (pending : List PendingToken) (this_lexeme : Lexeme) (before : List Item)
    (item : Item) (more : List Item)
    (these_sources : List Source) → CutFrom offset (before ++ item ∷ more)
    → map source_item (before ++ item ∷ more) ≡ flat (set_aside pending) ++ token this_lexeme ∷ these_sources
    → Significant (item ∷ []) ≢ []
    → this_lexeme.index ≤ item.index
first-token offset [] this_lexeme [] item more these_sources cut e s =
    let i = token-index item this_lexeme (head-same e) in omega (arith, i)
first-token offset [] this_lexeme (this_item ∷ before) item more these_sources cut e s =
    let i = token-index this_item this_lexeme (head-same e) in
    let first = (item-then offset before item more this_item cut).0 in
    omega (arith, i, first, index-at offset (this_item ∷ before) item more cut)
first-token offset (pending_token ∷ pending) this_lexeme [] item more these_sources cut e s =
    absurd (s (by-kind (λ found o. o ≡ aside pending_token → significant_word found item.text ++ [] ≡ []) item
    (λ z. refl) (λ k i z. absurd cc)
    (λ k own i z. ignored-kinds (λ k own. significant_word (Some k) item.text ++ [] ≡ []) refl refl refl k own i)
    (head-same e)))
first-token offset (pending_token ∷ pending) this_lexeme (this_item ∷ before) item more these_sources cut e s =
    first-token (offset + length this_item.text) pending this_lexeme before item more these_sources
    (item-then offset before item more this_item cut).2
    (tail-same e) s

given-sources : (items : List Item) → sources (map gives items) ≡ map source_item items
given-sources [] = refl
given-sources (item ∷ items) = ap (λ (v : List Source). source_item item ∷ v) (given-sources items)

-- the rest after a number of bytes is of the items there, or none of them is a token
left-there : (offset : ℕ) (before : List Item) (item : Item) (more : List Item)
    (these_sources more_sources : List Source)
    → CutFrom offset (before ++ item ∷ more) → map source_item (before ++ item ∷ more) ≡ these_sources ++ more_sources
    → length (texts before) ≡ bytes these_sources
    → (map source_item (item ∷ more) ≡ more_sources) ⊎ (tokens_of (item ∷ more) ≡ [])
left-there offset [] item more [] more_sources cut e h = inl e
left-there offset [] item [] (source ∷ these_sources) more_sources cut e h =
    inr (ap (λ (x : Item). tokens_of (x ∷ [])) cut)
left-there offset [] item (other_item ∷ more) (source ∷ these_sources) more_sources cut e h =
    let t = ap length (sym (source-text item) ∙ ap text_of (head-same e)) in
    absurd (omega (arith, item-some item.kind item.text _ cut.1, t, h))
left-there offset (other_item ∷ before) item more [] more_sources cut e h =
    absurd (omega (
      arith,
      item-some other_item.kind other_item.text _ (item-then offset before item more other_item cut).1,
      h,
      length-append other_item.text (texts before),
    ))
left-there offset (other_item ∷ before) item more (source ∷ these_sources) more_sources cut e h =
    let t = ap length (sym (source-text other_item) ∙ ap text_of (head-same e)) in
    left-there (offset + length other_item.text) before item more these_sources more_sources
    (item-then offset before item more other_item cut).2 (tail-same e)
    (omega (arith, t, h, length-append other_item.text (texts before)))

module _ (max_depth k : ℕ) (source : List ℕ) (items : List Item) (state : State) (cut : Cut source items)
    (run : Runs (Call Document) (begun (limited k items) max_depth kind.DOCUMENT) state) (count : length items ≤ k)
    (taken : state.accepts ≡ true)
    (read : state.items ≡ []) (ended : current_tokens state.current ≡ [])
    (front later : built.Forest) (a : At items (length (built.text front))) (this_tree : Tree)
    (whole : (add_all state.pending state.tree).here ≡ built.join front later)
    (tokens : are_tokens (a.item ∷ a.more) ≡ true) (spells : Spells (tokens_of (a.item ∷ a.more)) this_tree document)
    (nests : nest this_tree ≤ max_depth) where
  abbrev xs : List Answer
  xs = limited k items

  abbrev b0 : State
  b0 = begun xs max_depth kind.DOCUMENT

  abbrev Goes : Type 0
  Goes = (node DOCUMENT (strip later) ≡ this_tree)
      × NoneBeyond (a.item ∷ a.more) (map (λ (e : Report). e.index) state.errors)

  -- no token is there
  nothing-there : tokens_of (a.item ∷ a.more) ≡ [] → Goes
  nothing-there z = absurd (no-empty this_tree (subst (λ (w : List Token). Spells w this_tree document) z spells))

  each : CutFrom 0 (a.before ++ a.item ∷ a.more)
  each = subst (CutFrom 0) a.split cut.each

  started : b0.tree.here ≡ built.none
  started = ap (λ b. b.here) (read-untouched xs (fresh xs max_depth kind.DOCUMENT)).tree

  module _ (q : Rule) (this_state : State) (first : Runs q b0 this_state) where
    -- at a turn, where the first children are in the tree, and with them some of the waiting leaves
    module _ (st : State) (turns : Turns Ready (Call Definition) this_state st)
        (runs : Runs loops st state) (tree : Building)
        (this_pending : List PendingToken) (same : add_all this_pending tree ≡ add_all st.pending st.tree)
        (trees : TreesWithSources)
        (grown : Grown b0 (record st { tree = tree; pending = this_pending }) trees) (ends : front ≡ erase trees) where
      abbrev here : State
      here = record st { tree = tree; pending = this_pending }

      order : sources xs ≡ flat trees ++ to_come here
      order = sym (read-to_come (reading xs (fresh xs max_depth kind.DOCUMENT)) refl) ∙ sym grown.order

      given : list_all is_given st.items ≡ true
      given = turns-along given-along turns
          (along given-along first (reading-given (reading xs (fresh xs max_depth kind.DOCUMENT)) refl
          (all_given k items count)))

      offset : length (texts a.before) ≡ bytes (flat trees)
      offset =
          let i = index-at 0 a.before a.item a.more each in
          let j = a.index in
          let e : length (built.text front) ≡ bytes (flat trees) =
          ap (λ x. length (built.text x)) ends ∙ text-bytes trees in
          omega (arith, i, j, e)

      module _ (left : map source_item (a.item ∷ a.more) ≡ to_come here) where
        left-reads : ◌≡◌ {A = Bool × List Token} (are_tokens (a.item ∷ a.more), tokens_of (a.item ∷ a.more)) (
          all_ignored this_pending && all_tokens st.items,
          current_tokens st.current ++ answers_tokens st.items,
        )
        left-reads =
            sym (reads-items (a.item ∷ a.more)) ∙ ap reads left ∙ reads-left this_pending st.current (sources st.items)
            ∙ ap (λ (z : Bool × List Token). (all_ignored this_pending && z.0, current_tokens st.current ++ z.1))
            (reads-answers st.items given)

        left-words : current_tokens st.current ++ answers_tokens st.items ≡ tokens_of (a.item ∷ a.more)
        left-words = sym (ap (λ (z : Bool × List Token). z.1) left-reads)

        turn-here : true ≡ holds Ready st → Runs loops here state → Goes
        unfolding holds
        turn-here ready loop =
            let t : Turn st = turn-of max_depth xs q this_state st (ends-well k 0 items cut.each) first turns ready
            ((along reports-along runs).keeps taken) in
            let t' : Turn here = record {
              token = t.token;
              current = t.current;
              now = t.now;
              is_ready = ready;
              accepts = t.accepts;
              no_level = t.no_level;
            } in
            let good = and_parts (all_ignored this_pending) (all_tokens st.items)
            (sym (ap (λ (z : Bool × List Token). z.0) left-reads) ∙ tokens) in
            let now : now_of st.current ++ sources st.items ≡ token t.token ∷ sources st.items = ap
            (λ (o : Option Lexeme). now_of o ++ sources st.items) t.current in
            let all : all_tokens (from_now st t) ≡ true = and-i refl good.1 in
            let spelled : Spells (answers_tokens (from_now st t)) this_tree document =
            subst (λ w. Spells w this_tree document)
            (sym (ap (λ (o : Option Lexeme). current_tokens o ++ answers_tokens st.items) (sym t.current) ∙ left-words))
            spells in
            let limit : st.limit ≡ max_depth =
            (turned turns).limit ∙ (begun-nesting xs max_depth kind.DOCUMENT first).1 in
            let z = recovers here state t' this_tree good.0 spelled (omega (arith, nests, limit)) all loop in
            let built_here : tree.here ≡ front =
            grown.trees.here ∙ (ap (λ x. built.join x (erase trees)) started ∙ sym ends) in
            let l : later ≡ z.later =
            join-cancel front later z.later
            (sym whole ∙ (z.children ∙ ap (λ x. built.join x z.later) built_here)) in
            let up : AllUpTo t.token.index state.errors =
            subst (λ (es : List Report). AllUpTo t.token.index es) (sym z.silent)
            (none-beyond max_depth k source items q this_state st t cut all first turns) in (
              ap (λ x. node DOCUMENT (strip x)) l ∙ z.derived,
              λ m b sig. (
                  let j = b.index in
                  let e : map source_item (b.before ++ b.item ∷ b.more) ≡ flat (set_aside this_pending) ++ token t.token
                  ∷ sources st.items = ap (map source_item) (sym b.split) ∙ left
                  ∙ ap (λ (v : List Source). flat (set_aside this_pending) ++ v) now in
                  let n = first-token _ this_pending t.token b.before b.item b.more (sources st.items)
                  (subst (CutFrom _) b.split (cut-from 0 a.before a.item a.more each)) e sig in
                  All-map (λ (n : ℕ). n ≤ m) (λ (e : Report). e.index) state.errors
                  (All-weaker (λ (e : Report). e.index ≤ t.token.index)
                  (λ (e : Report). e.index ≤ m) (λ e l. omega (arith, j, n, l)) state.errors up)),
            )

        here-goes : Goes
        unfolding flush
        here-goes = elim (loop-alike runs here (ap (λ y. record st { tree = y; pending = [] }) same)) [
          | inl e ↦ nothing-there
              (sym left-words ∙ (ap (λ (z : State). current_tokens z.current ++ answers_tokens z.items) e
              ∙ ap₂ (λ (v : List Token) (ys : List Answer). v ++ answers_tokens ys) ended read))
          | inr e ↦ turn-here e.0 e.1
        ]

      found-goes : Goes
      found-goes = elim (left-there 0 a.before a.item a.more (flat trees) (to_come here) each
          (ap (map source_item) (sym a.split)
          ∙ (sym (ap sources (within-limit k items count) ∙ given-sources items) ∙ order)) offset) [
            | inl e ↦
                here-goes e
            | inr e ↦ nothing-there e
          ]

    -- the turn where the first children end
    find : {st : State} (run : Runs loops st state) → Turns Ready (Call Definition) this_state st
        → (tree : Building) (this_pending : List PendingToken)
        → add_all this_pending tree ≡ add_all st.pending st.tree → (these_trees : TreesWithSources)
        → Grown b0 (record st { tree = tree; pending = this_pending }) these_trees
        → (ts : List built.Tree) → front ≡ built.join (erase these_trees) (forest ts)
        → built.join (forest ts) later ≡ built.join (parts_forest this_pending) (behind run) → Goes
    unfolding flush
    find {st = st} run turns tree this_pending same these_trees grown [] i m =
        found-goes st turns run tree this_pending same these_trees grown (i ∙ join-none (erase these_trees))
    find {st = st} run turns tree (pending_token ∷ this_pending) same these_trees grown (t ∷ ts) i m =
        let kid : Kid = leaf_of (aside pending_token) pending_token.kind in
        let to : State = record st
        { tree = add_leaf pending_token.kind pending_token.text tree; pending = this_pending } in
        let z = next-child kid t these_trees (forest ts) later
        (built.join (parts_forest this_pending) (behind run)) m in
        let from : State = record st { tree = tree; pending = pending_token ∷ this_pending } in
        let second_grown : Grown from to (alone kid) = record {
          trees = added-leaf pending_token.kind pending_token.text tree;
          order = refl;
          reports = reports-same from to refl refl;
        } in
        find run turns to.tree this_pending same (append these_trees (alone kid))
        (grown-then b0 from to these_trees (alone kid) grown second_grown) ts
        (i ∙ z.0) z.1
    find (done e) turns tree [] same these_trees grown (built.Leaf j x ∷ ts) i m = absurd cc
    find (done e) turns tree [] same these_trees grown (built.Node j kids ∷ ts) i m = absurd cc
    find {st = st} (again {after = to} e this_run second_run) turns tree [] same these_trees grown (t ∷ ts) i m =
        let o = turn-one e this_run in
        let z = next-child o.0 t these_trees (forest ts) later
        (built.join (parts_forest to.pending) (behind second_run)) m in
        let start : Grown b0 (flush st) these_trees =
        subst (λ (y : Building). Grown b0 (record st { tree = y; pending = [] }) these_trees) same grown in
        find second_run (turn turns e this_run) to.tree to.pending refl (append these_trees (alone o.0))
        (grown-then b0 (flush st) to these_trees (alone o.0) start o.1) ts (i ∙ z.0) z.1

  pub goes-on : Goes
  goes-on =
      let (q, c, first, g, l) = document-loop run in
      let added = added-behind l in
      let e : built.join front later ≡ built.join (parts_forest c.pending) (behind l) = sym whole
      ∙ (added.here ∙ ap (λ x. built.join x (built.join (parts_forest c.pending) (behind l)))
      (g.trees.here ∙ ap (λ x. built.join x built.none) started)) in
      find q c first l begin c.tree c.pending refl none g (built.trees front) (sym (forest-trees front))
      (ap (λ x. built.join x later) (forest-trees front) ∙ e)
