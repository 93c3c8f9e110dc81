-- A part of a document over a text: where nothing is reported, the tree's text is a sentence of the sort; and over a
-- sentence within both limits nothing is reported, and the tree is the sentence's derivation.
use Rattle.std.proofs.Common.{◌≡◌, ℕ, ◌≤◌, true, List, [], ◌∷◌, ◌++◌, length, Option, Some, None, map, refl, sym, ap}
use Rattle.std.proofs.Common.{ap₂, ◌∙◌, subst, append_assoc, append-nil, inl, inr}
use Rattle.std.proofs.lemmas.List.{append_cancel_right}
use Rattle.std.specs.Str.{IsUtf8}
use Rattle.lexical_grammar.proofs.Cuts.{front-cut, significant-append, tokens-append}
use Rattle.lexical_grammar.specs.Answers.{Answer, gives, limit_at, limited, answers_text}
use Rattle.lexical_grammar.specs.Cut.{Item, Word, Cut, Significant, texts, end_at}
use Rattle.document_grammar.proofs.Booleans.{and-l, and-r, and-i}
use Rattle.document_grammar.specs.Booleans.{◌and◌}
use Rattle.document_grammar.specs.Builds.{Open, close}
use Rattle.document_grammar.specs.Derivation.{Sort, selections, type, nest}
use Rattle.document_grammar.specs.Forests.{text}
use Rattle.document_grammar.specs.Numbered.{tree_of}
use Rattle.document_grammar.specs.Placed.{bare}
use Rattle.document_grammar.specs.Sentence.{token_of, Sentence, Within}
use Rattle.document_grammar.specs.Tree.{Text, Token, Tree}
use Rattle.document_grammar.specs.declared.kind.SyntaxKind.{SyntaxKind}
use Rattle.document_grammar.specs.declared.kind.SyntaxKind.TheVariants as kind
use Rattle.grammar_machine.proofs.TableLemmas.{head-same, no-cons, tail-same}
use Rattle.parser_rules.proofs.fragments.Parts.{Part, Outcome, Follows, outcome-sound, outcome-accepted, part-parsed}
use Rattle.parser_rules.proofs.fragments.Parts.{selections-root}
use Rattle.parser_rules.proofs.fragments.RootChecks.{RootRule, selections_pass, type_passes, type-free}
use Rattle.parser_rules.proofs.fragments.RootRuns.{is-root}
use Rattle.parser_rules.proofs.fragments.TypeParts.{type-parsed}
use Rattle.parser_rules.proofs.fragments.TypeRoots.{made-run}
use Rattle.parser_rules.proofs.leaves.OneLeaf.{root-part}
use Rattle.parser_rules.proofs.reports.Endings.{ends-well}
use Rattle.parser_rules.proofs.reports.NoReport.{answers_tokens, all_tokens, item_tokens, given as given_by}
use Rattle.parser_rules.proofs.reports.NoReport.{ignored-tokens, EndsWell}
use Rattle.parser_rules.proofs.runs.TreesWithSources.{TreesWithSources, none, leaf, node, Source, aside, text_of, erase}
use Rattle.parser_rules.proofs.runs.TreesWithSources.{flat, set_aside, by-kind, now_of, sources, sources-append}
use Rattle.parser_rules.proofs.runs.TreesWithSources.{source_at, FirstPart}
use Rattle.parser_rules.proofs.soundness.OverTexts.{RightFirst, before-at, right-report, sentence-answers}
use Rattle.parser_rules.proofs.soundness.Soundness.{answers-append}
use Rattle.parser_rules.specs.Fragments.{started, unopened, left_out, field_set, RunsTypeRoot}
use Rattle.parser_rules.specs.Open.{is_free, IsRoot}
use Rattle.parser_rules.specs.RuleLanguage.{Rule}
use Rattle.parser_rules.specs.Runs.{Runs}
use Rattle.parser_rules.specs.State.{State, Report, Lexeme, PendingToken, ignored, finished}

-- ---- what the leaves are made of

sources_text : List Source → Text
sources_text [] = []
sources_text (source ∷ os) = text_of source ++ sources_text os

sources-text-append : (these_sources more_sources : List Source)
    → sources_text (these_sources ++ more_sources) ≡ sources_text these_sources
    ++ sources_text more_sources
unfolding sources_text
sources-text-append [] more_sources = refl
sources-text-append (source ∷ these_sources) more_sources =
    ap (λ (t : Text). text_of source ++ t) (sources-text-append these_sources more_sources)
    ∙ sym (append_assoc (text_of source) (sources_text these_sources) (sources_text more_sources))

erased-text : (trees : TreesWithSources) → text (erase trees) ≡ sources_text (flat trees)
unfolding sources_text
erased-text none = refl
erased-text (leaf source this_kind rest) = ap (λ (t : Text). text_of source ++ t) (erased-text rest)
erased-text (node this_kind kids rest) =
    ap₂ (λ (a b : Text). a ++ b) (erased-text kids) (erased-text rest)
    ∙ sym (sources-text-append (flat kids) (flat rest))

item-text : (item : Item) → text_of (source_at item item.kind) ≡ item.text
item-text item = by-kind (λ found o. text_of o ≡ item.text) item refl (λ k i. refl) (λ k own i. refl)

answers-text : (xs : List Answer) → sources_text (sources xs) ≡ answers_text xs
unfolding sources_text
answers-text [] = refl
answers-text (limit_at index ∷ xs) = answers-text xs
answers-text (gives item ∷ xs) = ap₂ (λ (a b : Text). a ++ b) (item-text item) (answers-text xs)

-- the answers of which two lists of leaves are made
record Halves (xs : List Answer) (these_sources more_sources : List Source) : Type 0 where
  front : List Answer
  back : List Answer
  split : xs ≡ front ++ back
  first : sources front ≡ these_sources
  second : sources back ≡ more_sources

halves : (xs : List Answer) (these_sources more_sources : List Source) → these_sources ++ more_sources ≡ sources xs
    → Halves xs these_sources more_sources
halves xs [] more_sources e = record { front = []; back = xs; split = refl; first = refl; second = sym e }
halves [] (source ∷ these_sources) more_sources e = absurd cc
halves (limit_at index ∷ xs) (source ∷ these_sources) more_sources e =
    let h = halves xs (source ∷ these_sources) more_sources e in
    record {
      front = limit_at index ∷ h.front;
      back = h.back;
      split = ap (λ (l : List Answer). limit_at index ∷ l) h.split;
      first = h.first;
      second = h.second;
    }
halves (gives item ∷ xs) (source ∷ these_sources) more_sources e =
    let h = halves xs these_sources more_sources (tail-same e) in
    record {
      front = gives item ∷ h.front;
      back = h.back;
      split = ap (λ (l : List Answer). gives item ∷ l) h.split;
      first = ap₂ (λ (a : Source) (l : List Source). a ∷ l) (sym (head-same e)) h.first;
      second = h.second;
    }

-- what waits has no tokens of the grammar
aside-item : (item : Item) (pending_token : PendingToken) → source_at item item.kind ≡ aside pending_token
    → item_tokens item.kind item.text ≡ []
aside-item item pending_token = by-kind (λ found o. o ≡ aside pending_token
    → item_tokens found item.text ≡ []) item (λ e. refl) (λ k i e. absurd cc)
    (λ k own i e. ignored-tokens k own item.text i)

asides-none : (xs : List Answer) (parts : List PendingToken) → sources xs ≡ flat (set_aside parts)
    → answers_tokens xs ≡ []
asides-none [] parts e = refl
asides-none (limit_at index ∷ xs) parts e = asides-none xs parts e
asides-none (gives item ∷ xs) [] e = absurd cc
asides-none (gives item ∷ xs) (pending_token ∷ parts) e =
    rw (aside-item item pending_token (head-same e)) (asides-none xs parts (tail-same e))

-- ---- the answers that are in the tree

tokens-before : (xs ys : List Answer) → all_tokens (xs ++ ys) ≡ true → all_tokens xs ≡ true
unfolding ◌and◌
tokens-before [] ys h = refl
tokens-before (answer ∷ xs) ys h = and-i (and-l _ _ h) (tokens-before xs ys (and-r _ _ h))

given-sources : (lexeme : Lexeme) (found : Option Lexeme) (items : List Answer) → found ≡ Some lexeme
    → ignored lexeme.kind ≡ None
    → now_of found ++ sources items ≡ sources (given_by lexeme ∷ items)
given-sources lexeme found items e i = ap (λ (z : Option Lexeme). now_of z ++ sources items) e ∙ rw i refl

-- what follows begins with an answer
then-one : (xs : List Answer) (answer : Answer) (ys : List Answer)
    → (other_answer : Answer) × (zs : List Answer) × (xs ++ answer ∷ ys ≡ other_answer ∷ zs)
then-one [] answer ys = (answer, ys, refl)
then-one (other_answer ∷ xs) answer ys = (other_answer, xs ++ answer ∷ ys, refl)

finished-text : (state : State) → IsRoot state.tree → text (finished (left_out state)) ≡ text state.tree.here
finished-text state root =
    ap (λ (above : List Open). text (close state.tree.here above).here) root.2 ∙ append-nil (text state.tree.here)

-- The tree's text is a sentence of the sort, and the tree its derivation, which nests within the limit and as deep as
-- the greatest depth.
pub record IsSoundPart (sort : Sort) (max_depth : ℕ) (state : State) : Type 0 where
  pub sentence : Sentence (text (finished (left_out state))) (bare (tree_of (finished (left_out state)))) sort
  pub nesting : nest (bare (tree_of (finished (left_out state)))) ≤ max_depth
  pub high : state.high ≡ nest (bare (tree_of (finished (left_out state))))

-- the answers of the tree's leaves, and those that wait
parted : (sort : Sort) (max_depth : ℕ) (xs : List Answer) (state : State) (part : Part sort max_depth xs state)
    (trees : TreesWithSources)
    → FirstPart xs state trees → Halves part.front (flat trees) (flat (set_aside state.pending))
parted sort max_depth xs state part trees first_part =
    let waits = flat (set_aside state.pending) in
    let after = sources (given_by part.lexeme ∷ state.items) in
    let next : now_of state.current ++ sources state.items ≡ after =
    given-sources part.lexeme state.current state.items part.current part.shown in
    let order : (flat trees ++ waits) ++ after ≡ sources part.front ++ after =
    append_assoc (flat trees) waits after ∙ ap (λ (v : List Source). flat trees ++ (waits ++ v)) (sym next)
    ∙ first_part.order ∙ ap sources part.split
    ∙ sources-append part.front (given_by part.lexeme ∷ state.items) in
    halves part.front (flat trees) waits (append_cancel_right (flat trees ++ waits) (sources part.front) after order)

is-sound : (sort : Sort) (max_depth max_items : ℕ) (source : List ℕ) (items : List Item) (state : State)
    → Cut source items → IsRoot state.tree
    → Part sort max_depth (limited max_items items) state → (trees : TreesWithSources)
    → FirstPart (limited max_items items) state trees
    → IsSoundPart sort max_depth state
is-sound sort max_depth max_items source items state cut root part trees first_part =
    let h = parted sort max_depth (limited max_items items) state part trees first_part in
    let one = then-one h.back (given_by part.lexeme) state.items in
    let split : limited max_items items ≡ h.front ++ one.0 ∷ one.1 =
    part.split ∙ ap (λ (l : List Answer). l ++ given_by part.lexeme ∷ state.items) h.split
    ∙ append_assoc h.front h.back (given_by part.lexeme ∷ state.items)
    ∙ ap (λ (l : List Answer). h.front ++ l) one.2 in
    let b = before-at max_items items h.front one.0 one.1 split (tokens-before h.front h.back
    (subst (λ (l : List Answer). all_tokens l ≡ true) h.split part.tokens)) in
    let ended : List Item = end_at (length (texts b.before)) ∷ [] in
    let is : text (finished (left_out state)) ≡ texts b.before =
    finished-text state root ∙ ap text (sym first_part.tree) ∙ erased-text trees
    ∙ ap sources_text (sym h.first) ∙ answers-text h.front ∙ b.text in
    let cut_there : Cut (texts b.before) (b.before ++ ended) = front-cut source b.before b.item b.more
    (subst (λ (l : List Item). Cut source l) b.split cut) b.tokens in
    let taken : answers_tokens part.front ≡ answers_tokens h.front =
    ap answers_tokens h.split ∙ answers-append h.front h.back
    ∙ ap (λ (v : List Token). answers_tokens h.front ++ v) (asides-none h.back state.pending h.second)
    ∙ append-nil (answers_tokens h.front) in
    let words : Significant (b.before ++ ended) ≡ Significant b.before =
    significant-append b.before ended ∙ append-nil (Significant b.before) in
    record {
      sentence = record {
        items = b.before ++ ended;
        cut = subst (λ (z : List ℕ). Cut z (b.before ++ ended)) (sym is) cut_there;
        tokens = tokens-append b.before ended b.tokens refl;
        derivation = part.spells.0;
        yield = part.spells.1 ∙ taken ∙ b.words ∙ ap (λ (l : List Word). map token_of l) (sym words);
      };
      nesting = part.nesting;
      high = part.high;
    }

-- a run of a root's rule, from its outcome over the answers
module _ (sort : Sort) (this_kind : SyntaxKind) {rule : Rule} (max_depth max_items : ℕ) (source : List ℕ)
    (items : List Item) (state : State)
    (cut : Cut source items) (passes : RootRule this_kind rule) (free : is_free this_kind ≡ true)
    (run : Runs rule (started (limited max_items items) max_depth this_kind) state)
    (outcome : EndsWell (limited max_items items) → IsRoot state.tree
    → Outcome sort max_depth (limited max_items items) state) where
  root : IsRoot state.tree
  root = is-root (limited max_items items) max_depth this_kind run free

  comes : Outcome sort max_depth (limited max_items items) state
  comes = outcome (ends-well max_items 0 items cut.each) root

  -- Soundness.
  pub outcome-text : state.errors ≡ [] → IsSoundPart sort max_depth state
  outcome-text h = let p = root-part (limited max_items items) max_depth this_kind passes.leaves run in
      is-sound sort max_depth max_items source items state cut root
      (outcome-sound sort max_depth (limited max_items items) comes h) p.0 p.1

  -- Acceptance: nothing is reported, and the tree is the sentence's derivation.
  pub outcome-accepts : (tree : Tree) → Sentence source tree sort → Within source tree max_depth max_items
      → (state.errors ≡ []) × (bare (tree_of (finished (left_out state))) ≡ tree)
  outcome-accepts tree sentence within =
      let a = sentence-answers sort max_depth max_items source items tree cut sentence within in
      let e = outcome-accepted sort max_depth (limited max_items items) comes tree a.1 within.nesting a.0 in
      (e, (outcome-sound sort max_depth (limited max_items items) comes e).all tree a.1)

  -- The first report is right, and the nodes that end before its last token fit.
  pub outcome-report : IsUtf8 source → (this_report : Report) (more : List Report) → state.errors ≡ this_report ∷ more
      → RightFirst sort source items max_depth max_items (finished (left_out state)) this_report
  outcome-report u this_report more h = elim comes [
    | inl o ↦ right-report sort max_depth max_items source items cut u (left_out state) root
        (record {
          report = o.report;
          more = o.more;
          reported = o.reported;
          taken = o.taken;
          right = o.right;
          settled = o.settled;
        }) this_report more h
    | inr o ↦ no-cons (sym o.0 ∙ h)
  ]

module _ (sort : Sort) (this_kind : SyntaxKind) {rule : Rule} (max_depth max_items : ℕ) (source : List ℕ)
    (items : List Item) (state : State)
    (cut : Cut source items) (passes : RootRule this_kind rule) (free : is_free this_kind ≡ true)
    (follows : Follows sort max_depth (limited max_items items) this_kind rule)
    (run : Runs rule (started (limited max_items items) max_depth this_kind) state) where
  outcome : EndsWell (limited max_items items) → IsRoot state.tree
      → Outcome sort max_depth (limited max_items items) state
  outcome ends open_root = part-parsed sort max_depth (limited max_items items) this_kind follows ends open_root run

  pub sound-part : state.errors ≡ [] → IsSoundPart sort max_depth state
  sound-part = outcome-text sort this_kind max_depth max_items source items state cut passes free run outcome

  pub accepts-part : (tree : Tree) → Sentence source tree sort → Within source tree max_depth max_items
      → (state.errors ≡ []) × (bare (tree_of (finished (left_out state))) ≡ tree)
  accepts-part = outcome-accepts sort this_kind max_depth max_items source items state cut passes free run outcome

  pub report-part : IsUtf8 source → (report : Report) (more : List Report) → state.errors ≡ report ∷ more
      → RightFirst sort source items max_depth max_items (finished (left_out state)) report
  report-part = outcome-report sort this_kind max_depth max_items source items state cut passes free run outcome

-- ---- selection sets

module _ (max_depth max_items : ℕ) (source : List ℕ) (items : List Item) (state : State) (cut : Cut source items)
    (run : Runs field_set (started (limited max_items items) max_depth kind.SELECTION_SET) state) where
  pub selections-sound : state.errors ≡ [] → IsSoundPart selections max_depth state
  selections-sound = sound-part selections kind.SELECTION_SET max_depth max_items source items state cut
      selections_pass refl
      (selections-root max_depth (limited max_items items)) run

  pub selections-accepted : (tree : Tree) → Sentence source tree selections → Within source tree max_depth max_items
      → (state.errors ≡ []) × (bare (tree_of (finished (left_out state))) ≡ tree)
  selections-accepted = accepts-part selections kind.SELECTION_SET max_depth max_items source items state
      cut selections_pass refl
      (selections-root max_depth (limited max_items items)) run

  pub selections-report : IsUtf8 source → (report : Report) (more : List Report) → state.errors ≡ report ∷ more
      → RightFirst selections source items max_depth max_items (finished (left_out state)) report
  selections-report = report-part selections kind.SELECTION_SET max_depth max_items source items state
      cut selections_pass refl
      (selections-root max_depth (limited max_items items)) run

-- ---- types

module _ (max_depth max_items : ℕ) (source : List ℕ) (items : List Item) (state : State) (cut : Cut source items)
    (made : RunsTypeRoot (unopened (limited max_items items) max_depth) state) where
  type-outcome : EndsWell (limited max_items items) → IsRoot state.tree
      → Outcome type max_depth (limited max_items items) state
  type-outcome ends _ = type-parsed max_depth (limited max_items items) ends made

  pub types-sound : state.errors ≡ [] → IsSoundPart type max_depth state
  types-sound = let m = made-run (limited max_items items) max_depth made in
      outcome-text type m.kind max_depth max_items source items state cut (type_passes m.is) (type-free m.is)
      m.run type-outcome

  pub types-accepted : (tree : Tree) → Sentence source tree type → Within source tree max_depth max_items
      → (state.errors ≡ []) × (bare (tree_of (finished (left_out state))) ≡ tree)
  types-accepted = let m = made-run (limited max_items items) max_depth made in
      outcome-accepts type m.kind max_depth max_items source items state cut (type_passes m.is) (type-free m.is)
      m.run type-outcome

  pub types-report : IsUtf8 source → (report : Report) (more : List Report) → state.errors ≡ report ∷ more
      → RightFirst type source items max_depth max_items (finished (left_out state)) report
  types-report = let m = made-run (limited max_items items) max_depth made in
      outcome-report type m.kind max_depth max_items source items state cut (type_passes m.is) (type-free m.is)
      m.run type-outcome
