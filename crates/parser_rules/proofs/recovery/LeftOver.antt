-- What holds of a tree with reports, in the words of the definitions: which children a node has, and where tokens are
-- that were left over.
use Rattle.std.proofs.Common.{◌≡◌, ℕ, zero, suc, ◌+◌, ◌<◌, Bool, true, false, true≢false, ◌&&◌, ◌||◌, cond, eqb, eq-eqb}
use Rattle.std.proofs.Common.{ne_eqb, List, [], ◌∷◌, ◌++◌, length, None, refl, sym, ap, ap₂, ◌∙◌, subst, arith}
use Rattle.std.proofs.Common.{length-append}
use Rattle.std.proofs.lemmas.Bool.{and_right}
use Rattle.std.specs.Prelude.{⊤}
use Rattle.lexical_grammar.proofs.Limited.{limited-end}
use Rattle.lexical_grammar.proofs.Offsets.{item-some}
use Rattle.lexical_grammar.specs.Answers.{limited, is_end}
use Rattle.lexical_grammar.specs.Cut.{Item, Cut, CutFrom, is_significant_kind}
use Rattle.lexical_grammar.specs.declared.TokenKind.{TokenKind}
use Rattle.lexical_grammar.specs.declared.TokenKind.TheVariants as token_kind
use Rattle.document_grammar.proofs.Booleans.{and-l, and-r, or-c, not-c}
use Rattle.document_grammar.proofs.Shown.{index-at}
use Rattle.document_grammar.specs.Booleans.{◌and◌}
use Rattle.document_grammar.specs.Derivation.{texts as tree_texts}
use Rattle.document_grammar.specs.Forests as built
use Rattle.document_grammar.specs.Kinds.{ERROR, LIST_VALUE}
use Rattle.document_grammar.specs.Numbered.{numbered}
use Rattle.document_grammar.specs.Numbers.{number}
use Rattle.document_grammar.specs.Recovery.{AllRowed, is_such, token_at, is_right_bracket, left_over, count_left_over}
use Rattle.document_grammar.specs.Recovery.{NoBracket, Spares, LeftOver}
use Rattle.document_grammar.specs.Tree.{Text}
use Rattle.document_grammar.specs.declared.kind.SyntaxKind.{SyntaxKind}
use Rattle.document_grammar.specs.declared.kind.SyntaxKind.TheVariants as kind
use Rattle.parser_rules.proofs.recovery.Popped as popped_of
use Rattle.parser_rules.proofs.recovery.Popped.{lexeme_of, popped, pops_of, Reported_at, Allowed, PoppedReported}
use Rattle.parser_rules.proofs.recovery.Popped.{Recovery}
use Rattle.parser_rules.proofs.recovery.RecoveryCheck.{of_row, leaf_of_row}
use Rattle.parser_rules.proofs.recovery.RowSymbols.{rows}
use Rattle.parser_rules.proofs.reports.NoReport.{shown-kind}
use Rattle.parser_rules.proofs.runs.Reading.{ignored-kinds}
use Rattle.parser_rules.proofs.runs.TreesWithSources.{by-kind, Has, Source, token, aside, text_of, TreesWithSources}
use Rattle.parser_rules.proofs.runs.TreesWithSources.{none, leaf, node, erase, flat, now_of, sources, source_at}
use Rattle.parser_rules.specs.State.{State, Lexeme, Report, fault_report, ignored, is_at, same_kind, add_all}
use Rattle.parser_rules.specs.declared.message.Message.{Message}

-- ---- the symbols of rows

pub all-rowed : (k : ℕ) (forest : built.Forest) → rows k forest ≡ true → AllRowed k (numbered forest)
unfolding of_row leaf_of_row
all-rowed k built.none h = tt
all-rowed k (built.leaf j x rest) h = (or-c _ _ (and-l _ _ h), tt, all-rowed k rest (and-r _ _ h))
all-rowed k (built.node j kids rest) h = let a = and-l _ _ h in
    (and-l _ _ a, all-rowed (number j) kids (and-r _ _ a), all-rowed k rest (and-r _ _ h))

-- ---- tokens at offsets

module _ (kinds : TokenKind → Bool) where
  -- none begins before the first item
  none-at : (offset p : ℕ) (item : Item) (more : List Item) → CutFrom offset (item ∷ more) → p < offset
      → token_at kinds (item ∷ more) p ≡ false
  none-at offset p item [] cut h =
      rw (ne_eqb item.index p (λ z. omega (arith, z, index-at offset [] item [] cut, h))) refl
  none-at offset p item (next ∷ more) cut h = rw (ne_eqb item.index p (λ z. omega (arith, z, cut.0, h)))
      (none-at (offset + length item.text) p next more cut.2 (omega (arith, h)))

  -- at the first item's offset none begins after it
  none-behind : (offset : ℕ) (item : Item) (more : List Item) → CutFrom offset (item ∷ more)
      → token_at kinds more offset ≡ false
  none-behind offset item [] cut = refl
  none-behind offset item (next ∷ more) cut =
      none-at (offset + length item.text) offset next more cut.2 (omega (arith, item-some item.kind item.text _ cut.1))

  token-there : (offset : ℕ) (item : Item) (more : List Item) → CutFrom offset (item ∷ more)
      → token_at kinds (item ∷ more) offset ≡ is_such kinds item.kind
  token-there offset item more cut =
      let i = index-at offset [] item more cut in
      rw (eq-eqb item.index offset (omega (arith, i)), none-behind offset item more cut)
      (elim (is_such kinds item.kind) as (λ b. true && b || false ≡ b) [ true ↦ refl | false ↦ refl ])

-- ---- the sources of leaves

pub source-text : (item : Item) → text_of (source_at item item.kind) ≡ item.text
source-text item = by-kind (λ found o. text_of o ≡ item.text) item refl (λ k i. refl) (λ k own i. refl)

abbrev pub bytes : List Source → ℕ
bytes [] = 0
bytes (source ∷ these_sources) = length (text_of source) + bytes these_sources

pub bytes-append : (these_sources more_sources : List Source)
    → bytes (these_sources ++ more_sources) ≡ bytes these_sources + bytes more_sources
bytes-append [] more_sources = omega arith
bytes-append (source ∷ these_sources) more_sources = omega (arith, bytes-append these_sources more_sources)

pub text-bytes : (trees : TreesWithSources) → length (built.text (erase trees)) ≡ bytes (flat trees)
text-bytes none = refl
text-bytes (leaf source this_kind rest) =
    omega (arith, text-bytes rest, length-append (text_of source) (built.text (erase rest)))
text-bytes (node this_kind kids rest) = omega (
  arith,
  text-bytes kids,
  text-bytes rest,
  bytes-append (flat kids) (flat rest),
  length-append (built.text (erase kids)) (built.text (erase rest)),
)

numbered-text : (forest : built.Forest) → tree_texts (numbered forest) ≡ built.text forest
numbered-text built.none = refl
numbered-text (built.leaf k x rest) = ap (λ (s : Text). x ++ s) (numbered-text rest)
numbered-text (built.node k kids rest) = ap₂ (λ (a b : Text). a ++ b) (numbered-text kids) (numbered-text rest)

bracket-kind : (this_token_kind : TokenKind)
    → is_right_bracket this_token_kind ≡ same_kind this_token_kind token_kind.RBracket
unfolding same_kind
bracket-kind token_kind.RBracket = refl
bracket-kind _ = refl

-- what is at the offset of a source, and of each of some in a row
abbrev Known : List Item → ℕ → Source → Type 0
Known items b (token lexeme) =
    (lexeme.index ≡ b) × (ignored lexeme.kind ≡ None)
    × ((kinds : TokenKind → Bool) → token_at kinds items b ≡ kinds lexeme.kind)
Known items b (aside pending_token) = token_at is_significant_kind items b ≡ false

abbrev Known_all : List Item → ℕ → List Source → Type 0
Known_all items b [] = ⊤
Known_all items b (source ∷ these_sources) =
    Known items b source × Known_all items (b + length (text_of source)) these_sources

known-first : (offset : ℕ) (item : Item) (more : List Item) → CutFrom offset (item ∷ more)
    → Known (item ∷ more) offset (source_at item item.kind)
known-first offset item more cut =
    let i = index-at offset [] item more cut in
    by-kind (λ found o. ((kinds : TokenKind → Bool) → token_at kinds (item ∷ more) offset ≡ is_such kinds found)
    → Known (item ∷ more) offset o) item (λ t. t is_significant_kind) (λ k j t. (omega (arith, i), j, t))
    (λ k own j t. t is_significant_kind ∙ ignored-kinds (λ k own. is_significant_kind k ≡ false) refl refl refl k own j)
    (λ kinds. token-there kinds offset item more cut)

-- an item in front changes nothing
known-behind : (item : Item) (items : List Item) (b : ℕ) (these_sources : List Source) → item.index < b
    → Known_all items b these_sources
    → Known_all (item ∷ items) b these_sources
known-behind item items b [] l known_all = tt
known-behind item items b (token lexeme ∷ these_sources) l known_all = (
  (known_all.0.0, known_all.0.1, λ kinds. rw (ne_eqb item.index b (λ z. omega (arith, z, l))) (known_all.0.2 kinds)),
  known-behind item items (b + length lexeme.text) these_sources (omega (arith, l)) known_all.1,
)
known-behind item items b (aside pending_token ∷ these_sources) l known_all = (
  rw (ne_eqb item.index b (λ z. omega (arith, z, l))) known_all.0,
  known-behind item items (b + length pending_token.text) these_sources
      (omega (arith, l)) known_all.1,
)

known : (offset max_items : ℕ) (items : List Item) → CutFrom offset items
    → Known_all items offset (sources (limited max_items items))
known offset max_items [] cut = absurd cut
known offset zero (item ∷ items) cut = tt
known offset (suc k) (item ∷ []) cut = (
  known-first offset item [] cut,
  subst
      (λ xs. Known_all (item ∷ []) (offset + length (text_of (source_at item item.kind))) (sources xs))
      (sym (limited-end k)) tt,
)
known offset (suc k) (item ∷ next ∷ items) cut =
    let t = source-text item in
    let rest : Known_all (next ∷ items) (offset + length (text_of (source_at item item.kind)))
    (sources (limited k (next ∷ items))) =
    subst (λ x. Known_all (next ∷ items) (offset + length x) (sources (limited k (next ∷ items)))) (sym t)
    (known (offset + length item.text) k (next ∷ items) cut.2) in (
      known-first offset item (next ∷ items) cut,
      known-behind item (next ∷ items) _ _
          (omega (arith, cut.0, ap length t, item-some item.kind item.text _ cut.1)) rest,
    )

known-parts : (items : List Item) (b : ℕ) (these_sources more_sources : List Source)
    → Known_all items b (these_sources ++ more_sources)
    → Known_all items b these_sources × Known_all items (b + bytes these_sources) more_sources
known-parts items b [] more_sources known_all =
    (tt, subst (λ n. Known_all items n more_sources) (omega arith) known_all)
known-parts items b (source ∷ these_sources) more_sources known_all = let r = known-parts items
    (b + length (text_of source)) these_sources more_sources known_all.1 in
    ((known_all.0, r.0), subst (λ n. Known_all items n more_sources) (omega arith) r.1)

-- what is said of the offset and the text of each token that has a report
abbrev Said : List Report → (ℕ → Text → Type 0) → Type 0
Said errors P = (message : Message) (lexeme : Lexeme) → is_end lexeme.kind ≡ false
    → Has errors (fault_report message lexeme) → P lexeme.index lexeme.text

module _ (items : List Item) where
  -- trees that know their tokens
  left-is : (source : Source) (own : SyntaxKind) (b : ℕ) → Known items b source
      → left_over items b (number own) ≡ popped source own
  unfolding ◌and◌
  left-is (token lexeme) own b h =
      ap (λ (z : Bool). eqb (number own) ERROR && z) (h.2 is_significant_kind ∙ shown-kind lexeme.kind h.1)
  left-is (aside pending_token) own b h = and_right (eqb (number own) ERROR) _ h

  -- the offsets in a node, and after it
  known-node : (b : ℕ) (kids : TreesWithSources) (these_sources : List Source)
      → Known_all items b (flat kids ++ these_sources)
      → Known_all items b (flat kids) × Known_all items (b + length (tree_texts (numbered (erase kids)))) these_sources
  known-node b kids these_sources known_all = rw (ap length (numbered-text (erase kids)) ∙ text-bytes kids)
      (known-parts items b (flat kids) these_sources known_all)

  counted : (trees : TreesWithSources) (b : ℕ) → Known_all items b (flat trees)
      → count_left_over items b (numbered (erase trees)) ≡ pops_of trees
  counted none b known_all = refl
  counted (leaf source own rest) b known_all =
      ap₂ (λ (x : Bool) (n : ℕ). cond x 1 0 + n) (left-is source own b known_all.0)
      (counted rest (b + length (text_of source)) known_all.1)
  counted (node this_kind kids rest) b known_all = counted rest _ (known-node b kids (flat rest) known_all).1

  spared : (trees : TreesWithSources) (b : ℕ) → Known_all items b (flat trees) → popped_of.NoBracket trees
      → NoBracket items b (numbered (erase trees))
  spared none b known_all no_bracket = tt
  spared (leaf source own rest) b h n =
      ((λ z. on source h.0 (sym (left-is source own b h.0) ∙ z) n.0), spared rest (b + length (text_of source)) h.1 n.1)
    where
      on : (source : Source) → Known items b source → popped source own ≡ true
          → (popped source own ≡ true → is_at token_kind.RBracket (lexeme_of source) ≡ false)
          → token_at is_right_bracket items b ≡ false
      on (token lexeme) h z n = h.2 is_right_bracket ∙ bracket-kind lexeme.kind ∙ n z
      on (aside pending_token) h z n = absurd (true≢false (sym z))
  spared (node this_kind kids rest) b known_all no_bracket =
      spared rest _ (known-node b kids (flat rest) known_all).1 no_bracket

  allowed : (this_kind : SyntaxKind) (kids : TreesWithSources) (b : ℕ) → Known_all items b (flat kids)
      → Allowed this_kind kids
      → Spares items b (number this_kind) (numbered (erase kids))
  allowed kind.LIST_VALUE kids b h a = ((λ z. spared kids b h a), λ z. absurd (z refl))
  allowed _ kids b known_all a =
      ((λ z. absurd (true≢false (sym (eq-eqb _ LIST_VALUE z)))), λ z. omega (arith, counted kids b known_all, a))

  -- each token that was left over has a report, and so what is said of those that have one
  left-said : (errors : List Report) (P : ℕ → Text → Type 0) → Said errors P → (trees : TreesWithSources) (b : ℕ)
      → Known_all items b (flat trees)
      → PoppedReported errors trees → LeftOver P items b (numbered (erase trees))
  left-said errors P said none b known_all popped_reported = tt
  left-said errors P said (leaf source own rest) b h r = (
    (λ z. on source h.0 (sym (left-is source own b h.0) ∙ z) r.0),
    left-said errors P said rest (b + length (text_of source)) h.1 r.1,
  )
    where
      on : (source : Source) → Known items b source → popped source own ≡ true
          → (popped source own ≡ true → Reported_at errors (lexeme_of source))
          → P b (text_of source)
      on (token lexeme) h z r =
          subst (λ (n : ℕ). P n lexeme.text) h.0 (said (r z).0 lexeme (not-c _ (and-r _ _ z)) (r z).1)
      on (aside pending_token) h z r = absurd (true≢false (sym z))
  left-said errors P said (node this_kind kids rest) b known_all popped_reported =
      let k = known-node b kids (flat rest) known_all in (
        allowed this_kind kids b k.0 popped_reported.0,
        left-said errors P said kids b k.0 popped_reported.1,
        left-said errors P said rest _ k.1 popped_reported.2,
      )

-- Each token that was left over is where one may be, and what is said of reported tokens holds of it.
pub left-over : (source : List ℕ) (max_items : ℕ) (items : List Item) (state : State) → Cut source items
    → (P : ℕ → Text → Type 0) → Said state.errors P
    → Recovery (limited max_items items) state → LeftOver P items 0 (numbered (add_all state.pending state.tree).here)
left-over source max_items items state cut P said recovery =
    let each : Known_all items 0 (flat recovery.trees ++ (now_of state.current ++ sources state.items)) =
    subst (Known_all items 0) (sym recovery.order)
    (known 0 max_items items cut.each) in
    subst (λ (f : built.Forest). LeftOver P items 0 (numbered f)) recovery.tree
    (left-said items state.errors P said recovery.trees 0
    (known-parts items 0 (flat recovery.trees) _ each).0 recovery.recovers)
