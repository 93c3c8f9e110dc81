-- The nodes that a significant token before the first report follows fit: by the bytes where they end, instead of the
-- tokens before their end.
use Rattle.std.proofs.Common.{◌≡◌, ◌≢◌, ℕ, zero, suc, ◌+◌, ◌<◌, ◌≤◌, Bool, true, false, true≢false, cond, ltb, List, []}
use Rattle.std.proofs.Common.{◌∷◌, ◌++◌, length, Option, Some, None, refl, sym, ap, ◌∙◌, subst, subst₂, inl, inr, ◌⊎◌}
use Rattle.std.proofs.Common.{arith, is_some, append_assoc, length-append}
use Rattle.std.proofs.lemmas.Bool.{and_parts, false_from_ne_true}
use Rattle.std.specs.Prelude.{map}
use Rattle.lexical_grammar.specs.Answers.{limited, limit_index, is_end}
use Rattle.lexical_grammar.specs.Cut.{Item, Cut, CutFrom, texts, Significant, Word, significant_word, are_tokens}
use Rattle.lexical_grammar.specs.declared.TokenKind.{TokenKind}
use Rattle.lexical_grammar.specs.declared.TokenKind.TheVariants as token
use Rattle.document_grammar.proofs.Shown.{index-at, item-then, not-the-end, significant-some, tokens-append, earlier}
use Rattle.document_grammar.proofs.Shown.{tokens-before}
use Rattle.document_grammar.specs.Derivation.{Sort, texts as tree_texts}
use Rattle.document_grammar.specs.FirstError.{EndedFit, AllEndedFit, EndedNodesFit}
use Rattle.document_grammar.specs.Forests as built
use Rattle.document_grammar.specs.Kinds.{ERROR}
use Rattle.document_grammar.specs.Leaves.{leaves, IsLeafOf, IsLeafOfToken, OneLeafAnItem, one, the_end, the_limit}
use Rattle.document_grammar.specs.Numbered.{numbered, tree_of}
use Rattle.document_grammar.specs.Numbers.{number}
use Rattle.document_grammar.specs.Sentence.{token_of, tokens_of}
use Rattle.document_grammar.specs.Tree.{Text}
use Rattle.document_grammar.specs.declared.kind.SyntaxKind.{SyntaxKind}
use Rattle.parser_rules.proofs.reports.InOrder.{limit-near}
use Rattle.parser_rules.proofs.reports.NoReport.{kind_tokens, item_tokens, end-kind, significant}
use Rattle.parser_rules.proofs.runs.Reading.{ignored-leaf}
use Rattle.parser_rules.proofs.soundness.FirstErrors.{offset-is}
use Rattle.parser_rules.proofs.soundness.OverTexts.{IsRight, words-cons}
use Rattle.parser_rules.proofs.soundness.Settled as counted
use Rattle.parser_rules.proofs.soundness.Soundness.{item-words}
use Rattle.parser_rules.specs.State.{PendingToken, Report, ignored}

-- whether a leaf is ignored or not
abbrev one_leaf : SyntaxKind → ℕ
one_leaf kind = cond (ltb (number kind) ERROR) 0 1

-- a leaf of a token counts at most as the token does
at-most : (found : Option TokenKind) (text : Text) (pending_token : PendingToken) → is_some found ≡ true
    → IsLeafOf found pending_token → found ≢ Some token.Eof
    → one_leaf pending_token.kind ≤ length (item_tokens found text)
at-most None text pending_token s is_leaf_of n = absurd (true≢false (sym s))
at-most (Some k) text pending_token s is_leaf_of n =
    (elim (ignored k) as (λ o. ignored k ≡ o → IsLeafOfToken k o pending_token
    → one_leaf pending_token.kind ≤ length (kind_tokens k text)) [
      | Some own ↦ λ i g. let z : one_leaf pending_token.kind ≡ 0 =
          ap one_leaf g ∙ ap (λ (b : Bool). cond b 0 1) (ignored-leaf k own i) in omega (arith, z)
      | None ↦ λ i g. (
          let z = ap length (significant k text (false_from_ne_true (is_end k) (λ e. n (ap Some (end-kind k e)))) i) in
          let m : one_leaf pending_token.kind ≤ 1 = elim (ltb (number pending_token.kind) ERROR) as
          (λ b. cond b 0 1 ≤ 1) [ true ↦ omega arith | false ↦ omega arith ] in
          omega (arith, z, m))
    ]) refl is_leaf_of

words-length : (item : Item) (more : List Item)
    → length (tokens_of (item ∷ more)) ≡ length (item_tokens item.kind item.text) + length (tokens_of more)
words-length item more =
    ap length (words-cons item more) ∙ length-append (item_tokens item.kind item.text) (tokens_of more)

-- the offset of a token, which begins at the byte m and has fewer than n tokens before it
module _ (m n : ℕ) (item : Item) (more : List Item) (some : 0 < length item.text)
    (real : Significant (item ∷ []) ≢ []) where
  -- after t tokens and b bytes: the offset is passed, or the leaves are of the items up to the token, and so on
  abbrev Ahead : ℕ → ℕ → List PendingToken → Type 0
  Ahead t b ls = (m < b) ⊎ ((max_items : ℕ) × (before : List Item) × CutFrom b (before ++ item ∷ more)
      × (are_tokens before ≡ true)
      × (t + length (tokens_of before) < n) × (b + length (texts before) ≡ m)
      × OneLeafAnItem (limited max_items (before ++ item ∷ more)) ls)

  ahead-few : (t b : ℕ) (ls : List PendingToken) → Ahead t b ls → b ≤ m → t < n
  ahead-few t b ls (inl p) z = absurd (omega (arith, p, z))
  ahead-few t b ls (inr h) z = omega (arith, h.4)

  ahead-leaf : (t b : ℕ) (pending_token : PendingToken) (ls : List PendingToken) → Ahead t b (pending_token ∷ ls)
      → Ahead (t + one_leaf pending_token.kind) (b + length pending_token.text) ls
  ahead-leaf t b pending_token ls (inl p) = inl (omega (arith, p))
  ahead-leaf t b pending_token ls (inr (zero, [], cut, are, few, at, the_limit one_leaf_an_item)) =
      elim one_leaf_an_item [ ]
  ahead-leaf t b pending_token ls (inr (zero, c ∷ before, cut, are, few, at, the_limit one_leaf_an_item)) =
      elim one_leaf_an_item [ ]
  ahead-leaf t b pending_token ls (inr (suc k, [], cut, are, few, at, one e fit one_leaf_an_item)) =
      inl (omega (arith, ap length e, at, some))
  ahead-leaf t b pending_token ls (inr (suc k, [], cut, are, few, at, the_end e one_leaf_an_item)) =
      absurd (real (ap (λ (found : Option TokenKind). significant_word found item.text ++ []) e))
  ahead-leaf t b pending_token ls (inr (suc k, c ∷ before, cut, are, few, at, one e fit one_leaf_an_item)) =
      let rest = item-then b before item more c cut in
      let p = and_parts (is_some c.kind) (are_tokens before) are in
      let first = at-most c.kind c.text pending_token p.0 fit (not-the-end c.kind c.text _ rest.1) in
      let next : CutFrom (b + length pending_token.text) (before ++ item ∷ more) =
      subst (λ (x : Text). CutFrom (b + length x) (before ++ item ∷ more))
      (sym e) rest.2 in
      inr (
        k,
        before,
        next,
        p.1,
        omega (arith, few, first, words-length c before),
        omega (arith, at, ap length e, length-append c.text (texts before)),
        one_leaf_an_item,
      )
  ahead-leaf t b pending_token ls (inr (suc k, c ∷ before, cut, are, few, at, the_end e one_leaf_an_item)) =
      absurd (not-the-end c.kind c.text _ (item-then b before item more c cut).1 e)

  by-bytes : (t b : ℕ) (forest : built.Forest) (back : List PendingToken) → Ahead t b (leaves forest ++ back)
      → counted.EndedFit n t forest
      → AllEndedFit m b (numbered forest)
      × Ahead (t + counted.tokens forest) (b + length (tree_texts (numbered forest))) back
  by-bytes t b built.none back h c = (tt, subst₂ (λ x y. Ahead x y back) (omega arith) (omega arith) h)
  by-bytes t b (built.leaf k x rest) back ahead ended_fit =
      let r = by-bytes (t + one_leaf k) (b + length x) rest back
      (ahead-leaf t b (record { kind = k; text = x }) (leaves rest ++ back) ahead) ended_fit in (
        (tt, r.0),
        subst₂ (λ x y. Ahead x y back) (omega arith)
            (omega (arith, length-append x (tree_texts (numbered rest)))) r.1,
      )
  by-bytes t b (built.node k kids rest) back ahead ended_fit =
      let l = by-bytes t b kids (leaves rest ++ back)
      (subst (Ahead t b) (append_assoc (leaves kids) (leaves rest) back) ahead) ended_fit.1 in
      let r = by-bytes (t + counted.tokens kids) (b + length (tree_texts (numbered kids))) rest back
      l.1 ended_fit.2 in (
        (((λ z. ended_fit.0 (ahead-few _ _ (leaves rest ++ back) l.1 z)), l.0), r.0),
        subst₂ (λ x y. Ahead x y back) (omega arith)
            (omega (arith, length-append (tree_texts (numbered kids)) (tree_texts (numbered rest)))) r.1,
      )

some-word : (w : List Word) → w ++ [] ≢ [] → 0 < length (map token_of w)
some-word [] h = absurd (h refl)
some-word (word ∷ w) h = omega arith

first-ended : (m : ℕ) (forest : built.Forest) → AllEndedFit m 0 (numbered forest) → EndedFit m 0 (tree_of forest)
first-ended m (built.node k kids rest) all_ended_fit = all_ended_fit.0
first-ended m _ all_ended_fit = tt

-- Each node that a significant token in front of the first report follows fits. The leaves of the tree are of the first
-- answers.
pub ended-nodes : {sort : Sort} {source : List ℕ} {items : List Item} {max_depth max_items : ℕ} {report : Report}
    (forest : built.Forest)
    (back : List PendingToken) (cut : Cut source items)
    (is_right : IsRight sort source items max_depth max_items report)
    → OneLeafAnItem (limited max_items items) (leaves forest ++ back)
    → counted.EndedFit (length (tokens_of is_right.before)) 0 forest
    → EndedNodesFit items report.index (tree_of forest)
ended-nodes {items = items} {max_items = max_items} {report = report} forest back cut is_right
    one_leaf_an_item ended_fit m a s l =
    let each : CutFrom 0 (a.before ++ a.item ∷ a.more) = subst (CutFrom 0) a.split cut.each in
    let there = index-at 0 a.before a.item a.more each in
    let own = index-at 0 is_right.before is_right.item is_right.more (subst (CutFrom 0) is_right.split cut.each) in
    let at = a.index in
    let below : report.index ≤ is_right.item.index = elim (offset-is is_right.reason) [
      | inl z ↦ (let y : report.index ≡ limit_index is_right.item = ap (λ (x : Report). x.index) z in
          let b = (limit-near is_right.item.kind is_right.item.index).1 in omega (arith, y, b))
      | inr z ↦ omega (arith, z)
    ] in
    let b = earlier a.before a.item a.more is_right.before is_right.item is_right.more (sym a.split ∙ is_right.split)
    (omega (arith, l, below, there, own, at)) in
    let tokens : are_tokens a.before ≡ true = tokens-before a.before (a.item ∷ b.mid)
    (subst (λ (z : List Item). are_tokens z ≡ true) b.split is_right.tokens) in
    let count = some-word (significant_word a.item.kind a.item.text) s in
    let own_words = ap length (item-words a.item.kind a.item.text) in
    let all = ap length (ap tokens_of b.split ∙ tokens-append a.before (a.item ∷ b.mid))
    ∙ length-append (tokens_of a.before) (tokens_of (a.item ∷ b.mid)) in
    let few : 0 + length (tokens_of a.before) < length (tokens_of is_right.before) =
    omega (arith, count, own_words, all, words-length a.item b.mid) in
    let one_each : OneLeafAnItem (limited max_items (a.before ++ a.item ∷ a.more)) (leaves forest ++ back) = subst
    (λ (is : List Item). OneLeafAnItem (limited max_items is) (leaves forest ++ back)) a.split one_leaf_an_item in
    first-ended m forest (by-bytes m _ a.item a.more (significant-some 0 a.before a.item a.more each s) s 0 0
    forest back
    (inr (max_items, a.before, each, tokens, few, omega (arith, there, at), one_each)) ended_fit).0
