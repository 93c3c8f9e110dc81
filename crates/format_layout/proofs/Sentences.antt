-- Texts with the tokens and comments of a document are documents.
use Rattle.std.proofs.Common.{◌≡◌, ℕ, ◌≤◌, true, false, List, length, sym, ap, ◌∙◌, subst, arith}
use Rattle.std.specs.Prelude.{map}
use Rattle.std.specs.Str.{IsUtf8}
use Rattle.lexical_grammar.proofs.TheCut.{is-cut}
use Rattle.lexical_grammar.specs.Answers.{usize_max}
use Rattle.lexical_grammar.specs.Cut.{Item, Cut, Significant, are_tokens}
use Rattle.lexical_grammar.specs.Kept.{Kept}
use Rattle.lexical_grammar.specs.Reads.{items_of}
use Rattle.document_grammar.proofs.Texts.{one-cut}
use Rattle.document_grammar.specs.Derivation.{Yield, document}
use Rattle.document_grammar.specs.Sentence.{Sentence, token_of}
use Rattle.document_grammar.specs.Tree.{Tree}
use Rattle.format_layout.proofs.Relabeled.{AreSame}
use Rattle.format_layout.proofs.Resigned.{redone}
use Rattle.format_layout.proofs.Respelling.{respelled-tokens, significant-same, tokens-same}
use Rattle.format_layout.proofs.Significant.{significant, significant-kept}
use Rattle.format_layout.proofs.Steps.{Fit, pipe_token, to-tokens, tokens}
use Rattle.format_layout.proofs.Unsigned.{marks-alike, unsigned-alike, without-same}
use Rattle.format_layout.specs.Chosen.{chosen, pipe_word}
use Rattle.format_layout.specs.Formatted.{IsSentence, HasLayoutOf, Formatted}
use Rattle.format_layout.specs.Respelled.{Alike, AreSameWords}
use Rattle.format_layout.specs.Signs.{signs, unsigned, without_marked}
use Rattle.format_layout.specs.Written.{HoldsChosen}
use Rattle.format_layout.specs.declared.lead.Lead.TheVariants.{Other}

same-items : (source : List ℕ) (items : List Item) → IsUtf8 source → Cut source items → are_tokens items ≡ true
    → items ≡ items_of source
same-items source items u c h = one-cut source items (items_of source) c (is-cut source u) h

-- the items of a sentence are within the range of a limit
pub few-items : (source : List ℕ) → IsUtf8 source → IsSentence source → length (items_of source) ≤ usize_max
few-items source u s =
    let (r, k, le, w) = s.within in
    let same = same-items source s.sentence.items u s.sentence.cut s.sentence.tokens in
    let others : items_of source ≡ w.items =
    sym same ∙ one-cut source s.sentence.items w.items s.sentence.cut w.cut s.sentence.tokens in
    omega (arith, w.count, ap (λ (l : List Item). length l) others)

-- a text that holds the tokens and comments of a document so, with signs that are left out or put in, has another
-- layout of it
has-layout : (source text : List ℕ) → IsUtf8 source → HoldsChosen text (Kept (items_of source)) → (t : Tree)
    → (own : Sentence source t document)
    → HasLayoutOf source t own text
has-layout source text u h t own =
    let items : own.items ≡ items_of source = same-items source own.items u own.cut own.tokens in
    let given = to-tokens Other h.lead h.choices (Kept (items_of source)) h.allowed in
    let yield : tokens (Kept (items_of source)) ≡ Yield t =
    ap (map token_of) (significant-kept (items_of source))
    ∙ ap (λ l. map token_of (Significant l)) (sym items) ∙ sym own.yield in
    let r = redone t given.choices own.derivation (subst (Fit Other given.choices) yield given.fit) in
    let mid = chosen pipe_word h.choices (Kept (items_of source)) in
    let others = h.holds.holds.items in
    let same : AreSameWords mid (Kept others) = subst (AreSameWords mid) (sym h.holds.holds.same) h.holds.same in
    let written : tokens mid ≡ Yield r.tree = given.same ∙ ap (chosen pipe_token given.choices) yield ∙ r.written in
    let spelled : AreSame (Yield r.tree) (map token_of (Significant others)) =
    subst (λ l. AreSame l (map token_of (Significant others))) written
    (subst (λ l. AreSame (tokens mid) (map token_of l)) (significant-kept others)
    (tokens-same (significant mid) (significant (Kept others)) (significant-same mid (Kept others) same))) in
    let again = respelled-tokens text others r.tree r.derivation h.holds.holds.cut h.holds.holds.tokens spelled in
    let cuts : others ≡ again.sentence.items =
    one-cut text others again.sentence.items h.holds.holds.cut again.sentence.cut h.holds.holds.tokens in
    let left : without_marked (signs t) (Kept own.items) ≡ without_marked (signs r.tree) mid =
    ap (λ l. without_marked (signs t) (Kept l)) items ∙ given.marks (signs t) r.at
    ∙ ap (λ m. without_marked m mid) r.marked in
    let right : without_marked (signs r.tree) (Kept others)
    ≡ without_marked (signs again.tree) (Kept again.sentence.items) =
    ap (λ m. without_marked m (Kept others)) (sym (marks-alike false r.tree again.tree again.alike))
    ∙ ap (λ l. without_marked (signs again.tree) (Kept l)) cuts in
    record {
      tree = again.tree;
      sentence = again.sentence;
      alike = subst (λ v. Alike v (unsigned again.tree)) r.bare (unsigned-alike r.tree again.tree again.alike);
      words = subst (λ l. AreSameWords l (without_marked (signs again.tree) (Kept again.sentence.items))) (sym left)
          (subst (AreSameWords (without_marked (signs r.tree) mid)) right
          (without-same (signs r.tree) mid (Kept others) same));
    }

pub formatted : (source text : List ℕ) → IsUtf8 source → HoldsChosen text (Kept (items_of source))
    → Formatted source text
formatted source text u h = record { layout = has-layout source text u h }
