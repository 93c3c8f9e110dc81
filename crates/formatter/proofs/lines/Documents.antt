-- A formatted text with another line end is one.
use Rattle.std.proofs.Common.{◌≡◌, ℕ, ◌⊎◌, true, false, List, [], ◌∷◌, sym, ap, ◌∙◌, subst, inl, inr}
use Rattle.std.proofs.Math.Logic.{∥∥₁_elim}
use Rattle.std.proofs.Props.{props}
use Rattle.lexical_grammar.proofs.StringValues.{block-one}
use Rattle.lexical_grammar.specs.Cut.{Item, Word, are_tokens}
use Rattle.lexical_grammar.specs.Kept.{Holds, Kept}
use Rattle.lexical_grammar.specs.Values.{Block}
use Rattle.document_grammar.proofs.Texts.{one-cut}
use Rattle.document_grammar.specs.Derivation.{document as a_document}
use Rattle.document_grammar.specs.Kinds.{STRING}
use Rattle.document_grammar.specs.Sentence.{Sentence}
use Rattle.document_grammar.specs.Tree.{Tree, leaf, node, Forest, none, ◌▸◌}
use Rattle.format_layout.proofs.Respelling.{respelled}
use Rattle.format_layout.proofs.Unsigned.{marks-alike, unsigned-alike, without-same}
use Rattle.format_layout.specs.Formatted.{Formatted, HasLayoutOf}
use Rattle.format_layout.specs.Respelled.{Alike, AllAlike, AreSameWords, SameBlock, SameWord}
use Rattle.format_layout.specs.Signs.{signs, unsigned, without_marked}
use Rattle.formatter.proofs.Ignored.{are_comments, comments-kept, ignored-of, same-words}
use Rattle.formatter.proofs.lines.Ends.{turn, turn-is}
use Rattle.formatter.proofs.lines.Items.{turned_items, turned-cut, turned-tokens, turned-same}
use Rattle.formatter.specs.Comments.{HasSameComments}
use Rattle.formatter.specs.Formatted.{IsFormatted}
use Rattle.formatter.specs.LineEnds.{with_line_end}
use Rattle.formatter.specs.declared.line_ends.LineEnd.{LineEnd}

-- the same as what is the same
block-trans : (a b c : List ℕ) → SameBlock a b → SameBlock b c → SameBlock a c
block-trans a b c s t = record {
  value = s.value;
  first = s.first;
  second = ∥∥₁_elim s.second (hlevel props) (λ x. ∥∥₁_elim t.first (hlevel props) (λ y. ∥∥₁_elim t.second (hlevel props)
      (λ z. ∣ subst (Block c) (block-one b t.value s.value y x) z ∣₁)));
}

texts-trans : (k j : ℕ) (x y z : List ℕ) → k ≡ j → (x ≡ y) ⊎ ((k ≡ STRING) × SameBlock x y)
    → (y ≡ z) ⊎ ((j ≡ STRING) × SameBlock y z)
    → (x ≡ z) ⊎ ((k ≡ STRING) × SameBlock x z)
texts-trans k j x y z e (inl a) (inl b) = inl (a ∙ b)
texts-trans k j x y z e (inl a) (inr b) = inr (e ∙ b.0, subst (λ w. SameBlock w z) (sym a) b.1)
texts-trans k j x y z e (inr a) (inl b) = inr (a.0, subst (SameBlock x) b a.1)
texts-trans k j x y z e (inr a) (inr b) = inr (a.0, block-trans x y z a.1 b.1)

word-trans : (a b c : Word) → SameWord a b → SameWord b c → SameWord a c
word-trans a b c (inl e) t = subst (λ w. SameWord w c) (sym e) t
word-trans a b c (inr s) (inl e) = subst (SameWord a) e (inr s)
word-trans a b c (inr s) (inr t) = inr (s.0, t.1, block-trans a.text b.text c.text s.2 t.2)

words-trans : (xs ys zs : List Word) → AreSameWords xs ys → AreSameWords ys zs → AreSameWords xs zs
words-trans [] [] zs s t = t
words-trans [] (y ∷ ys) zs s t = absurd s
words-trans (x ∷ xs) [] zs s t = absurd s
words-trans (x ∷ xs) (y ∷ ys) [] s t = absurd t
words-trans (x ∷ xs) (y ∷ ys) (z ∷ zs) s t = (word-trans x y z s.0 t.0, words-trans xs ys zs s.1 t.1)

-- trees that are the same as trees that are
mutual
  alike-trans : (t u v : Tree) → Alike t u → Alike u v → Alike t v
  alike-trans (leaf k x) (leaf j y) (leaf i z) a b = (a.0 ∙ b.0, texts-trans k j x y z a.0 a.1 b.1)
  alike-trans (leaf k x) (leaf j y) (node i h) a b = absurd b
  alike-trans (leaf k x) (node j g) v a b = absurd a
  alike-trans (node k f) (leaf j y) v a b = absurd a
  alike-trans (node k f) (node j g) (leaf i z) a b = absurd b
  alike-trans (node k f) (node j g) (node i h) a b = (a.0 ∙ b.0, all-alike-trans f g h a.1 b.1)

  all-alike-trans : (f g h : Forest) → AllAlike f g → AllAlike g h → AllAlike f h
  all-alike-trans none none h a b = b
  all-alike-trans none (u ▸ g) h a b = absurd a
  all-alike-trans (t ▸ f) none h a b = absurd a
  all-alike-trans (t ▸ f) (u ▸ g) none a b = absurd b
  all-alike-trans (t ▸ f) (u ▸ g) (v ▸ h) a b = (alike-trans t u v a.0 b.0, all-alike-trans f g h a.1 b.1)

turned-layout : (end : LineEnd) (source text : List ℕ) → Formatted source text → (t : Tree)
    → (own : Sentence source t a_document)
    → HasLayoutOf source t own (turn end false text)
turned-layout end source text f t own =
    let l = f.layout t own in
    let items = l.sentence.items in
    let others = turned_items end 0 items in
    let cut = turned-cut end text items l.sentence.cut l.sentence.tokens in
    let tokens : are_tokens others ≡ true = turned-tokens end 0 items ∙ l.sentence.tokens in
    let same = turned-same end 0 0 items l.sentence.cut.each l.sentence.tokens in
    let again = respelled text (turn end false text) items others l.tree l.sentence.cut l.sentence.tokens cut
    tokens same l.sentence in
    let cuts : others ≡ again.sentence.items =
    one-cut (turn end false text) others again.sentence.items cut again.sentence.cut tokens in
    let marked : signs l.tree ≡ signs again.tree = sym (marks-alike false l.tree again.tree again.alike) in
    let right : without_marked (signs l.tree) (Kept others)
    ≡ without_marked (signs again.tree) (Kept again.sentence.items) =
    ap (λ m. without_marked m (Kept others)) marked ∙ ap (λ i. without_marked (signs again.tree) (Kept i)) cuts in
    record {
      tree = again.tree;
      sentence = again.sentence;
      alike = alike-trans (unsigned t) (unsigned l.tree) (unsigned again.tree) l.alike
          (unsigned-alike l.tree again.tree again.alike);
      words = subst (AreSameWords (without_marked (signs t) (Kept own.items))) right
          (words-trans (without_marked (signs t) (Kept own.items)) (without_marked (signs l.tree) (Kept items))
          (without_marked (signs l.tree) (Kept others))
          l.words (without-same (signs l.tree) (Kept items) (Kept others) same));
    }

turned-formatted : (end : LineEnd) (source text : List ℕ) → Formatted source text
    → Formatted source (turn end false text)
turned-formatted end source text f = record { layout = turned-layout end source text f }

pub document : (end : LineEnd) (source text : List ℕ) (r k : ℕ) → IsFormatted source r k text
    → IsFormatted source r k (with_line_end end text)
document end source text r k f = record {
  document = f.document;
  formatted = subst (Formatted source) (turn-is end text) (turned-formatted end source text f.formatted);
}

turned-holds : (end : LineEnd) (text : List ℕ) (items : List Item) → are_comments (Kept items) ≡ true
    → Holds text (Kept items)
    → Holds (turn end false text) (Kept items)
turned-holds end text items comments h =
    let same = subst (λ words. AreSameWords words (Kept (turned_items end 0 h.items))) h.same
    (turned-same end 0 0 h.items h.cut.each h.tokens) in
    record {
      items = turned_items end 0 h.items;
      cut = turned-cut end text h.items h.cut h.tokens;
      tokens = turned-tokens end 0 h.items ∙ h.tokens;
      same = same-words (Kept items) (Kept (turned_items end 0 h.items)) comments same;
    }

pub comments : (end : LineEnd) (source text : List ℕ) → HasSameComments source text
    → HasSameComments source (with_line_end end text)
comments end source text c =
    let only = c.only in
    record {
      only = only;
      same = subst (λ t. Holds t (Kept only.items)) (turn-is end text)
          (turned-holds end text only.items (comments-kept only.items (ignored-of only.items only.tokens only.none))
          c.same);
    }
