-- A text has at most one cut without bad text, so a sentence has one derivation. And what is said of texts, said of
-- their tokens.
use Rattle.std.proofs.Common.{◌≡◌, ℕ, true, List, [], ◌∷◌, refl, sym, ap, ap₂, ◌∙◌, inl, inr, true≢false}
use Rattle.std.proofs.lemmas.Bool.{and_parts}
use Rattle.std.specs.Prelude.{is_some}
use Rattle.lexical_grammar.proofs.Agree.{cuts-agree}
use Rattle.lexical_grammar.specs.Agreement.{Agree}
use Rattle.lexical_grammar.specs.Cut.{Item, Cut, are_tokens}
use Rattle.document_grammar.proofs.FirstProfile.{derivation-kept}
use Rattle.document_grammar.specs.Beginnings.{Starts, StartsWithin}
use Rattle.document_grammar.specs.Derivation.{Sort, Yield, Terminal}
use Rattle.document_grammar.specs.Sentence.{Sentence, FirstSentence, StartSentence, StartSentenceWithin}
use Rattle.document_grammar.specs.Tree.{Tree}

agree-same : (items others : List Item) → Agree items others → are_tokens items ≡ true → items ≡ others
agree-same [] [] a h = refl
agree-same [] (other ∷ others) a h = elim a [ ]
agree-same (item ∷ items) [] a h = elim a [ ]
agree-same (item ∷ items) (other ∷ others) a h =
    let parts = and_parts (is_some item.kind) (are_tokens items) h in
    elim a [
      | inl same ↦ ap₂ (λ (i : Item) (is : List Item). i ∷ is) same.0 (agree-same items others same.1 parts.1)
      | inr bad ↦ absurd (true≢false (sym parts.0 ∙ ap is_some bad.0.bad))
    ]

pub one-cut : (source : List ℕ) (items others : List Item) → Cut source items → Cut source others
    → are_tokens items ≡ true → items ≡ others
one-cut source items others c d h =
    agree-same items others (cuts-agree items others 0 c.each d.each (c.joined ∙ sym d.joined)) h

pub first-sentence : (source : List ℕ) (t : Tree) (sort : Sort) → FirstSentence source t sort → Sentence source t sort
first-sentence source t sort s =
    record {
      items = s.items;
      cut = s.cut;
      tokens = s.tokens;
      derivation = derivation-kept sort t s.derivation;
      yield = s.yield;
    }

-- What starts a sentence, starts the tokens that a derivation spells.
pub sentence-starts : (sort : Sort) (front : List Terminal) → StartSentence sort front → Starts sort front
sentence-starts sort front (r, s) = (Yield s.tree, s.tree, s.rest, (s.sentence.derivation, refl), s.beginning)

pub sentence-starts-within : (sort : Sort) (r : ℕ) (front : List Terminal) → StartSentenceWithin sort r front
    → StartsWithin sort r front
sentence-starts-within sort r front s =
    (Yield s.tree, s.tree, s.rest, (s.sentence.derivation, refl), s.beginning, s.nesting)
