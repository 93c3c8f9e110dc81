-- A sentence whose block strings are spelled in other words is a sentence.
use Rattle.std.proofs.Common.{◌≡◌, ℕ, inl, inr, true, List, [], ◌∷◌, ◌++◌, Some, refl, sym, ap, ◌∙◌, subst, append-nil}
use Rattle.std.specs.Prelude.{map}
use Rattle.lexical_grammar.specs.Cut.{Item, Word, Cut, Significant, significant_word, are_tokens}
use Rattle.lexical_grammar.specs.Kept.{Kept}
use Rattle.lexical_grammar.specs.declared.TokenKind.{TokenKind}
use Rattle.lexical_grammar.specs.declared.TokenKind.TheVariants.{StringValue}
use Rattle.document_grammar.proofs.Texts.{one-cut}
use Rattle.document_grammar.specs.Derivation.{Derivation, Yield, document}
use Rattle.document_grammar.specs.Sentence.{Sentence, token_of, leaf_number}
use Rattle.document_grammar.specs.Tree.{Token, Tree}
use Rattle.format_layout.proofs.Derivations.{alike-derivation}
use Rattle.format_layout.proofs.Relabeled.{SameToken, AreSame, relabel}
use Rattle.format_layout.proofs.Significant.{significant, significant-kept}
use Rattle.format_layout.specs.Respelled.{SameWord, AreSameWords, Respelled}

pub both-same : (xs ys more others : List Word) → AreSameWords xs ys → AreSameWords more others
    → AreSameWords (xs ++ more) (ys ++ others)
both-same [] [] more others a b = b
both-same [] (y ∷ ys) more others a b = absurd a
both-same (x ∷ xs) [] more others a b = absurd a
both-same (x ∷ xs) (y ∷ ys) more others a b = (a.0, both-same xs ys more others a.1 b)

pub same-refl : (xs : List Word) → AreSameWords xs xs
same-refl [] = tt
same-refl (x ∷ xs) = (inl refl, same-refl xs)

string-word : (kind : TokenKind) (text : List ℕ) → kind ≡ StringValue
    → significant_word (Some kind) text ≡ record { kind = kind; text = text } ∷ []
string-word StringValue text e = refl
string-word _ text e = absurd (cc)

word-same : (a b : Word) → SameWord a b
    → AreSameWords (significant_word (Some a.kind) a.text) (significant_word (Some b.kind) b.text)
word-same a b s = elim s [
  | inl e ↦ subst (λ (w : Word). AreSameWords (significant_word (Some a.kind) a.text)
      (significant_word (Some w.kind) w.text)) e
      (same-refl (significant_word (Some a.kind) a.text))
  | inr d ↦ subst (λ l. AreSameWords l (significant_word (Some b.kind) b.text)) (sym (string-word a.kind a.text d.0))
      (subst (λ l. AreSameWords (a ∷ []) l) (sym (string-word b.kind b.text d.1)) (inr d, tt))
]

pub significant-same : (xs ys : List Word) → AreSameWords xs ys → AreSameWords (significant xs) (significant ys)
significant-same [] [] s = tt
significant-same [] (y ∷ ys) s = absurd s
significant-same (x ∷ xs) [] s = absurd s
significant-same (x ∷ xs) (y ∷ ys) s =
    both-same (significant_word (Some x.kind) x.text) (significant_word (Some y.kind) y.text) (significant xs)
    (significant ys) (word-same x y s.0) (significant-same xs ys s.1)

token-same : (a b : Word) → SameWord a b → SameToken (token_of a) (token_of b)
token-same a b s = elim s [
  | inl e ↦ inl (ap token_of e)
  | inr d ↦ inr (ap leaf_number d.0, ap leaf_number d.1, d.2)
]

pub tokens-same : (xs ys : List Word) → AreSameWords xs ys → AreSame (map token_of xs) (map token_of ys)
tokens-same [] [] s = tt
tokens-same [] (y ∷ ys) s = absurd s
tokens-same (x ∷ xs) [] s = absurd s
tokens-same (x ∷ xs) (y ∷ ys) s = (token-same x y s.0, tokens-same xs ys s.1)

none-left : (left : List Token) → AreSame [] left → left ≡ []
none-left [] s = refl
none-left (b ∷ bs) s = absurd s

-- a derivation that spells tokens which are the same but for block strings
pub respelled-tokens : (text : List ℕ) (others : List Item) (t : Tree) → Derivation t document → Cut text others
    → are_tokens others ≡ true
    → AreSame (Yield t) (map token_of (Significant others)) → Respelled text t
respelled-tokens text others t derivation d k s =
    let r = relabel t [] (map token_of (Significant others))
    (subst (λ l. AreSame l (map token_of (Significant others))) (sym (append-nil (Yield t))) s) in
    record {
      tree = r.tree;
      alike = r.alike;
      sentence = record {
        items = others;
        cut = d;
        tokens = k;
        derivation = alike-derivation t r.tree r.alike derivation;
        yield = sym (append-nil (Yield r.tree)) ∙ ap (λ l. Yield r.tree ++ l) (sym (none-left r.left r.same))
            ∙ sym r.spells;
      };
    }

pub respelled : (source text : List ℕ) (items others : List Item) (t : Tree) → Cut source items
    → are_tokens items ≡ true → Cut text others
    → are_tokens others ≡ true
    → AreSameWords (Kept items) (Kept others) → Sentence source t document → Respelled text t
respelled source text items others t c h d k s sentence =
    let cuts : items ≡ sentence.items = one-cut source items sentence.items c sentence.cut h in
    let words : AreSameWords (Significant items) (Significant others) =
    subst (λ l. AreSameWords l (Significant others)) (significant-kept items)
    (subst (λ l. AreSameWords (significant (Kept items)) l) (significant-kept others)
    (significant-same (Kept items) (Kept others) s)) in
    let yield : Yield t ≡ map token_of (Significant items) =
    sentence.yield ∙ ap (λ l. map token_of (Significant l)) (sym cuts) in
    respelled-tokens text others t sentence.derivation d k
    (subst (λ l. AreSame l (map token_of (Significant others))) (sym yield)
    (tokens-same (Significant items) (Significant others) words))
