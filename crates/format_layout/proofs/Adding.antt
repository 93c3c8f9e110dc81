-- One more token written, or a block string with the same value.
use Rattle.std.proofs.Common.{◌≡◌, ℕ, inl, inr, true, List, [], ◌∷◌, ◌++◌, refl, sym, ap, subst}
use Rattle.lexical_grammar.specs.Cut.{Word}
use Rattle.lexical_grammar.specs.Kept.{is_kept_kind, kept_word}
use Rattle.lexical_grammar.specs.declared.TokenKind.TheVariants.{StringValue}
use Rattle.lexical_grammar.specs.declared.edge.Edge.{Edge}
use Rattle.format_layout.specs.Laid.{Laid, Keeps, Adds}
use Rattle.format_layout.specs.Respelled.{SameBlock, SameWord, AreSameWords}
use Rattle.format_layout.specs.Written.{LaidSame, AddsSame}

pub kept-alone : (word : Word) → is_kept_kind word.kind ≡ true → kept_word word ≡ word ∷ []
kept-alone word h = rw h refl

same-more : (xs ys : List Word) (a b : Word) → AreSameWords xs ys → SameWord a b
    → AreSameWords (xs ++ a ∷ []) (ys ++ b ∷ [])
same-more [] [] a b s t = (t, tt)
same-more [] (y ∷ ys) a b s t = absurd s
same-more (x ∷ xs) [] a b s t = absurd s
same-more (x ∷ xs) (y ∷ ys) a b s t = (s.0, same-more xs ys a b s.1 t)

-- the token was written as another one that is the same
adds : (text more : List ℕ) (edge next : Edge) (most count : ℕ) (word other : Word) → is_kept_kind word.kind ≡ true
    → is_kept_kind other.kind ≡ true → SameWord word other → Adds text edge most other more next count
    → AddsSame text edge most word more next count
adds text more edge next most count word other j k s a words l = record {
  others = l.others ++ other ∷ [];
  same = subst (λ w. AreSameWords (words ++ w) (l.others ++ other ∷ [])) (sym (kept-alone word j))
      (same-more words l.others word other l.same s);
  laid = subst (λ w. Laid more next count (l.others ++ w)) (kept-alone other k) (a l.others l.laid);
}

pub adds-token : (text more : List ℕ) (edge next : Edge) (most count : ℕ) (word : Word) → is_kept_kind word.kind ≡ true
    → Adds text edge most word more next count → AddsSame text edge most word more next count
adds-token text more edge next most count word k a = adds text more edge next most count word word k k (inl refl) a

pub adds-block : (text more : List ℕ) (edge next : Edge) (most count : ℕ) (word : Word) (other : List ℕ)
    → word.kind ≡ StringValue
    → SameBlock word.text other → Adds text edge most (record { kind = StringValue; text = other }) more next count
    → AddsSame text edge most word more next count
adds-block text more edge next most count word other k s a =
    adds text more edge next most count word (record { kind = StringValue; text = other }) (ap is_kept_kind k)
    refl (inr (k, refl, s)) a

pub keeps-same : (text more : List ℕ) (edge next : Edge) (most count : ℕ) (words : List Word)
    → Keeps text edge most more next count
    → LaidSame text edge most words → LaidSame more next count words
keeps-same text more edge next most count words k l =
    record { others = l.others; same = l.same; laid = k l.others l.laid }

-- a gap and a token
pub adds-after : (text middle more : List ℕ) (edge between next : Edge) (most between_most count : ℕ) (word : Word)
    → Keeps text edge most middle between between_most → AddsSame middle between between_most word more next count
    → AddsSame text edge most word more next count
adds-after text middle more edge between next most between_most count word gap a words l =
    a words (keeps-same text middle edge between most between_most words gap l)
