-- One more token at the end of the output.
use Rattle.std.proofs.Common.{◌≡◌, ℕ, ◌+◌, ◌*◌, ◌≤◌, true, List, [], ◌∷◌, ◌++◌, refl, sym, ap, ◌∙◌, subst, arith}
use Rattle.std.proofs.Common.{append_assoc, append-nil, length-append}
use Rattle.std.proofs.lemmas.Bool.{and_parts, and_from}
use Rattle.lexical_grammar.proofs.Joined.{holds}
use Rattle.lexical_grammar.specs.Cut.{Word}
use Rattle.lexical_grammar.specs.Edges.{edge_of, touches, AreTokens, are_apart, last_edge, joined}
use Rattle.lexical_grammar.specs.Kept.{kept_word, kept, Holds}
use Rattle.lexical_grammar.specs.Tokens.{Tok}
use Rattle.lexical_grammar.specs.declared.edge.Edge.{Edge}
use Rattle.lexical_grammar.specs.declared.edge.Edge.TheVariants as ends
use Rattle.format_layout.specs.Laid.{Laid, blank_room}

joined-append : (xs ys : List Word) → joined (xs ++ ys) ≡ joined xs ++ joined ys
joined-append [] ys = refl
joined-append (x ∷ xs) ys =
    ap (λ l. x.text ++ l) (joined-append xs ys) ∙ sym (append_assoc x.text (joined xs) (joined ys))

kept-append : (xs ys : List Word) → kept (xs ++ ys) ≡ kept xs ++ kept ys
kept-append [] ys = refl
kept-append (x ∷ xs) ys =
    ap (λ l. kept_word x ++ l) (kept-append xs ys) ∙ sym (append_assoc (kept_word x) (kept xs) (kept ys))

tokens-append : (xs : List Word) (y : Word) → AreTokens xs → Tok y.kind y.text → AreTokens (xs ++ y ∷ [])
tokens-append [] y ts t = (t, tt)
tokens-append (x ∷ xs) y ts t = (ts.0, tokens-append xs y ts.1 t)

apart-append : (xs : List Word) (y : Word) → are_apart xs ≡ true → touches (last_edge xs) y ≡ true
    → are_apart (xs ++ y ∷ []) ≡ true
apart-append [] y h t = refl
apart-append (x ∷ []) y h t = and_from _ _ t refl
apart-append (x ∷ next ∷ xs) y h t =
    let q = and_parts (touches (edge_of x.kind x.text) next) (are_apart (next ∷ xs)) h in
    and_from _ _ q.0 (apart-append (next ∷ xs) y q.1 t)

last-append : (xs : List Word) (y : Word) → last_edge (xs ++ y ∷ []) ≡ edge_of y.kind y.text
last-append [] y = refl
last-append (x ∷ []) y = refl
last-append (x ∷ next ∷ xs) y = last-append (next ∷ xs) y

-- nothing was written
pub begin : Laid [] ends.Free 0 []
begin = record { all = []; spelled = refl; tokens = tt; apart = refl; ends = refl; same = refl; few = omega arith }

-- one more token that may follow directly
pub one-more : (text : List ℕ) (edge : Edge) (most count : ℕ) (words : List Word) (word : Word)
    → 2 * most + 1 + blank_room (edge_of word.kind word.text) ≤ 2 * count + blank_room edge
    → Laid text edge most words → Tok word.kind word.text → touches edge word ≡ true
    → Laid (text ++ word.text) (edge_of word.kind word.text) count (words ++ kept_word word)
one-more text edge most count words word more l tok h = record {
  all = l.all ++ word ∷ [];
  spelled = joined-append l.all (word ∷ []) ∙ ap (λ r. joined l.all ++ r) (append-nil word.text)
      ∙ ap (λ r. r ++ word.text) l.spelled;
  tokens = tokens-append l.all word l.tokens tok;
  apart = apart-append l.all word l.apart (subst (λ e. touches e word ≡ true) (sym l.ends) h);
  ends = last-append l.all word;
  same = kept-append l.all (word ∷ []) ∙ ap (λ r. kept l.all ++ r) (append-nil (kept_word word))
      ∙ ap (λ r. r ++ kept_word word) l.same;
  few = omega (arith, more, l.few, length-append l.all (word ∷ []));
}

pub small-room : (edge : Edge) → blank_room edge ≤ 1
small-room ends.Whitespace = omega arith
small-room _ = omega arith

-- a text holds what was written
pub laid-holds : (text : List ℕ) (edge : Edge) (most : ℕ) (words : List Word)
    → Laid text edge most words → Holds text words
laid-holds text edge most words l =
    subst (λ t. Holds t words) l.spelled (subst (λ k. Holds (joined l.all) k) l.same (holds l.all l.tokens l.apart))
