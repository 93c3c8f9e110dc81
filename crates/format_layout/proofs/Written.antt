-- What each step of the writer leaves.
use Rattle.std.proofs.Common.{◌≡◌, ℕ, ◌+◌, true, List, ◌∷◌, [], ◌++◌, refl, sym, subst, arith, append-nil}
use Rattle.lexical_grammar.specs.Cut.{Word}
use Rattle.lexical_grammar.specs.Edges.{edge_of, may_touch, touches}
use Rattle.lexical_grammar.specs.Kept.{kept_word}
use Rattle.lexical_grammar.specs.Tokens.{Tok}
use Rattle.lexical_grammar.specs.declared.TokenKind.TheVariants.{Comma}
use Rattle.lexical_grammar.specs.declared.edge.Edge.{Edge}
use Rattle.lexical_grammar.specs.declared.edge.Edge.TheVariants as ends
use Rattle.format_layout.proofs.Tokens.{one-more, small-room}
use Rattle.format_layout.specs.Laid.{Laid, Keeps, Adds}

-- a comma where it may follow
pub comma-keeps : (text more : List ℕ) (edge : Edge) (most count : ℕ) → more ≡ text ++ 44 ∷ [] → count ≡ most + 1
    → may_touch edge Comma 44 ≡ true
    → Keeps text edge most more ends.Free count
comma-keeps text more edge most count m c h words l =
    subst (λ t. Laid t ends.Free count words) (sym m)
    (subst (λ k. Laid (text ++ 44 ∷ []) ends.Free count k) (append-nil words)
    (one-more text edge most count words (record { kind = Comma; text = 44 ∷ [] }) (omega (arith, c)) l refl h))

-- a token where it may follow
pub token-adds : (text more : List ℕ) (edge next : Edge) (most count : ℕ) (word : Word) → more ≡ text ++ word.text
    → next ≡ edge_of word.kind word.text
    → count ≡ most + 1 → Tok word.kind word.text → touches edge word ≡ true → Adds text edge most word more next count
token-adds text more edge next most count word m n c tok h words l =
    subst (λ t. Laid t next count (words ++ kept_word word)) (sym m)
    (subst (λ e. Laid (text ++ word.text) e count (words ++ kept_word word)) (sym n)
    (one-more text edge most count words word (omega (arith, c, small-room (edge_of word.kind word.text))) l tok h))
