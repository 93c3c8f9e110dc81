-- Reading on, answer by answer: the one induction for all that is proved of it.
use Rattle.std.proofs.Common.{◌≡◌, ℕ, Bool, true, ltb, Option, Some, None, List, [], ◌∷◌, ◌++◌, refl, sym, ap, ◌∙◌}
use Rattle.std.proofs.Common.{subst}
use Rattle.std.specs.Prelude.{⊤}
use Rattle.lexical_grammar.specs.Answers.{Answer, gives, limit_at}
use Rattle.lexical_grammar.specs.Cut.{Item}
use Rattle.lexical_grammar.specs.declared.TokenKind.{TokenKind}
use Rattle.lexical_grammar.specs.declared.TokenKind.TheVariants as token_kind
use Rattle.document_grammar.proofs.Booleans.{and-i, and-l, and-r}
use Rattle.document_grammar.specs.Booleans.{◌and◌}
use Rattle.document_grammar.specs.Kinds.{ERROR}
use Rattle.document_grammar.specs.Numbers.{number}
use Rattle.document_grammar.specs.declared.kind.SyntaxKind.{SyntaxKind}
use Rattle.document_grammar.specs.declared.kind.SyntaxKind.TheVariants as kind
use Rattle.parser_rules.specs.State.{PendingToken, State, Lexeme, ignored, bad, met, wait, lexeme, read_on, second}
use Rattle.parser_rules.specs.State.{fresh}

abbrev pub on_kind : List Answer → State → Item → TokenKind → Option SyntaxKind → State
on_kind rest state item this_token_kind found = elim found [
  | Some leaf ↦ read_on rest (wait leaf item.text (record state { items = rest }))
  | None ↦ record state { items = rest; current = Some (lexeme this_token_kind item) }
]

abbrev on_item : List Answer → State → Item → Option TokenKind → State
on_item rest state item found = elim found [
  | None ↦ read_on rest (bad item.text item.index (record state { items = rest }))
  | Some k ↦ on_kind rest state item k
      (ignored k)
]

-- from the first state the answers are read, up to the next token that is not ignored, to the second one
pub data Reading : List Answer → State → State → Type 0 where
  stops : {state : State} → Reading [] state (record state { current = None })
  cuts : {index : ℕ} {xs : List Answer} {state after : State}
      → Reading xs (met index (record state { items = xs })) after
      → Reading (limit_at index ∷ xs) state after
  bad_text : {item : Item} {xs : List Answer} {state after : State} → item.kind ≡ None
      → Reading xs (bad item.text item.index (record state { items = xs })) after
      → Reading (gives item ∷ xs) state after
  waits : {item : Item} {this_token_kind : TokenKind} {own : SyntaxKind} {xs : List Answer} {state after : State}
      → item.kind ≡ Some this_token_kind
      → ignored this_token_kind ≡ Some own → Reading xs (wait own item.text (record state { items = xs })) after
      → Reading (gives item ∷ xs) state after
  shows : {item : Item} {this_token_kind : TokenKind} {xs : List Answer} {state : State}
      → item.kind ≡ Some this_token_kind → ignored this_token_kind ≡ None
      → Reading (gives item ∷ xs) state (record state { items = xs; current = Some (lexeme this_token_kind item) })

pub reading : (xs : List Answer) (state : State) → Reading xs state (read_on xs state)
unfolding read_on
reading [] state = stops
reading (limit_at index ∷ xs) state = cuts (reading xs (met index (record state { items = xs })))
reading (gives item ∷ xs) state =
    (elim item.kind as (λ found. item.kind ≡ found → Reading (gives item ∷ xs) state (on_item xs state item found)) [
      | None ↦ λ e. bad_text e (reading xs (bad item.text item.index (record state { items = xs })))
      | Some k ↦ λ e. (elim (ignored k) as
          (λ found. ignored k ≡ found → Reading (gives item ∷ xs) state (on_kind xs state item k found)) [
            | Some own ↦ λ i. waits e i (reading xs (wait own item.text (record state { items = xs })))
            | None ↦ λ i. shows e i
          ]) refl
    ]) refl

-- not an ignored token
abbrev pub Shown : Option Lexeme → Type 0
Shown None = ⊤
Shown (Some t) = ignored t.kind ≡ None

-- there is one such state, and its current token is the one that a copy of the reader finds, and none that is ignored
abbrev pub Found : List Answer → State → State → Type 0
Found xs state after = record {
  is : read_on xs state ≡ after;
  next : after.current ≡ second xs;
  shown : Shown after.current;
}

pub found : {xs : List Answer} {state after : State} → Reading xs state after → Found xs state after
unfolding read_on second
found stops = record { is = refl; next = refl; shown = tt }
found (cuts this_reading) = found this_reading
found (bad_text e this_reading) = rw e (found this_reading)
found (waits e i this_reading) = rw (e, i) (found this_reading)
found (shows e i) = rw (e, i) (record { is = refl; next = refl; shown = refl })

-- after the last answer there is none
pub reading-none : {xs : List Answer} {state after : State} → Reading xs state after → xs ≡ [] → after.current ≡ None
unfolding second
reading-none this_reading e = (found this_reading).next ∙ ap second e

-- the answer that gave the current token
pub item-is : (item : Item) (this_token_kind : TokenKind) → item.kind ≡ Some this_token_kind
    → record { kind = Some this_token_kind; text = item.text; index = item.index } ≡ item
item-is item this_token_kind e = ap (λ found. record { kind = found; text = item.text; index = item.index }) (sym e)

-- how a copy of the reader reads
pub looks : (xs : List Answer)
    → (state : State) × (after : State) × Reading xs state after × (after.current ≡ second xs)
looks xs = let state : State = fresh xs 0 kind.DOCUMENT in
    (state, read_on xs state, reading xs state, (found (reading xs state)).next)

pub second-shown : (xs : List Answer) → Shown (second xs)
second-shown xs = let l = looks xs in subst Shown l.3 (found l.2).shown

-- ---- what waits

abbrev pub all_kinds : (SyntaxKind → Bool) → List PendingToken → Bool
all_kinds p [] = true
all_kinds p (part ∷ parts) = p part.kind and all_kinds p parts

pub kinds-more : (p : SyntaxKind → Bool) (parts : List PendingToken) (part : PendingToken)
    → all_kinds p parts ≡ true → p part.kind ≡ true
    → all_kinds p (parts ++ part ∷ []) ≡ true
kinds-more p [] part h g = and-i g refl
kinds-more p (pending_token ∷ parts) part h g = and-i (and-l _ _ h) (kinds-more p parts part (and-r _ _ h) g)

abbrev In : (SyntaxKind → Type 0) → SyntaxKind → Option SyntaxKind → Type 0
In P own None = P own
In P own (Some other) = P other

-- what is said of each ignored token and its leaf
pub ignored-kinds : (P : TokenKind → SyntaxKind → Type 0) → P token_kind.Whitespace kind.WHITESPACE
    → P token_kind.Comment kind.COMMENT
    → P token_kind.Comma kind.COMMA → (this_token_kind : TokenKind) (own : SyntaxKind)
    → ignored this_token_kind ≡ Some own → P this_token_kind own
ignored-kinds P a b c token_kind.Whitespace own e = subst (In (P token_kind.Whitespace) own) e a
ignored-kinds P a b c token_kind.Comment own e = subst (In (P token_kind.Comment) own) e b
ignored-kinds P a b c token_kind.Comma own e = subst (In (P token_kind.Comma) own) e c
ignored-kinds P a b c _ own e = absurd cc

-- it is kept until the next leaf as one that is ignored
pub ignored-leaf : (this_token_kind : TokenKind) (own : SyntaxKind) → ignored this_token_kind ≡ Some own
    → ltb (number own) ERROR ≡ true
ignored-leaf = ignored-kinds (λ k own. ltb (number own) ERROR ≡ true) refl refl refl

-- what waits keeps to the kinds, when bad text and ignored tokens are of them
module _ (p : SyntaxKind → Bool) (bad : p kind.ERROR ≡ true) (white : p kind.WHITESPACE ≡ true)
    (comment : p kind.COMMENT ≡ true)
    (comma : p kind.COMMA ≡ true) where
  pub reading-waits : {xs : List Answer} {state after : State} → Reading xs state after
      → all_kinds p state.pending ≡ true → all_kinds p after.pending ≡ true
  reading-waits stops h = h
  reading-waits (cuts this_reading) h = reading-waits this_reading h
  reading-waits {state = state} (bad_text {item = item} e this_reading) h =
      reading-waits this_reading (kinds-more p state.pending (record { kind = kind.ERROR; text = item.text }) h bad)
  reading-waits {state = state} (waits {item = item} {this_token_kind = k} {own = own} e i this_reading) h =
      reading-waits this_reading (kinds-more p state.pending (record { kind = own; text = item.text }) h
      (ignored-kinds (λ k own. p own ≡ true) white comment comma k own i))
  reading-waits (shows e i) h = h
