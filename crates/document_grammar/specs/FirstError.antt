-- What the offset of the first error says of the text. The standard says nothing of errors, so these are this project's
-- own promises.
use Rattle.std.specs.List.{flat_map}
use Rattle.std.specs.Prelude.{◌≡◌, ◌≢◌, ℕ, ◌+◌, ◌<◌, ◌≤◌, List, [], ◌∷◌, ◌++◌, length, take, if◌then◌else◌, Option}
use Rattle.std.specs.Prelude.{Some, None}
use Rattle.lexical_grammar.specs.Cut.{Item, Significant, is_significant_kind}
use Rattle.lexical_grammar.specs.declared.TokenKind.{TokenKind}
use Rattle.lexical_grammar.specs.declared.TokenKind.TheVariants.{Eof}
use Rattle.document_grammar.specs.Derivation.{Sort, Fits, text, texts, Terminal, word, end}
use Rattle.document_grammar.specs.Placed.{bare}
use Rattle.document_grammar.specs.Sentence.{leaf_number, Begins, StartSentence, StartSentenceWithin}
use Rattle.document_grammar.specs.Tree.{Text, Tree, leaf, node, Forest, none, ◌▸◌}

-- ---- an offset in a text

-- The item that begins at an offset, and those before and after it.
pub record At (items : List Item) (offset : ℕ) : Type 0 where
  pub before : List Item
  pub item : Item
  pub more : List Item
  pub split : items ≡ before ++ item ∷ more
  pub index : item.index ≡ offset

-- What items show of the significant tokens and the end; ignored tokens and bad text show nothing.
abbrev pub shown_kind : TokenKind → Text → List Terminal
shown_kind Eof text = end ∷ []
shown_kind kind text = if is_significant_kind kind then word (leaf_number kind, text) ∷ [] else []

abbrev pub shown_item : Option TokenKind → Text → List Terminal
shown_item None text = []
shown_item (Some kind) text = shown_kind kind text

abbrev pub shown : List Item → List Terminal
shown items = flat_map (λ item. shown_item item.kind item.text) items

-- The tokens before the offset, and the next n that come from there on, the end among them.
abbrev pub up_to : ℕ → {items : List Item} {offset : ℕ} → At items offset → List Terminal
up_to n a = shown a.before ++ take n (shown (a.item ∷ a.more))

-- All of these are among the first k items.
abbrev pub AreAmong : ℕ → List Item → List Terminal → Type 0
AreAmong k items front = (rest : List Terminal) × (shown (take k items) ≡ front ++ rest)

-- ---- the first error

-- No late fault: the text before the offset begins a sentence of the sort.
abbrev pub NotLate : Sort → List ℕ → ℕ → Type 0
NotLate sort source offset = Begins sort (take offset source)

-- No early fault: where a token or the end is at the offset, no sentence starts with the tokens before it, that one and
-- the next, as long as all of these are among the first k items.
abbrev pub NotEarly : Sort → ℕ → List Item → ℕ → Type 0
NotEarly sort k items offset =
    (a : At items offset) × (a.item.kind ≢ None → AreAmong k items (up_to 2 a) → StartSentence sort (up_to 2 a) → ⊥)

-- No early limit: no sentence that nests at most r deep starts with the tokens before the offset and the one there.
abbrev pub NotEarlyLimit : Sort → ℕ → List Item → ℕ → Type 0
NotEarlyLimit sort r items offset = (a : At items offset) × (StartSentenceWithin sort r (up_to 1 a) → ⊥)

-- Of a tree that begins at the offset n: each node whose text ends at the offset m or before fits its row and the
-- rules, its ignored leaves left out.
abbrev mutual
  pub EndedFit : ℕ → ℕ → Tree → Type 0
  EndedFit m n (leaf k x) = Unit {0}
  EndedFit m n (node k f) = (n + length (texts f) ≤ m → Fits (bare (node k f))) × AllEndedFit m n f

  pub AllEndedFit : ℕ → ℕ → Forest → Type 0
  AllEndedFit m n none = Unit {0}
  AllEndedFit m n (t ▸ f) = EndedFit m n t × AllEndedFit m (n + length (text t)) f

-- Each node that is followed by a significant token in front of the offset fits.
abbrev pub EndedNodesFit : List Item → ℕ → Tree → Type 0
EndedNodesFit items offset t = (m : ℕ) (a : At items m) → Significant (a.item ∷ []) ≢ [] → m < offset → EndedFit m 0 t
