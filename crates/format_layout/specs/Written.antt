-- What a writer has written that may spell block strings anew, and leave out or put in optional signs.
use Rattle.std.specs.Prelude.{ℕ, List, [], ◌∷◌, ◌++◌}
use Rattle.lexical_grammar.specs.Cut.{Word}
use Rattle.lexical_grammar.specs.Kept.{Holds, kept_word}
use Rattle.lexical_grammar.specs.declared.edge.Edge.{Edge}
use Rattle.format_layout.specs.Chosen.{AreAllowed, Choice, chosen, pipe_word}
use Rattle.format_layout.specs.Laid.{Laid}
use Rattle.format_layout.specs.Respelled.{AreSameWords}
use Rattle.format_layout.specs.declared.lead.Lead.{Lead}
use Rattle.format_layout.specs.declared.lead.Lead.TheVariants.{Other}

-- It has written these words, or block strings with the same values.
pub record LaidSame (text : List ℕ) (edge : Edge) (most : ℕ) (words : List Word) : Type 0 where
  pub others : List Word
  pub same : AreSameWords words others
  pub laid : Laid text edge most others

-- It has written the word, or a block string with the same value, if it is significant or a comment.
abbrev pub AddsSame : List ℕ → Edge → ℕ → Word → List ℕ → Edge → ℕ → Type 0
AddsSame text edge most word more next count =
    (words : List Word) → LaidSame text edge most words → LaidSame more next count (words ++ kept_word word)

-- It has written a sign, and this word or a block string with the same value.
abbrev pub AddsSigned : List ℕ → Edge → ℕ → Word → List ℕ → Edge → ℕ → Type 0
AddsSigned text edge most word more next count =
    (words : List Word) → LaidSame text edge most words → LaidSame more next count (words ++ pipe_word ∷ word ∷ [])

-- It has written these words so, with choices that may be made for them.
pub record LaidChosen (text : List ℕ) (edge : Edge) (most : ℕ) (lead : Lead) (words : List Word) : Type 0 where
  pub choices : List Choice
  pub allowed : AreAllowed Other choices words lead
  pub laid : LaidSame text edge most (chosen pipe_word choices words)

-- It has written the word so, if it is significant or a comment.
abbrev pub AddsChosen : List ℕ → Edge → ℕ → Lead → Word → List ℕ → Edge → ℕ → Lead → Type 0
AddsChosen text edge most lead word more next count then =
    (words : List Word) → LaidChosen text edge most lead words
    → LaidChosen more next count then (words ++ kept_word word)

-- The text's significant tokens and comments are these words, or block strings with the same values.
pub record HoldsSame (text : List ℕ) (words : List Word) : Type 0 where
  pub others : List Word
  pub same : AreSameWords words others
  pub holds : Holds text others

-- They are these words so, with choices that may be made for them.
pub record HoldsChosen (text : List ℕ) (words : List Word) : Type 0 where
  pub choices : List Choice
  pub lead : Lead
  pub allowed : AreAllowed Other choices words lead
  pub holds : HoldsSame text (chosen pipe_word choices words)
