-- What a formatted text has in common with its source.
use Rattle.std.specs.Prelude.{ℕ, ◌≤◌, List}
use Rattle.lexical_grammar.specs.Answers.{usize_max}
use Rattle.lexical_grammar.specs.Kept.{Kept}
use Rattle.document_grammar.specs.Derivation.{document}
use Rattle.document_grammar.specs.Sentence.{Sentence, Within}
use Rattle.document_grammar.specs.Tree.{Tree}
use Rattle.format_layout.specs.Respelled.{Alike, AreSameWords}
use Rattle.format_layout.specs.Signs.{signs, unsigned, without_marked}

-- The text is a document, of no more items than a number of the target counts.
pub record IsSentence (source : List ℕ) : Type 0 where
  pub tree : Tree
  pub sentence : Sentence source tree document
  pub within : (r : ℕ) × (k : ℕ) × (k ≤ usize_max) × Within source tree r k

-- The text is a document. Two things may differ: the optional sign before a first member may come or go, and block
-- strings may have other texts with the same values. But for these the text has the source's derivation, and the
-- source's significant tokens and comments in one list: so each comment is between the same two tokens.
pub record HasLayoutOf (source : List ℕ) (t : Tree) (own : Sentence source t document) (text : List ℕ) : Type 0 where
  pub tree : Tree
  pub sentence : Sentence text tree document
  pub alike : Alike (unsigned t) (unsigned tree)
  pub words : AreSameWords (without_marked (signs t) (Kept own.items))
      (without_marked (signs tree) (Kept sentence.items))

-- It is so of the source's derivation.
pub record Formatted (source text : List ℕ) : Type 0 where
  pub layout : (t : Tree) → (own : Sentence source t document) → HasLayoutOf source t own text
