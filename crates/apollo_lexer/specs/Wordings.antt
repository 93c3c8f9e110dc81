-- The messages for bad text, as they are worded.
use Rattle.std.specs.Prelude.{ℕ, List, ◌++◌, codes}
use Rattle.apollo_lexer.specs.declared.faults.Wording.{Wording}
use Rattle.apollo_lexer.specs.declared.faults.Wording.TheVariants.{Plain, QuotesText, QuotesNext}

-- the message for a text, when `next` is the character after the beginning of a number
abbrev pub worded : Wording → List ℕ → List ℕ → List ℕ
worded (Plain words) text next = words.now
worded QuotesText text next = codes "Unexpected character \"" ++ text ++ codes "\""
worded (QuotesNext end) text next = codes "Unexpected character `" ++ next ++ end.now
