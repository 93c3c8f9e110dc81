-- What it is for an answer of the lexer to be sorted.
use Rattle.std.specs.Prelude.{◌≡◌, Some, None, Ok, Err, ⊤}
use Rattle.lexical_grammar.specs.Answers.{Answer}
use Rattle.parser_rules.specs.State.{ignored}
use Rattle.apollo_lexer.specs.Answers.{answer_of}
use Rattle.parser_state.specs.declared.state.reader.Sorted.{Sorted}
use Rattle.parser_state.specs.declared.state.reader.Sorted.TheVariants.{Significant, Ignored, Bad}

-- the answer that was sorted
abbrev pub sorted_answer : Sorted → Answer
sorted_answer (Significant t) = answer_of (Ok t)
sorted_answer (Ignored kind t) = answer_of (Ok t)
sorted_answer (Bad e) = answer_of (Err e)

-- an ignored token has the kind of its leaf with it, and a significant one is not ignored
abbrev pub IsSorted : Sorted → Type 0
IsSorted (Significant t) = ignored t.kind ≡ None
IsSorted (Ignored kind t) = ignored t.kind ≡ Some kind
IsSorted (Bad e) = ⊤
