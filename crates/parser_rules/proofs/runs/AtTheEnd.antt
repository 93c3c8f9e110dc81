-- Nothing follows the end, and the text of the end is empty.
use Rattle.std.proofs.Common.{◌≡◌, Option, Some, None, List, [], ◌∷◌, refl, sym, subst, true}
use Rattle.lexical_grammar.specs.Answers.{Answer, gives, is_end, IsLast, AreAnswers}
use Rattle.document_grammar.specs.Builds.{add_leaf}
use Rattle.parser_rules.proofs.runs.Reading.{Reading, stops, cuts, bad_text, waits, shows, reading}
use Rattle.parser_rules.proofs.runs.Steps.{along, along-reading}
use Rattle.parser_rules.specs.RuleLanguage.{Rule}
use Rattle.parser_rules.specs.Runs.{Runs}
use Rattle.parser_rules.specs.State.{State, Lexeme, read_on}

unfoldable pub EndNow : Option Lexeme → List Answer → Type 0
EndNow None items = items ≡ []
EndNow (Some x) items = is_end x.kind ≡ true → items ≡ []

abbrev pub EndsAt : Option Lexeme → List Answer → Type 0
EndsAt found items = record { answers : AreAnswers items; now : EndNow found items }

abbrev pub Ends : State → Type 0
Ends state = EndsAt state.current state.items

reading-ends : {xs : List Answer} {state after : State} → Reading xs state after → state.items ≡ xs
    → AreAnswers xs → Ends after
unfolding EndNow
reading-ends stops e are_answers = record { answers = subst AreAnswers (sym e) tt; now = e }
reading-ends (cuts this_reading) e are_answers = reading-ends this_reading refl (subst AreAnswers (sym are_answers) tt)
reading-ends (bad_text i this_reading) e are_answers = reading-ends this_reading refl are_answers.2
reading-ends (waits i j this_reading) e are_answers = reading-ends this_reading refl are_answers.2
reading-ends {xs = gives item ∷ xs} (shows i j) e are_answers =
    record { answers = are_answers.2; now = subst (λ found. IsLast found xs) i are_answers.1 }

pub read-ends : (xs : List Answer) (state : State) → state.items ≡ xs → AreAnswers xs → Ends (read_on xs state)
read-ends xs state = reading-ends (reading xs state)

pub ends : {rule : Rule} {state after : State} → Runs rule state after → Ends state → Ends after
ends h = along (along-reading EndsAt
    (λ leaf x s e h. read-ends s.items (record s { tree = add_leaf leaf x.text s.tree }) refl h.answers)) h
