-- The search for a token among the words of directive locations: it finds the word that the rules test, and that they
-- run.
use Rattle.std.proofs.Common.{◌≡◌, ℕ, ◌+◌, ◌<◌, ◌≤◌, Bool, true, false, cond, ◌||◌, List, [], ◌∷◌, Option, Some, None}
use Rattle.std.proofs.Common.{is_some, length, get_or, drop, refl, sym, ◌∙◌, ap, subst, inl, inr, arith}
use Rattle.std.proofs.lemmas.Bool.{cond-true, cond-false}
use Rattle.std.proofs.lemmas.List.{at_drop_more, at_drop_all}
use Rattle.std.proofs.lemmas.List.Folds.{find-append}
use Rattle.std.proofs.lemmas.List.Recursion.{and_at}
use Rattle.std.specs.List.{find, list_all}
use Rattle.std.specs.Option.{option_or}
use Rattle.lexical_grammar.specs.declared.TokenKind.TheVariants as token
use Rattle.document_grammar.proofs.Booleans.{either}
use Rattle.document_grammar.specs.Choices.{is_keyword}
use Rattle.document_grammar.specs.Numbers.{number}
use Rattle.document_grammar.specs.declared.kind.SyntaxKind.{SyntaxKind}
use Rattle.document_grammar.specs.declared.kind.SyntaxKind.TheVariants as kind
use Rattle.parser_rules.proofs.runs.Frame.{is-open, still-open}
use Rattle.parser_rules.proofs.runs.Running.{sequence}
use Rattle.parser_rules.specs.Nodes.{DirectiveLocation, Location}
use Rattle.parser_rules.specs.RuleLanguage.{Here, At, fits, holds, Bump, Note, Rule, Do, When, Child, Call}
use Rattle.parser_rules.specs.Rules.{any_word, one_of, location, word_of, executable_locations, type_system_locations}
use Rattle.parser_rules.specs.Rules.{inside, body}
use Rattle.parser_rules.specs.Runs.{Runs, yes, no, child, call}
use Rattle.parser_rules.specs.State.{State, Lexeme, is_word, flush, opened, closed}
use Rattle.parser_rules.specs.declared.message.Message.TheVariants as message
use Rattle.apollo_grammar.specs.Locations.{locations, location_word}

-- ---- the search, from place to place

-- what is found from this place on
unfoldable pub found_from : ℕ → Option Lexeme → Option SyntaxKind
found_from i o = find (λ k. is_word k o) (drop i locations)

-- the word at the place, or past the end a kind that is no word
abbrev at : ℕ → SyntaxKind
at i = get_or locations i kind.WHITESPACE

-- each of the words is a keyword
pub keyword : (i : ℕ) → i < length locations → is_keyword (number (at i)) ≡ true
keyword i h =
    let test = λ (k : SyntaxKind). is_keyword (number k) in
    and_at (list_all test) test refl (λ _ _. refl) locations i kind.WHITESPACE h refl

pub start : (o : Option Lexeme) → found_from 0 o ≡ location_word o
unfolding found_from location_word
start o = refl

next : (i : ℕ) (o : Option Lexeme) → i < length locations
    → found_from i o ≡ cond (is_word (at i) o) (Some (at i)) (found_from (i + 1) o)
unfolding found_from
next i o h = at_drop_more (λ ks. find (λ k. is_word k o) ks) locations i kind.WHITESPACE h

pub here : (i : ℕ) (o : Option Lexeme) → i < length locations → true ≡ is_word (at i) o → found_from i o ≡ Some (at i)
here i o h e = next i o h ∙ cond-true (is_word (at i) o) (Some (at i)) (found_from (i + 1) o) (sym e)

pub later : (i : ℕ) (o : Option Lexeme) → i < length locations → false ≡ is_word (at i) o
    → found_from i o ≡ found_from (i + 1) o
later i o h e = next i o h ∙ cond-false (is_word (at i) o) (Some (at i)) (found_from (i + 1) o) (sym e)

pub end : (i : ℕ) (o : Option Lexeme) → length locations ≤ i → found_from i o ≡ None
unfolding found_from
end i o h = at_drop_all (λ ks. find (λ k. is_word k o) ks) locations i h

-- ---- what is found, and the rules' test

some-first : (b : Bool) (k : SyntaxKind) (o : Option SyntaxKind) → is_some (cond b (Some k) o) ≡ b || is_some o
some-first true k o = refl
some-first false k o = refl

some-either : (a b : Option SyntaxKind) → is_some (option_or a b) ≡ is_some a || is_some b
some-either None b = refl
some-either (Some k) b = refl

or-none : (b : Bool) → b || false ≡ b
or-none true = refl
or-none false = refl

found-any : (k : SyntaxKind) (ks : List SyntaxKind) (o : Option Lexeme)
    → is_some (find (λ j. is_word j o) (k ∷ ks)) ≡ fits (any_word k ks) o
found-any k [] o = some-first (is_word k o) k None ∙ or-none (is_word k o)
found-any k (l ∷ ks) o =
    some-first (is_word k o) k (find (λ j. is_word j o) (l ∷ ks)) ∙ ap (λ b. is_word k o || b) (found-any l ks o)

found-one : (ks : List SyntaxKind) (o : Option Lexeme) → 0 < length ks
    → is_some (find (λ j. is_word j o) ks) ≡ fits (one_of ks) o
found-one [] o h = absurd (omega arith)
found-one (k ∷ ks) o h = found-any k ks o

is-location : (s : State) → holds (Here location) s ≡ is_some (location_word s.current)
unfolding holds location_word
is-location s =
    let o = s.current in
    let test = λ (k : SyntaxKind). is_word k o in
    sym (ap is_some (find-append test executable_locations type_system_locations)
    ∙ some-either (find test executable_locations) (find test type_system_locations)
    ∙ ap (λ b. b || is_some (find test type_system_locations)) (found-one executable_locations o (omega arith))
    ∙ ap (λ b. fits (one_of executable_locations) o || b) (found-one type_system_locations o (omega arith)))

-- ---- what is found, and what the rules run

-- the word that is found becomes a leaf
abbrev chosen : Option SyntaxKind → Rule → Rule
chosen None none = none
chosen (Some k) none = Do (Bump k)

word-runs : (ks : List SyntaxKind) (none : Rule) {s t : State}
    → Runs (chosen (find (λ k. is_word k s.current) ks) none) s t → Runs (word_of ks none) s t
unfolding holds
word-runs [] none h = h
word-runs (k ∷ ks) none {s = s} h = elim (either (is_word k s.current)) [
  | inl e ↦ yes (sym e) (rw e at h)
  | inr e ↦ no (sym e) (word-runs ks none (rw e at h))
]

pub found_location : {k : SyntaxKind} {o : Option Lexeme} {s t : State} → Some k ≡ location_word o → o ≡ s.current
    → Runs (Child DirectiveLocation) s t → Runs (Call Location) s t
unfolding body
found_location {s = s} e f h =
    call {part = Location} (yes (sym (is-location s ∙ ap is_some (sym (e ∙ ap location_word f)))) h)

pub no_location : {o : Option Lexeme} {s t : State} → None ≡ location_word o → o ≡ s.current
    → Runs (When (At token.Name) (Do (Note message.ExpectedValidLocation)) (Do (Note message.ExpectedLocation))) s t
    → Runs (Call Location) s t
unfolding body
no_location {s = s} e f h =
    call {part = Location} (no (sym (is-location s ∙ ap is_some (sym (e ∙ ap location_word f)))) h)

-- the node of a location, where one was found
pub in_location : {k : SyntaxKind} {s t u v : State} → Some k ≡ location_word s.current
    → t ≡ opened kind.DIRECTIVE_LOCATION s
    → Runs (Do (Bump k)) t u → v ≡ closed u → Runs (Child DirectiveLocation) s v
unfolding inside location_word opened flush
in_location {k = k} {s = s} {t = t} {u = u} e o h c =
    let found : Some k ≡ find (λ j. is_word j t.current) locations =
    e ∙ sym (ap (λ (z : State). find (λ j. is_word j z.current) locations) o) in
    child {node = DirectiveLocation} o c (word-runs locations (Do (Note message.ExpectedLocation))
    (subst (λ x. Runs (chosen x (Do (Note message.ExpectedLocation))) t u) found h))

-- the rules that prove the function of a location, and the function of its node
pub ruleset choosing = (sequence, found_location)

pub ruleset opening = (sequence, is-open, still-open, in_location)
