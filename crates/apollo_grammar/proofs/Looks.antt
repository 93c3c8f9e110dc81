-- Tests of the current token and of the next one.
use Rattle.std.proofs.Common.{◌≡◌, Bool, true, false, Option, Some, None, is_some, not, ◌&&◌, ◌||◌, refl}
use Rattle.lexical_grammar.specs.declared.TokenKind.{TokenKind}
use Rattle.lexical_grammar.specs.declared.TokenKind.TheVariants as token
use Rattle.parser_rules.proofs.runs.Running.{nesting}
use Rattle.parser_rules.specs.RuleLanguage.{Kind, Or, Here, At, Ready, holds}
use Rattle.parser_rules.specs.Rules.{has_item}
use Rattle.parser_rules.specs.State.{State, is_at, is_over, is_deep}
use Rattle.apollo_lexer.specs.declared.token.Token.{Token}
use Rattle.parser_state.specs.View.{current_of}

-- a token that a look finds is the next one
pub some-shown : (o : Option Token) → is_some o ≡ is_some (current_of o)
some-shown None = refl
some-shown (Some t) = refl

-- what a function is proved by that chooses by the next token
pub ruleset looking = (nesting, some-shown)

other : (a b : Bool) → true ≡ a || b → false ≡ a → true ≡ b
other true b e f = absurd cc
other false b e f = e

-- one of two tokens is there, and not the first
pub other-at : (j k : TokenKind) (s : State) → true ≡ holds (Here (Or (Kind j) (Kind k))) s → false ≡ holds (At j) s
    → true ≡ holds (At k) s
unfolding holds
other-at j k s e f = other (is_at j s.current) (is_at k s.current) e f

-- where no item of a list follows, though neither `]` nor the end is there, the recursion limit is reached
pub deep-there : (s : State) → false ≡ holds has_item s → false ≡ holds (At token.RBracket) s
    → true ≡ holds Ready s → true ≡ is_deep s
unfolding holds
deep-there s h a r = only (not (is_over s.current)) (is_at token.RBracket s.current) (is_deep s) h a r
  where
    only : (r a d : Bool) → false ≡ (r && not a) && not d → false ≡ a → true ≡ r → true ≡ d
    only true false true h e f = refl
    only true false false h e f = absurd cc
    only true true d h e f = absurd cc
    only false a d h e f = absurd cc
