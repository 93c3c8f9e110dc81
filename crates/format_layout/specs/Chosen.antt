-- Tokens, some of which are left out, and signs that come before some of them.
use Rattle.std.specs.Prelude.{◌≡◌, true, List, [], ◌∷◌}
use Rattle.lexical_grammar.specs.Cut.{Word}
use Rattle.lexical_grammar.specs.declared.TokenKind.TheVariants as token
use Rattle.format_layout.specs.Leads.{lead_after, may_come, may_go}
use Rattle.format_layout.specs.declared.lead.Lead.{Lead}

-- what becomes of a token: it stays, it goes, or a sign comes before it
pub data Choice : Type 0 where
  stays : Choice
  goes : Choice
  signed : Choice

-- the elements by their choices, with this sign
abbrev pub chosen : {A : Type 0} → A → List Choice → List A → List A
chosen sign [] xs = xs
chosen sign (c ∷ cs) [] = []
chosen sign (stays ∷ cs) (x ∷ xs) = x ∷ chosen sign cs xs
chosen sign (goes ∷ cs) (x ∷ xs) = chosen sign cs xs
chosen sign (signed ∷ cs) (x ∷ xs) = sign ∷ x ∷ chosen sign cs xs

abbrev pub pipe_word : Word
pipe_word = record { kind = token.Pipe; text = 124 ∷ [] }

-- after such tokens, the choice may be made for this one
abbrev pub IsAllowed : Lead → Choice → Word → Type 0
IsAllowed lead stays word = Unit {0}
IsAllowed lead goes word = may_go lead word.kind ≡ true
IsAllowed lead signed word = may_come lead word.kind ≡ true

-- from one lead on, each choice may be made, and the tokens end with another lead
abbrev pub AreAllowed : Lead → List Choice → List Word → Lead → Type 0
AreAllowed lead [] [] last = lead ≡ last
AreAllowed lead [] (word ∷ words) last = ⊥
AreAllowed lead (c ∷ cs) [] last = ⊥
AreAllowed lead (c ∷ cs) (word ∷ words) last =
    IsAllowed lead c word × AreAllowed (lead_after lead word.kind word.text) cs words last
