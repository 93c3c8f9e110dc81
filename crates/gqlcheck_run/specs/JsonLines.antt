-- What is added to lines of JSON.
use Rattle.std.specs.Prelude.{◌≡◌, ℕ, Bool, List, [], ◌∷◌, ◌++◌, codes, decimal}
use Rattle.json.specs.Json.{Json, Members}
use Rattle.json.specs.Lex.{tokens}
use Rattle.json.specs.Token as token
use Rattle.json.specs.Token.{Token}
use Rattle.json.specs.Tree.{json_tokens, members_tokens}
use Rattle.json.specs.Written.{Written}
use Rattle.marked_lines.specs.Places.{column_number, line_number}
use Rattle.gqlcheck_run.specs.Numbers.{capped}

-- What a writer held before stays, and these tokens follow those that it has.
pub record Adds (added : List Token) (old new : Written) : Type 0 where
  pub before : new.before ≡ old.before
  pub tokens : new.tokens ≡ old.tokens ++ added

-- These tokens are members of an object, which others may follow.
pub record AreMembers (added : List Token) : Type 0 where
  pub before : Members → Members
  pub is : (others : Members) → added ++ members_tokens others ≡ members_tokens (before others)

-- Some members of an object were added, and nothing else.
pub record AddsMembers (old new : Written) : Type 0 where
  pub added : List Token
  pub adds : Adds added old new
  pub are : AreMembers added

-- A member with this value was added.
abbrev pub AddsMember : List ℕ → Json → Written → Written → Type 0
AddsMember name value old new = Adds (token.key name ∷ json_tokens value) old new

-- members of an object
abbrev pub text_tokens : List ℕ → List ℕ → List Token
text_tokens name text = token.key name ∷ token.string text ∷ []

abbrev pub number_tokens : List ℕ → ℕ → List Token
number_tokens name number = token.key name ∷ token.number (decimal number) ∷ []

abbrev pub flag_tokens : List ℕ → Bool → List Token
flag_tokens name flag = token.key name ∷ token.boolean flag ∷ []

-- the name of a text, and the line and the column of a byte offset of it
abbrev pub place_tokens : List ℕ → List ℕ → ℕ → List Token
place_tokens name source offset =
    text_tokens (codes "file") name ++ number_tokens (codes "line") (capped (line_number source offset))
    ++ number_tokens (codes "column") (capped (column_number source offset))

-- The output is what the writer held before, and then a line of its tokens and the end of an object.
pub record IsEnded (out : Written) (output : List ℕ) : Type 0 where
  pub line : List ℕ
  pub joined : output ≡ out.before ++ (line ++ 10 ∷ [])
  pub is : tokens line ≡ out.tokens ++ token.end_object ∷ []
