-- The computed check that a rule enters a level only where a token is certain: so the recursion limit's report is made,
-- and not dropped.
use Rattle.std.proofs.Common.{Bool, true, false, cond, not, Option, None, Some}
use Rattle.std.specs.Prelude.{is_some}
use Rattle.lexical_grammar.specs.Answers.{is_end}
use Rattle.document_grammar.specs.Booleans.{◌and◌, ◌or◌}
use Rattle.parser_rules.proofs.runs.Walk.{Domain, steady}
use Rattle.parser_rules.specs.Nodes.{Node, QueryShorthand, SelectionSet, ListType, ListValue}
use Rattle.parser_rules.specs.RuleLanguage.{TokenTest, Kind, Keyword, Or, Test, Here, Ready, Both}
use Rattle.parser_rules.specs.State.{Lexeme}

-- what is known of the current token while the grammar's reports are taken: nothing; that there is one; that it is not
-- the end
pub data Current : Type 0 where
  unknown : Current
  present : Current
  inner : Current

-- there is a token, and it is not the end
unfoldable pub is_inner : Option Lexeme → Bool
is_inner None = false
is_inner (Some x) = not (is_end x.kind)

abbrev pub known : Current → Option Lexeme → Bool
known unknown found = true
known present found = is_some found
known inner found = is_inner found

-- what a test that passes says
abbrev pub fits_inner : TokenTest → Bool
fits_inner (Kind token_kind) = not (is_end token_kind)
fits_inner (Keyword kind) = true
fits_inner (Or token_test other_test) = fits_inner token_test and fits_inner other_test

abbrev pub tells_inner : Test → Bool
tells_inner (Here token_test) = fits_inner token_test
tells_inner Ready = true
tells_inner (Both test other_test) = tells_inner test or tells_inner other_test
tells_inner _ = false

-- after a token that was not the end there is another one
abbrev pub after_token : Current → Current
after_token inner = present
after_token _ = unknown

abbrev pub is_known : Current → Bool
is_known unknown = false
is_known _ = true

abbrev pub same_inner : Current → Bool
same_inner inner = true
same_inner _ = false

-- the nodes that begin with the token before a level
abbrev pub begins_level : Node → Bool
begins_level QueryShorthand = true
begins_level SelectionSet = true
begins_level ListType = true
begins_level (ListValue constness) = true
begins_level _ = false

unfoldable pub limit_check : Domain Current
limit_check = record (steady unknown) {
  leaf = λ j a k. k (after_token a);
  limit = λ a k. is_known a and k a;
  test = λ q a f g. f (cond (tells_inner q) inner a) and g a;
  turn = λ a. unknown;
  keeps = λ a c. true;
  opens = λ n a. not (begins_level n) or same_inner a;
  begins = λ n. cond (begins_level n) inner unknown;
  after = λ j a k. k unknown;
}
