-- The words of directive locations, and which of them a token is.
use Rattle.std.specs.List.{find}
use Rattle.std.specs.Prelude.{List, ◌++◌, Option}
use Rattle.document_grammar.specs.declared.kind.SyntaxKind.{SyntaxKind}
use Rattle.parser_rules.specs.Rules.{executable_locations, type_system_locations}
use Rattle.parser_rules.specs.State.{Lexeme, is_word}

-- ExecutableDirectiveLocation, and after it TypeSystemDirectiveLocation (3.13)
abbrev pub locations : List SyntaxKind
locations = executable_locations ++ type_system_locations

-- the first of them that the token is
unfoldable pub location_word : Option Lexeme → Option SyntaxKind
location_word token = find (λ k. is_word k token) locations
