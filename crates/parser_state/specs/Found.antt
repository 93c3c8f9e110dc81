-- The parser's word for the subject of a lexer's error.
use Rattle.parser_rules.specs.Messages.{Found, at_text, at_end, at_limit}
use Rattle.apollo_lexer.specs.Diagnostics.{Subject, of_text, of_end, of_limit}

abbrev pub found_of : Subject → Found
found_of (of_text text) = at_text text
found_of of_end = at_end
found_of of_limit = at_limit
