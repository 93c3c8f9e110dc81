use Rattle.parser_rules.specs.Runs.{yes, no}
use Rattle.apollo_grammar.proofs.Parsing.{parsed_by}
use Rattle.apollo_document.proofs.Keywords.{without_keyword}
use Rattle.apollo_document.proofs.grammar.document.definition.Goals as goal

pub returns-then-at : goal.returns-then-at
returns-then-at g c =
    parsed_by (λ r. without_keyword c.in_default.ensures c.current.ensures (yes c.if-at.ensures r))
    c.query_shorthand.ensures

pub returns-then-at_word : goal.returns-then-at_word
returns-then-at_word g c =
    parsed_by (λ r. without_keyword c.in_default.ensures c.current.ensures
    (no c.if-at.ensures (yes c.if-at_word.ensures r))) c.extensions.ensures

pub returns : goal.returns
returns g c =
    parsed_by (λ r. without_keyword c.in_default.ensures c.current.ensures
    (no c.if-at.ensures (no c.if-at_word.ensures r))) c.no_definition.ensures
