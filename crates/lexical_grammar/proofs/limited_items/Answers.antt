use Rattle.lexical_grammar.proofs.Limited.{limited-answers, limited-text, cut-text, all_given, given-within}
use Rattle.lexical_grammar.proofs.limited_items.Goals as goal

pub returns-clause-answers : goal.returns-clause-answers
returns-clause-answers c = limited-answers

pub returns-clause-text : goal.returns-clause-text
returns-clause-text c = limited-text

pub returns-clause-whole : goal.returns-clause-whole
returns-clause-whole c = cut-text

pub returns-clause-within : goal.returns-clause-within
returns-clause-within c = all_given

pub returns-clause-beyond : goal.returns-clause-beyond
returns-clause-beyond c = given-within
