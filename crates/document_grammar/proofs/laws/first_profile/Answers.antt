use Rattle.document_grammar.proofs.FirstProfile.{first-profile}
use Rattle.document_grammar.proofs.Texts.{first-sentence}
use Rattle.document_grammar.proofs.laws.first_profile.Goals as goal

pub returns-clause-tokens : goal.returns-clause-tokens
returns-clause-tokens c = first-profile

pub returns-clause-texts : goal.returns-clause-texts
returns-clause-texts c = first-sentence
