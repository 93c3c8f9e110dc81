use Rattle.validation_rules.specs.Parts.{operations, parts_in}
use Rattle.variable_rules.proofs.WalkLemmas.{ends_once, ends_somewhere}
use Rattle.document_validation.proofs.laws.one_end.Goals as goal

pub returns-clause-some : goal.returns-clause-some
returns-clause-some c steps documents =
    ends_somewhere steps (parts_in documents) (operations (parts_in documents))

pub returns-clause-one : goal.returns-clause-one
returns-clause-one c steps documents = ends_once steps (parts_in documents) (operations (parts_in documents))
