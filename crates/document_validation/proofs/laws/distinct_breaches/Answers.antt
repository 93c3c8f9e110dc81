use Rattle.document_validation.proofs.DistinctLemmas as lemmas
use Rattle.document_validation.proofs.laws.distinct_breaches.Goals as goal

pub returns : goal.returns
returns c = lemmas.distinct_breaches
