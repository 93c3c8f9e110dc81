use Rattle.std.proofs.Common.{refl}
use Rattle.gqlls_server.proofs.capabilities.registration.Goals as goal
use Rattle.gqlls_server.specs.Registration.{params}

pub request-requires : goal.request-requires
request-requires c = record { members = params; is = refl }

pub returns-clause-registers : goal.returns-clause-registers
returns-clause-registers c = c.in_ok-body.ensures.params params refl
