use Rattle.gqlls_server.proofs.Changes.{array_items}
use Rattle.gqlls_server.proofs.parameters.items_of.Goals as goal

pub returns-in-Array : goal.returns-in-Array
returns-in-Array c = array_items _ _ _ c.in-Array.is c.as_slice.ensures.value
