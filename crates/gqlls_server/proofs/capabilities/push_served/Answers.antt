use Rattle.std.proofs.Common.{refl}
use Rattle.gqlls_server.proofs.Announced.{written}
use Rattle.gqlls_server.proofs.capabilities.push_served.Goals as goal
use Rattle.gqlls_server.specs.declared.capabilities.TheConstants.{VERSION}

pub returns : goal.returns
returns c =
    written c.args.asks_first VERSION.now _ _ _ _ _ _ _ _ _ c.in_ok-extend_from_slice.ensures.items
    c.in_ok-extend_from_slice-2.ensures.items
    c.in_ok-extend_from_slice-3.ensures.items c.in_ok-extend_from_slice-4.ensures.items c.renaming.ensures refl
