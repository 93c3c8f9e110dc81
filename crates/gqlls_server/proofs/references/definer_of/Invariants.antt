use Rattle.std.proofs.Common.{◌≡◌, drop, map}
use Rattle.std.specs.List.{find}
use Rattle.gqlls_server.proofs.references.definer_of.Given as goal
use Rattle.gqlls_server.specs.Renaming.{defines}
use Rattle.gqlls_server.specs.State.{known_of}

-- the first one is among those that are left
abbrev pub invariant-loop-one : goal.invariant-loop-one
invariant-loop-one l =
    find (defines (known_of l.asked) l.offset) (map known_of (drop l.one-index l.known))
    ≡ find (defines (known_of l.asked) l.offset) (map known_of l.known)
