use Rattle.gqlls_server.proofs.documents.parsed.Goals as goal

pub returns : goal.returns
returns c = rw (c.within.ensures.source, c.within.ensures.recursion_limit, c.within.ensures.token_limit) at
    c.in_ok-tree.ensures.promise
