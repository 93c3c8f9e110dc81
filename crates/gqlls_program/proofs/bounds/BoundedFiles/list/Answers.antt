use Rattle.named_files.specs.Finding.{none, more}
use Rattle.gqlls_program.proofs.bounds.BoundedFiles.list.Goals as goal

pub returns-then-self-eq0-clause-lists : goal.returns-then-self-eq0-clause-lists
returns-then-self-eq0-clause-lists g c = none

pub returns-clause-lists : goal.returns-clause-lists
returns-clause-lists g c = more none c.list.ensures.lists
