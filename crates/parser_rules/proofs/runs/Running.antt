-- What the functions of a parser are proved by: the forms of a run, and that nodes and levels stay open.
use Rattle.parser_rules.proofs.runs.Forms.{wanted, chosen, optional, in-node, for-fragment, for-enum}
use Rattle.parser_rules.proofs.runs.Frame.{ended, is-open, still-open, open-in-node, open-in-loop, budget-in-loop}
use Rattle.parser_rules.proofs.runs.Frame.{open-too-deep, open-inside, open-outside, is-inside, still-inside, still-at}
use Rattle.parser_rules.specs.Open.{IsInside, IsCheckpoint}
use Rattle.parser_rules.specs.RuleLanguage.{holds, step}
use Rattle.parser_rules.specs.Runs.{skip, does, seq, yes, no, child, deeper, refused, call, plain, wrapped, begin, turn}
use Rattle.parser_rules.specs.State.{same_kind, flush, opened, closed, bump, note, is_deep, enter, leave, too_deep}
use Rattle.parser_rules.specs.State.{wrapped_from}

-- a step, and one rule after the other
pub ruleset sequence = (skip, seq, yes, no)

-- a function of the grammar
pub ruleset running = (
  sequence,
  child,
  call,
  wanted,
  chosen,
  optional,
  for-fragment,
  for-enum,
  is-open,
  still-open,
  still-at,
)

-- the same, with a loop
pub ruleset looping = (running, begin, turn, ended, open-in-loop, budget-in-loop)

-- the same, one level deeper, or with a node that is opened with its first leaf
pub ruleset nesting = (
  looping,
  deeper,
  refused,
  plain,
  wrapped,
  open-too-deep,
  open-inside,
  open-outside,
  is-inside,
  still-inside,
  in-node,
  open-in-node,
)

-- what the steps of a state are
unfoldable pub steps : Unit {0}
unfolding same_kind holds step flush opened closed bump note is_deep enter leave too_deep wrapped_from
    IsInside IsCheckpoint
steps = tt
