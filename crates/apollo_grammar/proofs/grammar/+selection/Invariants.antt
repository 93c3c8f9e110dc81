use Rattle.std.proofs.Common.{◌+◌, ◌*◌}
use Rattle.parser_rules.proofs.runs.Frame.{left}
use Rattle.parser_rules.specs.Nodes.{Selection}
use Rattle.parser_rules.specs.RuleLanguage.{Here, Call}
use Rattle.parser_rules.specs.Rules.{selection_start}
use Rattle.parser_rules.specs.Runs.{Turns}
use Rattle.apollo_grammar.proofs.grammar.+selection.Given as goal

abbrev pub decreases-field::field : goal.decreases-field::field
decreases-field::field g l = 6 * left l.p.now + 1

abbrev pub decreases-fragment::inline_fragment : goal.decreases-fragment::inline_fragment
decreases-fragment::inline_fragment g l = 6 * left l.p.now + 1

abbrev pub decreases-selection::selection_set : goal.decreases-selection::selection_set
decreases-selection::selection_set g l = 6 * left l.p.now + 6

abbrev pub decreases-selection::inside_selection_set : goal.decreases-selection::inside_selection_set
decreases-selection::inside_selection_set g l = 6 * left l.p.now

abbrev pub decreases-selection::selections : goal.decreases-selection::selections
decreases-selection::selections g l = 6 * left l.p.now + 5

abbrev pub decreases-selection::selection : goal.decreases-selection::selection
decreases-selection::selection g l = 6 * left l.p.now + 4

abbrev pub decreases-selection::spread : goal.decreases-selection::spread
decreases-selection::spread g l = 6 * left l.p.now + 3

abbrev pub decreases-selection::spread_before : goal.decreases-selection::spread_before
decreases-selection::spread_before g l = 6 * left l.p.now + 2

abbrev pub invariant-selection::selections-loop-p : goal.invariant-selection::selections-loop-p
invariant-selection::selections-loop-p g l = Turns (Here selection_start) (Call Selection) l.initial.p l.p

abbrev pub decreases-selection::selections-loop-p : goal.decreases-selection::selections-loop-p
decreases-selection::selections-loop-p g l = left l.p
