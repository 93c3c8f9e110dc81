-- What holds of every run of a root's rule: it begins where the root is open and the text before the first token is in
-- it.
use Rattle.std.proofs.Common.{◌≡◌, ℕ, ◌+◌, ◌≤◌, min, true, None, List, [], ◌∷◌, ◌++◌, length, map, ap, ◌∙◌}
use Rattle.std.specs.List.{list_any}
use Rattle.std.specs.List.Sorted.{IsNonDecreasing}
use Rattle.lexical_grammar.specs.Answers.{Answer, limited, usize_max}
use Rattle.lexical_grammar.specs.Cut.{Item, Cut}
use Rattle.document_grammar.specs.Builds.{Building}
use Rattle.document_grammar.specs.Forests.{none as no_trees}
use Rattle.document_grammar.specs.declared.kind.SyntaxKind.{SyntaxKind}
use Rattle.parser_rules.proofs.fragments.FrontReports.{begins-reports}
use Rattle.parser_rules.proofs.reports.AlongItems.{Onward, tells-along, so_far}
use Rattle.parser_rules.proofs.reports.AtTheLimit.{limits-along, asked-since}
use Rattle.parser_rules.proofs.reports.InOrder.{in-order-front}
use Rattle.parser_rules.proofs.runs.Frame.{keeps_along, adds_along, root-open, kept-nesting, read-untouched}
use Rattle.parser_rules.proofs.runs.Steps.{Holds_along, along}
use Rattle.parser_rules.specs.Fragments.{started}
use Rattle.parser_rules.specs.Open.{is_free, IsRoot}
use Rattle.parser_rules.specs.Reports.{Reported, is_recursion_limit}
use Rattle.parser_rules.specs.RuleLanguage.{Rule}
use Rattle.parser_rules.specs.Runs.{Runs}
use Rattle.parser_rules.specs.State.{State, Report, flush, fresh, begun}

module _ {rule : Rule} {state : State} (items : List Answer) (limit : ℕ) (this_kind : SyntaxKind)
    (run : Runs rule (started items limit this_kind) state) where
  -- what holds along each step holds from the first token on
  pub since : {R : State → State → Type 0} → Holds_along R → R (begun items limit this_kind) state
  since holds_along = let before : State = begun items limit this_kind in
      holds_along.next before (flush before) state (holds_along.flushes before) (along holds_along run)

  pub root-above : state.tree.above ≡ record { before = no_trees; kind = this_kind } ∷ []
  root-above = (since adds_along).trees.above ∙ ap (λ (b : Building). b.above) (root-open items limit this_kind)

  pub is-root : is_free this_kind ≡ true → IsRoot state.tree
  is-root free = (this_kind, free, root-above)

  pub levels-left : (state.depth ≡ 0) × (state.limit ≡ limit) × (state.high ≤ limit + 1)
  levels-left = kept-nesting items limit this_kind state (since keeps_along)

  pub all-asked : state.asked ≡ length items
  all-asked = (since keeps_along).asked ∙ (read-untouched items (fresh items limit this_kind)).asked

  pub limit-passed : list_any is_recursion_limit state.errors ≡ true → min (limit + 1) usize_max ≤ state.high
  limit-passed = asked-since items limit this_kind state levels-left.1 (since limits-along)

  -- reports of all answers begin with those that were made
  pub all-reported : (later : List Report) × Reported true items (state.errors ++ later)
  all-reported = begins-reports items state (so_far items limit this_kind state (since tells-along))

  -- the answers that are gone, and the reports of them
  pub so-far : Onward true None items [] state
  so-far = so_far items limit this_kind state (since tells-along)

pub ordered-front : {rule : Rule} {state : State} (n : ℕ) (source : List ℕ) (items : List Item)
    (limit : ℕ) (kind : SyntaxKind)
    → Runs rule (started (limited n items) limit kind) state → Cut source items
    → IsNonDecreasing (map (λ (report : Report). report.index) state.errors)
ordered-front {state = state} n source items limit kind run cut =
    let a = all-reported (limited n items) limit kind run in
    in-order-front n source items state.errors a.0 cut a.1
