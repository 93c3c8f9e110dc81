-- The limits that operations exceed.
use Rattle.std.specs.Prelude.{◌≡◌, ◌<◌, ◌≤◌, ℕ, List, length, take, find, nat_lt, All, Option, Some, slice_index_or}
use Rattle.validation_names.specs.Definitions.{as_defined}
use Rattle.cost_figures.specs.Limiting.{figure_of, limits_in_order}
use Rattle.cost_figures.specs.declared.figures.Figures.{Figures}
use Rattle.cost_figures.specs.declared.limits.Limit.{Limit}
use Rattle.cost_limits.specs.Measures.{Measure}
use Rattle.cost_limits.specs.declared.limits.Exceeded.{Exceeded}

-- the first limit that figures exceed
abbrev pub exceeded_by : Figures → Figures → Option Limit
exceeded_by limits figures = find (λ l. nat_lt (figure_of l limits) (figure_of l figures)) limits_in_order

-- each figure is at most its limit
abbrev pub IsWithin : Figures → Measure → Type 0
IsWithin limits m = (l : Limit) → figure_of l m.figures ≤ figure_of l limits

-- the first operation that exceeds a limit, and the first limit that it exceeds
pub record IsExceeded (measures : List Measure) (limits : Figures) (e : Exceeded) : Type 0 where
  pub number : ℕ
  pub inside : number < length measures
  pub before : All (IsWithin limits) (take number measures)
  pub measure : Measure
  pub measure_is : slice_index_or measures number measure ≡ measure
  pub operation_is : as_defined e.operation ≡ measure.operation
  pub limit_is : exceeded_by limits measure.figures ≡ Some e.limit
  pub found_is : e.found ≡ figure_of e.limit measure.figures
  pub most_is : e.most ≡ figure_of e.limit limits
