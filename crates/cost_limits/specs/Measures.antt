-- The figures of the operations of some documents, and why there are none.
use Rattle.std.specs.List.{filter}
use Rattle.std.specs.Prelude.{◌≡◌, ℕ, suc, ◌-◌, ◌^◌, ◌<◌, List, [], ◌∷◌, length, map, Bool, true, false, if◌then◌else◌}
use Rattle.std.specs.Prelude.{◌&&◌, nat_lt, Option, Some, None, unwrap_or, slice_index_or, Contains}
use Rattle.validation_names.specs.Definitions.{Defined, as_defined, fragment_names}
use Rattle.validation_names.specs.Names.{Name, first_number}
use Rattle.validation_names.specs.declared.executables.DefinitionKind.TheVariants.{Operation, Fragment}
use Rattle.cost_figures.specs.Outcome.{AreMeasured, IsCycle, IsUndefined}
use Rattle.cost_figures.specs.declared.figures.Figures.{Figures}
use Rattle.cost_figures.specs.declared.items.Item.{Item}
use Rattle.cost_limits.specs.Items.{definition_items}
use Rattle.cost_limits.specs.declared.introspection.Introspection.{Introspection}
use Rattle.cost_limits.specs.declared.introspection.Introspection.TheVariants.{Counted}
use Rattle.cost_limits.specs.declared.measures.MeasureError.{MeasureError}
use Rattle.cost_limits.specs.declared.measures.MeasureError.TheVariants.{SameName, Cycle, Undefined, Memory}
use Rattle.cost_limits.specs.declared.measures.MeasureOptions.{MeasureOptions}
use Rattle.cost_limits.specs.declared.measures.OperationFigures.{OperationFigures}

-- the number of the first fragment of a name; where there is none, a number that no definition has
abbrev pub number_in : List (Option Name) → Option Name → ℕ
number_in names None = 2 ^ 64 - 1
number_in names (Some s) = unwrap_or (first_number names s) (2 ^ 64 - 1)

-- the items of each definition
abbrev pub items_of : Introspection → List Defined → List (List Item)
items_of introspection ds = map (λ d. definition_items introspection (number_in (fragment_names ds)) d.site) ds

abbrev pub is_operation : Defined → Bool
is_operation d = elim d.kind [ Operation ↦ true | Fragment ↦ false ]

-- an operation of one of the first documents, as many as are measured, or of any document
abbrev pub is_measured : Option ℕ → Defined → Bool
is_measured None d = is_operation d
is_measured (Some count) d = is_operation d && nat_lt d.site.document count

-- the numbers of these operations, where the first definition has the number `i`
abbrev pub operations : Option ℕ → ℕ → List Defined → List ℕ
operations measured i [] = []
operations measured i (d ∷ ds) =
    if is_measured measured d then i ∷ operations measured (suc i) ds else operations measured (suc i) ds

-- all operations, with all their fields
abbrev pub everything : MeasureOptions
everything = record { introspection = Counted; measured = None }

-- an operation with its figures
pub record Measure : Type 0 where
  pub operation : Defined
  pub figures : Figures

abbrev pub as_measure : OperationFigures → Measure
as_measure o = record { operation = as_defined o.operation; figures = o.figures }

-- a fragment is the first one of its name
abbrev pub IsFirst : List (Option Name) → ℕ → Type 0
IsFirst names k = (s : Name) → slice_index_or names k None ≡ Some s → first_number names s ≡ Some k

-- no two fragments have one name
abbrev pub AreDistinct : List (Option Name) → Type 0
AreDistinct names = (k : ℕ) → IsFirst names k

-- the fragment `second` has the name of an earlier one, of which `first` is the first
pub record IsSecond (names : List (Option Name)) (first second : ℕ) : Type 0 where
  pub name : Name
  pub first_is : first_number names name ≡ Some first
  pub second_is : slice_index_or names second None ≡ Some name
  pub apart : first < second

-- the measures are those of the operations among the definitions `ds` that are measured, in order
pub record AreMeasures (options : MeasureOptions) (ds : List Defined) (measures : List Measure) : Type 0 where
  pub operations_are : map (λ m. m.operation) measures ≡ filter (is_measured options.measured) ds
  pub figures_are :
      AreMeasured (items_of options.introspection ds) (operations options.measured 0 ds) (map (λ m. m.figures) measures)
  pub distinct : AreDistinct (fragment_names ds)

-- `a` is the first fragment of a name, and `b` a later one of the same name
pub record AreTwins (ds : List Defined) (a b : Defined) : Type 0 where
  pub first : ℕ
  pub second : ℕ
  pub is_second : IsSecond (fragment_names ds) first second
  pub first_at : (first < length ds) × (slice_index_or ds first a ≡ a)
  pub second_at : (second < length ds) × (slice_index_or ds second b ≡ b)

-- what an error says of the definitions `ds`
abbrev pub IsMeasureError : MeasureOptions → List Defined → MeasureError → Type 0
IsMeasureError options ds (SameName a b) = AreTwins ds (as_defined a) (as_defined b)
IsMeasureError options ds (Cycle span) =
    (r : ℕ) × Contains (operations options.measured 0 ds) r × IsCycle (items_of options.introspection ds) r span
IsMeasureError options ds (Undefined span) =
    (r : ℕ) × Contains (operations options.measured 0 ds) r × IsUndefined (items_of options.introspection ds) r span
IsMeasureError options ds Memory = Unit {0}
