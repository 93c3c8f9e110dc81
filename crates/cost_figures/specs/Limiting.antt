-- Figures beside limits.
use Rattle.std.specs.Prelude.{ℕ, List, [], ◌∷◌}
use Rattle.cost_figures.specs.declared.figures.Figures.{Figures}
use Rattle.cost_figures.specs.declared.limits.Limit.{Limit}
use Rattle.cost_figures.specs.declared.limits.Limit.TheVariants.{Depth, Fields, RootFields, Aliases, Directives, Height}
use Rattle.cost_figures.specs.declared.limits.Limit.TheVariants.{DistinctRootFields}

-- the figure that a limit is one of
abbrev pub figure_of : Limit → Figures → ℕ
figure_of Depth f = f.depth
figure_of Fields f = f.fields
figure_of RootFields f = f.root_fields
figure_of Aliases f = f.aliases
figure_of Directives f = f.directives
figure_of Height f = f.height
figure_of DistinctRootFields f = f.distinct_root_fields

-- all limits, in the order in which they are compared
abbrev pub limits_in_order : List Limit
limits_in_order = Depth ∷ Fields ∷ RootFields ∷ Aliases ∷ Directives ∷ Height ∷ DistinctRootFields ∷ []
