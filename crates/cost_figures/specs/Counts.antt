-- The figures of a list of items.
use Rattle.std.specs.Prelude.{ℕ, zero, suc, ◌+◌, ◌-◌, ◌^◌, max, min, Bool, true, false, List, [], ◌∷◌, count_by}
use Rattle.cost_figures.specs.declared.figures.Figures.{Figures}
use Rattle.cost_figures.specs.declared.items.Item.{Item}
use Rattle.cost_figures.specs.declared.items.Item.TheVariants.{Field, ResponseName, Alias, Directive}

abbrev pub is_field : Item → Bool
is_field (Field e) = true
is_field _ = false

abbrev pub is_root_field : Item → Bool
is_root_field (Field zero) = true
is_root_field _ = false

abbrev pub is_response_name : Item → Bool
is_response_name (ResponseName e) = true
is_response_name _ = false

abbrev pub is_root_response_name : Item → Bool
is_root_response_name (ResponseName zero) = true
is_root_response_name _ = false

abbrev pub is_alias : Item → Bool
is_alias Alias = true
is_alias _ = false

abbrev pub is_directive : Item → Bool
is_directive Directive = true
is_directive _ = false

-- how many fields in one another end with an item
abbrev pub levels : Item → ℕ
levels (Field e) = e + 1
levels _ = 0

-- the greatest number of fields in one another
abbrev pub depth : List Item → ℕ
depth [] = 0
depth (x ∷ xs) = max (levels x) (depth xs)

-- the depth of a selection set where `n` fields enclose it; one with no field has none
abbrev pub lowered : ℕ → ℕ → ℕ
lowered zero n = 0
lowered (suc d) n = suc d + n

-- how many fields without an enclosing one are left where `n` fields enclose them
abbrev pub root_part : ℕ → ℕ → ℕ
root_part zero count = count
root_part (suc n) count = 0

-- a number as the program has it
abbrev pub capped : ℕ → ℕ
capped n = min n (2 ^ 64 - 1)

abbrev pub figures_of : List Item → Figures
figures_of xs = record {
  depth = capped (depth xs);
  fields = capped (count_by is_field xs);
  root_fields = capped (count_by is_root_field xs);
  aliases = capped (count_by is_alias xs);
  directives = capped (count_by is_directive xs);
  height = capped (count_by is_response_name xs);
  distinct_root_fields = capped (count_by is_root_response_name xs);
}
