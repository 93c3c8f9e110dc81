-- Which ends of a path pass a test.
use Rattle.std.specs.Prelude.{◌≡◌, ◌<◌, ◌≤◌, ℕ, Bool, false, List, length, drop, slice_index_or}
use Rattle.ignore_rules.specs.declared.fit_table.Window.{Window}

-- The table has the answer for each end of the path, by where it begins.
abbrev pub IsTable : (List ℕ → Bool) → List ℕ → List Bool → Type 0
IsTable test path table = (k : ℕ) → k ≤ length path → slice_index_or table k false ≡ test (drop k path)

-- no end passes
abbrev pub IsClear : List Bool → Type 0
IsClear table = (k : ℕ) → slice_index_or table k false ≡ false

-- none passes that begins outside of the window
pub record IsWithin (window : Window) (table : List Bool) : Type 0 where
  pub before : (k : ℕ) → k < window.first → slice_index_or table k false ≡ false
  pub from : (k : ℕ) → window.end ≤ k → slice_index_or table k false ≡ false

-- the table of a test, with a window that has all ends that pass
pub record IsWindow (test : List ℕ → Bool) (path : List ℕ) (window : Window) (table : List Bool) : Type 0 where
  pub answers : IsTable test path table
  pub within : IsWithin window table
