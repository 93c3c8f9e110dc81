-- Paths from the root on.
use Rattle.std.specs.Prelude.{◌==◌, ◌++◌, ◌||◌, ℕ, List, [], ◌∷◌, length, codes, bytes_eq, Option, Some, None}
use Rattle.std.specs.Prelude.{if◌then◌else◌}
use Rattle.ignore_rules.specs.Parts.{parts}

-- a name below a path
abbrev pub below : List ℕ → List ℕ → List ℕ
below path name = if length path == 0 then name else path ++ codes "/" ++ name

-- The path of these names below a path, if it has any. Empty names and `.` count for nothing, and there is none where a
-- name is `..`.
abbrev pub path_of : List ℕ → List (List ℕ) → Option (List ℕ)
path_of path [] = if length path == 0 then None else Some path
path_of path (name ∷ names) =
    if bytes_eq name (codes "..") then None
    else (if length name == 0 || bytes_eq name (codes ".") then path_of path names
    else path_of (below path name) names)

-- The names of a path, with a slash between them: `/a//./b` is `a/b`. There are none for the root, and where a name is
-- `..`.
abbrev pub inner_path : List ℕ → Option (List ℕ)
inner_path path = path_of [] (parts 47 path)

-- what is before the names in a folder: nothing in the root
abbrev pub before_names : Option (List ℕ) → List ℕ
before_names None = []
before_names (Some path) = path ++ codes "/"
