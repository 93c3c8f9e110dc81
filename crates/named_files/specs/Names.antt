-- Which names in a folder are looked at, and the paths that they have.
use Rattle.std.specs.List.{starts_with, ends_with}
use Rattle.std.specs.Prelude.{◌++◌, ◌||◌, ℕ, Bool, eqb, List, codes, bytes_eq, if◌then◌else◌}

abbrev pub is_hidden : List ℕ → Bool
is_hidden name = starts_with eqb name (codes ".")

-- the folder in which package managers put the work of others
abbrev pub is_of_others : List ℕ → Bool
is_of_others name = bytes_eq name (codes "node_modules")

abbrev pub is_graphql : List ℕ → Bool
is_graphql name = ends_with eqb name (codes ".graphql") || ends_with eqb name (codes ".graphqls")
    || ends_with eqb name (codes ".gql")

-- The path of a name in a folder. In the working folder it is the name. Where a name could not be read, it is the
-- folder's.
abbrev pub path_in : List ℕ → List ℕ → List ℕ
path_in folder name =
    if bytes_eq name (codes "") then folder
    else (if bytes_eq folder (codes ".") then name
    else (if ends_with eqb folder (codes "/") then folder ++ name
    else folder ++ codes "/" ++ name))
