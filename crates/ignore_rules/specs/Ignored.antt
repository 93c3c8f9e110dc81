-- What the rules of an ignore file leave out (gitignore(5), "PATTERN FORMAT").
use Rattle.std.specs.Prelude.{◌==◌, ◌&&◌, ◌||◌, ◌++◌, not, ℕ, Bool, true, false, List, [], ◌∷◌, map, Option, Some, None}
use Rattle.std.specs.Prelude.{if◌then◌else◌}
use Rattle.ignore_rules.specs.Fits.{fits}
use Rattle.ignore_rules.specs.Lines.{Rule, as_rule}
use Rattle.ignore_rules.specs.Paths.{inner_path}
use Rattle.ignore_rules.specs.declared.rules.Rules.{Rules}

abbrev pub as_rules : {A : Type 0} → Rules A → List Rule
as_rules rules = map as_rule rules.rules.items

-- whether a rule is about this path, of a folder or not
abbrev pub is_about : Bool → List ℕ → Rule → Bool
is_about is_folder path rule = (is_folder || not rule.folders_only) && fits rule.signs path

-- Whether a path is left out: the last rule about it decides, or if there is none, the answer before these rules.
abbrev pub decided : Bool → List ℕ → Bool → List Rule → Bool
decided is_folder path before [] = before
decided is_folder path before (rule ∷ rules) =
    decided is_folder path (if is_about is_folder path rule then not rule.keeps else before) rules

-- Whether one of the folders above a path is left out. The path is in two parts, and these are the folders that end in
-- the second.
abbrev pub is_below : List Rule → List ℕ → List ℕ → Bool
is_below rules before [] = false
is_below rules before (b ∷ path) =
    (b == 47 && decided true before false rules) || is_below rules (before ++ b ∷ []) path

-- A folder that is left out leaves out all below it.
abbrev pub leave_out : List Rule → Bool → Option (List ℕ) → Bool
leave_out rules is_folder None = false
leave_out rules is_folder (Some path) = is_below rules [] path || decided is_folder path false rules

-- Whether the rules leave out the file or the folder at a path. They say nothing about other folders than theirs.
abbrev pub ignores : List Rule → List ℕ → Bool → Bool
ignores rules path is_folder = leave_out rules is_folder (inner_path path)
