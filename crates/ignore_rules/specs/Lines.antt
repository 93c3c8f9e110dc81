-- The lines of an ignore file (gitignore(5), "PATTERN FORMAT").
use Rattle.std.specs.List.{starts_with, ends_with, list_any, suffix_len}
use Rattle.std.specs.Prelude.{◌==◌, ◌++◌, ◌+◌, ◌-◌, ◌%◌, eqb, ℕ, Bool, true, false, List, [], ◌∷◌, length, take, drop}
use Rattle.std.specs.Prelude.{map, codes, Option, Some, None, filter_map, if◌then◌else◌}
use Rattle.ignore_rules.specs.Fits.{Sign, byte, folders, as_sign}
use Rattle.ignore_rules.specs.Parts.{parts}
use Rattle.ignore_rules.specs.Paths.{before_names, inner_path}
use Rattle.ignore_rules.specs.Reading.{signs_of}
use Rattle.ignore_rules.specs.declared.lines.Rule as declared

-- A pattern's rule: whether it takes back what rules before it leave out, and whether it is about folders alone.
pub record Rule : Type 0 where
  pub keeps : Bool
  pub folders_only : Bool
  pub signs : List Sign

abbrev pub as_rule : {A : Type 0} → declared.Rule A → Rule
as_rule rule = record { keeps = rule.keeps; folders_only = rule.folders_only; signs = map as_sign rule.signs.items }

-- how many of a byte a text ends with
abbrev pub ending : ℕ → List ℕ → ℕ
ending b text = suffix_len (λ c. c == b) text

-- The line without the spaces that end it (32), but for one that a backslash quotes (92): before it is an odd number of
-- them.
abbrev pub without_spaces : List ℕ → List ℕ
without_spaces line =
    let front = take (length line - ending 32 line) line in
    take (length front + ending 92 front % 2) line

-- the line without the carriage return that ends it
abbrev pub without_return : List ℕ → List ℕ
without_return line = if ends_with eqb line (codes "\r") then take (length line - 1) line else line

-- without the slash that begins it
abbrev pub without_slash : List ℕ → List ℕ
without_slash text = if starts_with eqb text (codes "/") then drop 1 text else text

-- an empty pattern gives no rule
abbrev pub spelled : Bool → Bool → List Sign → List ℕ → Option Rule
spelled keeps folders_only before text =
    if length text == 0 then None
    else Some (record { keeps = keeps; folders_only = folders_only; signs = before ++ signs_of text })

-- A pattern with a slash at its beginning or in its middle is about paths from the folder of the file on; another is
-- about names at any depth. Before it are the signs of that folder.
abbrev pub anchored : List Sign → Bool → Bool → List ℕ → Option Rule
anchored folder keeps folders_only text =
    if list_any (λ b. b == 47) text then spelled keeps folders_only folder (without_slash text)
    else spelled keeps folders_only (folder ++ folders ∷ []) text

-- one with a slash at its end is about folders alone
abbrev pub pattern : List Sign → Bool → List ℕ → Option Rule
pattern folder keeps text =
    if ends_with eqb text (codes "/") then anchored folder keeps true (take (length text - 1) text) else anchored
    folder keeps false text

-- A line that begins with a hash is a comment, and a pattern after an exclamation mark takes back.
abbrev pub rule_in : List Sign → List ℕ → Option Rule
rule_in folder text =
    if starts_with eqb text (codes "#") then None
    else (if starts_with eqb text (codes "!") then pattern folder true (drop 1 text)
    else pattern folder false text)

abbrev pub rule_of : List Sign → List ℕ → Option Rule
rule_of folder line = rule_in folder (without_spaces (without_return line))

-- The signs of a folder's path, from the root on, and of the slash after it.
abbrev pub folder_signs : List ℕ → List Sign
folder_signs folder = map byte (before_names (inner_path folder))

-- The rules of an ignore file in a folder, by the file's text. Lines end with a line feed (10), and maybe a carriage
-- return before it.
abbrev pub rules_in : List ℕ → List ℕ → List Rule
rules_in folder text = filter_map (rule_of (folder_signs folder)) (parts 10 text)
