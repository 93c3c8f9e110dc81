-- Workflow commands of GitHub Actions, as its documentation has them ("Workflow commands for GitHub Actions", "Setting
-- an error message").
use Rattle.std.specs.List.{flat_map}
use Rattle.std.specs.Prelude.{◌==◌, ℕ, Bool, true, false, List, [], ◌∷◌, ◌++◌, codes, decimal, if◌then◌else◌}

-- A byte of a message: `%`, CR and LF are escaped.
abbrev pub data_byte : ℕ → List ℕ
data_byte b = if b == 37 then codes "%25" else
    (if b == 13 then codes "%0D" else (if b == 10 then codes "%0A" else b ∷ []))

-- one of a property's value: `:` and `,` are too
abbrev pub property_byte : ℕ → List ℕ
property_byte b = if b == 58 then codes "%3A" else (if b == 44 then codes "%2C" else data_byte b)

-- a message, and a property's value
abbrev pub message_data : List ℕ → List ℕ
message_data text = flat_map data_byte text

abbrev pub property : List ℕ → List ℕ
property text = flat_map property_byte text

-- how the command for a finding begins that is in a file of this name, at a line and a column
abbrev pub command_of : Bool → List ℕ
command_of true = codes "::warning file="
command_of false = codes "::error file="

abbrev pub position : ℕ → ℕ → List ℕ
position line column = codes ",line=" ++ decimal line ++ codes ",col=" ++ decimal column ++ codes ","

abbrev pub command_at : Bool → List ℕ → ℕ → ℕ → List ℕ
command_at is_warning name line column = command_of is_warning ++ property name ++ position line column
