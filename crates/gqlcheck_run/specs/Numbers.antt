-- Numbers of 64 bits.
use Rattle.std.specs.Prelude.{ℕ, ◌-◌, ◌^◌, decimal, min}
use Rattle.json.specs.Json.{Json, number}

-- a number, or the greatest of 64 bits where it is greater
abbrev pub capped : ℕ → ℕ
capped n = min n (2 ^ 64 - 1)

-- the same in JSON
abbrev pub json_number : ℕ → Json
json_number n = number (decimal (capped n))
