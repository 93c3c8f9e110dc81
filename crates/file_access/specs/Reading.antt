-- What reading a file gives.
use Rattle.std.specs.IoError.{error_kind}
use Rattle.std.specs.Prelude.{◌≡◌, ℕ, List, Result, Ok, Err, String, Vec, string_bytes}
use Rattle.std.specs.declared.io.Error.{Error}
use Rattle.std.specs.declared.io.ErrorKind.TheVariants.{NotFound}

-- its bytes, or why they could not be read
abbrev pub bytes_of : {A : Type 0} → Result (Vec ℕ A) Error → Result (List ℕ) Error
bytes_of (Ok bytes) = Ok bytes.items
bytes_of (Err error) = Err error

-- the bytes of a text, or why there is none
abbrev pub text_of : {A : Type 0} → Result (String A) Error → Result (List ℕ) Error
text_of (Ok text) = Ok (string_bytes text)
text_of (Err error) = Err error

-- since no file is there
abbrev pub IsAbsent : Error → Type 0
IsAbsent error = error_kind error ≡ NotFound
