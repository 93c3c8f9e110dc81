-- A frame: a head of fields, as HTTP has them, and a body. A field of the head gives the number of the body's bytes.
use Rattle.std.specs.Char.{to_ascii_lowercase, is_ascii_digit}
use Rattle.std.specs.List.{list_all}
use Rattle.std.specs.Prelude.{◌≡◌, ℕ, ◌<◌, ◌≤◌, ◌^◌, Bool, ◌&&◌, nat_lt, if◌then◌else◌, List, [], ◌∷◌, ◌++◌}
use Rattle.std.specs.Prelude.{length, map, take, drop, slice_range, codes, decimal}
use Rattle.std.specs.Prelude.{Option, Some, None, IfSome}
use Rattle.std.specs.Str.{bytes_eq}
use Rattle.std.specs.Str.Parse.{digits_value}
use Rattle.httparse.specs.Grammar.{Field, LineEnd, print_section, ReadsSection}
use Rattle.httparse.specs.Spans.{name_and_value}

-- the number that decimal digits spell
abbrev pub numeral : List ℕ → Option ℕ
numeral text = if nat_lt 0 (length text) && list_all is_ascii_digit text then Some (digits_value 10 text) else None

-- "Content-Length", without regard to case
abbrev pub is_length_name : List ℕ → Bool
is_length_name name = bytes_eq (map to_ascii_lowercase name) (map to_ascii_lowercase (codes "content-length"))

-- what the first of these fields with that name says, by their names and values
abbrev pub length_in : List (List ℕ × List ℕ) → Option ℕ
length_in [] = None
length_in (field ∷ fields) = if is_length_name field.0 then numeral field.1 else length_in fields

-- A frame of this body. Its head has at most 16 fields and 4096 bytes, and the body at most 2 ^ 30 bytes.
pub record IsFrame (frame body : List ℕ) : Type 0 where
  pub fields : List Field
  pub last : LineEnd
  pub head : ReadsSection frame fields last body
  pub says : length_in (map name_and_value fields) ≡ Some (length body)
  pub few : length fields ≤ 16
  pub short : length (print_section fields last) ≤ 4096
  pub small : length body ≤ 2 ^ 30

-- the bytes begin with a frame of the body, and the rest follows it
abbrev pub BeginsWithFrame : List ℕ → List ℕ → List ℕ → Type 0
BeginsWithFrame bytes body rest = (frame : List ℕ) × IsFrame frame body × (bytes ≡ frame ++ rest)

-- the bytes begin with no frame; nor do they, whatever follows
abbrev pub HasNoFrame : List ℕ → Type 0
HasNoFrame bytes = (body rest : List ℕ) → BeginsWithFrame bytes body rest → ⊥

abbrev pub NeverHasFrame : List ℕ → Type 0
NeverHasFrame bytes = (more : List ℕ) → HasNoFrame (bytes ++ more)

-- with none of the first bytes begins a frame, whatever follows
abbrev pub AreGarbage : List ℕ → ℕ → Type 0
AreGarbage bytes count = (k : ℕ) → k < count → NeverHasFrame (drop k bytes)

-- The first bytes are left out, at least one where there is one. With none of the others that are left out begins a
-- frame.
pub record IsSkipped (old new : List ℕ) : Type 0 where
  pub count : ℕ
  pub some : 0 < count
  pub left : new ≡ drop count old
  pub garbage : (k : ℕ) → 0 < k → k < count → NeverHasFrame (drop k old)

-- how many bytes to read next
pub record IsWanted (count : ℕ) : Type 0 where
  pub some : 0 < count
  pub few : count ≤ 2 ^ 16

-- the frame that this crate writes
abbrev pub frame_of : List ℕ → List ℕ
frame_of body = codes "Content-Length: " ++ decimal (length body) ++ codes "\r\n\r\n" ++ body

-- a number that was read, or none where there is none below 2 ^ 64
abbrev pub Agrees : Option ℕ → Option ℕ → Type 0
Agrees stated None = IfSome stated (λ n. 2 ^ 64 ≤ n)
Agrees stated (Some n) = stated ≡ Some n

-- A head that ends before start: what follows it is the body, of this many bytes.
pub record IsHeadAt (bytes : List ℕ) (start size : ℕ) : Type 0 where
  pub fields : List Field
  pub last : LineEnd
  pub reads : ReadsSection bytes fields last (drop start bytes)
  pub ends : start ≡ length (print_section fields last)
  pub says : length_in (map name_and_value fields) ≡ Some size
  pub few : length fields ≤ 16
  pub short : start ≤ 4096

-- from start to end is the body of the frame that begins the bytes
pub record IsBodyAt (bytes : List ℕ) (start end : ℕ) : Type 0 where
  pub ordered : start ≤ end
  pub within : end ≤ length bytes
  pub frame : IsFrame (take end bytes) (slice_range bytes start end)
