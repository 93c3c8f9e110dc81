-- What listing a folder gives.
use Rattle.std.specs.Cmp.Lexicographic.{slice_cmp}
use Rattle.std.specs.List.Sorted.{IsSortedBy}
use Rattle.std.specs.Ordering.{is_lt, nat_cmp}
use Rattle.std.specs.Prelude.{ℕ, List, map, Option, Some, None, Result, Ok, Err, string_bytes}
use Rattle.std.specs.declared.io.Error.{Error}
use Rattle.std.specs.declared.vec.Vec.{Vec}
use Rattle.file_access.specs.declared.entries.Entry as declared
use Rattle.file_access.specs.declared.entries.Kind.{Kind}

-- a name in a folder, and what has it
pub record Entry : Type 0 where
  pub name : List ℕ
  pub kind : Kind

-- It could not be listed, for this error; there is no folder; or these are its entries.
pub data Listing : Type 0 where
  unlisted : Error → Listing
  no_folder : Listing
  entries : List Entry → Listing

abbrev pub as_entry : {A : Type 0} → declared.Entry A → Entry
as_entry entry = record { name = string_bytes entry.name; kind = entry.kind }

abbrev pub listing_of : {A : Type 0} → Result (Option (Vec (declared.Entry A) A)) Error → Listing
listing_of (Ok (Some found)) = entries (map as_entry found.items)
listing_of (Ok None) = no_folder
listing_of (Err error) = unlisted error

-- in the bytewise order of the names
abbrev pub AreInOrder : {A : Type 0} → List (declared.Entry A) → Type 0
AreInOrder found = IsSortedBy (λ one other. is_lt (slice_cmp nat_cmp (string_bytes one.name) (string_bytes other.name)))
    found
