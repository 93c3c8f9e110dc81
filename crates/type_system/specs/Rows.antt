-- Rows of items: for each definition of a type, what its definitions and extensions have in blocks of a kind.
use Rattle.std.specs.Prelude.{◌≡◌, ℕ, ◌<◌, List, [], ◌++◌, length, map, Some, if◌then◌else◌, slice_get, Bool}
use Rattle.std.specs.Prelude.{slice_index_or, option_and_then, option_map}
use Rattle.std.specs.declared.alloc.Global.{Global}
use Rattle.std.specs.declared.vec.Vec.{Vec}
use Rattle.document_grammar.specs.declared.kind.SyntaxKind.{SyntaxKind}
use Rattle.validation_names.specs.Names.{Name}
use Rattle.validation_names.specs.Sites.{Located, as_located}
use Rattle.validation_names.specs.declared.sites.Site.{Site}
use Rattle.type_system.specs.Definitions.{items}
use Rattle.type_system.specs.Schemas.{as_with_arguments, entered, entered_site}
use Rattle.type_system.specs.Tables.{AreFirst, AreFirstFields}
use Rattle.type_system.specs.Types.{TypeNumbers, field_in, input_in, is_part_of, value_in, with_those}
use Rattle.type_system.specs.declared.schema.TypeParts.{TypeParts}

abbrev pub Rows : Type 0
Rows = List (Vec Site Global)

abbrev pub nothing : List Located
nothing = []

abbrev pub located_row : Vec Site Global → List Located
located_row row = map as_located row.items

abbrev pub row_at : Rows → ℕ → List Located
row_at rows number = slice_index_or (map located_row rows) number nothing

-- The rows are these for each number below a bound.
pub record AreRows (row : ℕ → List Located) (count : ℕ) (rows : Rows) : Type 0 where
  pub as_many : length rows ≡ count
  pub each : (number : ℕ) → number < count → row_at rows number ≡ row number

abbrev pub items_if : Bool → SyntaxKind → Located → List Located
items_if b block d = if b then items block d else nothing

-- The items of a definition are added to the row of its type.
pub record AddsItems (numbers : TypeNumbers) (block : SyntaxKind) (d : Located) (old new : Rows) : Type 0 where
  pub as_many : length new ≡ length old
  pub each : (number : ℕ) → number < length old
      → row_at new number ≡ row_at old number ++ items_if (is_part_of numbers number d) block d

-- What a type has: its fields, its values, and what it is given as an input object.
pub record AreOf
    (numbers : TypeNumbers) (d : Located) (fs vs is : List Located) (parts : TypeParts) : Type 0 where
  pub fields : AreFirstFields numbers parts.fields fs
  pub values : AreFirst parts.values vs
  pub input : as_with_arguments parts.input ≡ with_those numbers d is

-- Each type has what the rows with its number have.
pub record AreOfRows
    (numbers : TypeNumbers) (ds : List Located) (fields values inputs : Rows) (parts : List TypeParts) (count : ℕ)
    : Type 0 where
  pub as_many : length parts ≡ count
  pub each : (number : ℕ) (d : Located) (p : TypeParts) → slice_get ds number ≡ Some d → slice_get parts number ≡ Some p
      → AreOf numbers d (row_at fields number) (row_at values number) (row_at inputs number) p

-- They have what the definitions and extensions of the types have.
pub record AreParts (numbers : TypeNumbers) (ds : List Located) (parts : List TypeParts) : Type 0 where
  pub fields : (number : ℕ) (name : Name)
      → option_and_then (λ p. entered p.fields name) (slice_get parts number) ≡ field_in numbers ds number name
  pub values : (number : ℕ) (name : Name)
      → option_and_then (λ p. entered_site p.values name) (slice_get parts number) ≡ value_in numbers ds number name
  pub inputs : (number : ℕ)
      → option_map (λ p. as_with_arguments p.input) (slice_get parts number) ≡ input_in numbers ds number
