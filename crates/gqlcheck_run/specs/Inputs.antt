-- The texts of a run.
use Rattle.std.specs.BTreeSet.{contains_text}
use Rattle.std.specs.List.{sum_by}
use Rattle.std.specs.Prelude.{◌≡◌, ◌||◌, ◌+◌, ◌*◌, ℕ, Bool, false, List, [], ◌∷◌, ◌++◌, length, map, bytes_eq}
use Rattle.std.specs.Prelude.{string_bytes, Result, Ok, Err}
use Rattle.std.specs.Str.{IsUtf8}
use Rattle.byte_streams.specs.declared.fault.Fault.{Fault}
use Rattle.byte_streams.specs.declared.fault.Fault.TheVariants.{Read, Utf8, Memory, Write}
use Rattle.gqlcheck_run.specs.Numbers.{capped}
use Rattle.gqlcheck_run.specs.declared.inputs.Input as declared
use Rattle.gqlcheck_run.specs.declared.inputs.Texts as declared_texts

-- a text, and the name that it has in messages
pub record Input : Type 0 where
  pub name : List ℕ
  pub text : List ℕ

abbrev pub as_input : {A : Type 0} → declared.Input A → Input
as_input input = record { name = string_bytes input.name; text = string_bytes input.text }

abbrev pub text_of : Input → List ℕ
text_of input = input.text

-- how many bytes some texts have, or the greatest number of 64 bits where they have more
abbrev pub bytes_in : List Input → ℕ
bytes_in inputs = capped (sum_by (λ input. length input.text) inputs)

-- the steps that validation may take for some bytes, if no other number is given
abbrev pub default_steps : ℕ → ℕ
default_steps bytes = capped (1000000 + 10 * bytes)

-- the texts that are kept, and whether the file at a path was read before
pub record Texts : Type 0 where
  pub inputs : List Input
  pub was_read : List ℕ → Bool

-- before the first
abbrev pub no_texts : Texts
no_texts = record { inputs = []; was_read = λ path. false }

abbrev pub as_texts : {A : Type 0} → declared_texts.Texts A → Texts
as_texts texts = record { inputs = map as_input texts.inputs.items; was_read = contains_text texts.paths }

-- The file at this path was read, and no other.
abbrev pub Marks : List ℕ → (List ℕ → Bool) → (List ℕ → Bool) → Type 0
Marks path old new = (other : List ℕ) → new other ≡ (bytes_eq path other || old other)

-- What is kept of some bytes: the text that they are, after those before it. None is where they are not UTF-8, reading
-- failed, or memory was refused.
abbrev pub Keeps : List ℕ → Result (Unit {0}) Fault → List ℕ → List Input → List Input → Type 0
Keeps name (Ok done) bytes old new = IsUtf8 bytes × (new ≡ old ++ record { name = name; text = bytes } ∷ [])
Keeps name (Err Utf8) bytes old new = ¬ IsUtf8 bytes × (new ≡ old)
Keeps name (Err Read) bytes old new = new ≡ old
Keeps name (Err Memory) bytes old new = new ≡ old
Keeps name (Err Write) bytes old new = ⊥
