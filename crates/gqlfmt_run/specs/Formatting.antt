-- What formatting makes of a text, and what is shown of that.
use Rattle.std.specs.Prelude.{◌≡◌, ◌≢◌, ◌<◌, ◌≤◌, ◌⊎◌, ◌*◌, ◌-◌, ◌^◌, ℕ, min, max, List, [], ◌∷◌, ◌++◌, length, map}
use Rattle.std.specs.Prelude.{codes, string_bytes, Option, Some, None, Result, Ok, Err, String}
use mathlib.Core.Logic.{inl, inr}
use Rattle.document_grammar.specs.Derivation.{nest}
use Rattle.apollo_parser.specs.Errors.{error_of}
use Rattle.apollo_parser.specs.declared.Limits.{Limits}
use Rattle.formatter.specs.Finding.{AreFirstOf}
use Rattle.formatter.specs.Formatted as format
use Rattle.formatter.specs.Lengths.{longest_layout}
use Rattle.formatter.specs.LineEnds.{HasLineEnd, end_bytes, first_line_end}
use Rattle.formatter.specs.Within.{IsFormattedWithin, IsOutgrown, HasCommentsAlone, AreCommentsWithin}
use Rattle.formatter.specs.Within.{AreCommentsOutgrown}
use Rattle.formatter.specs.declared.line_ends.LineEnd.{LineEnd}
use Rattle.formatter.specs.declared.line_ends.LineEnd.TheVariants as end
use Rattle.command_lines.specs.declared.gqlfmt.LineEndings.{LineEndings}
use Rattle.command_lines.specs.declared.gqlfmt.LineEndings.TheVariants.{Lf, Crlf, Keep}
use Rattle.gqlfmt_run.specs.Quoting.{head_name, quoted}
use Rattle.gqlfmt_run.specs.declared.job.Bounds.{Bounds}
use Rattle.gqlfmt_run.specs.declared.revision.Refusal.{Refusal}
use Rattle.gqlfmt_run.specs.declared.revision.Refusal.TheVariants.{Errors, Outgrown, TooLong}

-- How many bytes a formatted text may have: as many as are said, or else 64 MiB, or 16 for each byte of the source if
-- these are more.
abbrev pub most_of : Option ℕ → List ℕ → ℕ
most_of (Some most) source = most
most_of None source = max (min (16 * length source) (2 ^ 64 - 1)) 67108864

-- how the lines of its formatted text end
abbrev pub line_end_of : LineEndings → List ℕ → LineEnd
line_end_of Lf source = end.Lf
line_end_of Crlf source = end.Crlf
line_end_of Keep source = first_line_end source

-- This is the formatted text of the source, a document or comments alone, within the limits, and no longer than is
-- allowed. Its line ends are those that are wanted.
pub record IsLaidOut (bounds : Bounds) (source text : List ℕ) : Type 0 where
  pub within : IsFormattedWithin bounds.limits source text ⊎ AreCommentsWithin bounds.limits source text
  pub short : length text ≤ most_of bounds.most_output source
  pub ends : HasLineEnd (line_end_of bounds.line_endings source) text

-- the source is no document within both limits, and no text of comments alone within them
pub record HasErrors (limits : Limits) (source : List ℕ) : Type 0 where
  pub refused : format.IsNoDocument source limits.recursion limits.tokens
  pub definitions : ¬ HasCommentsAlone limits source

-- It is one, but its formatted text has more items than are allowed.
abbrev pub HasOutgrown : Limits → List ℕ → Type 0
HasOutgrown limits source = IsOutgrown limits source ⊎ AreCommentsOutgrown limits source

-- a document within both limits, or a text of comments alone within them
abbrev pub HasLayout : Limits → List ℕ → Type 0
HasLayout limits source = format.IsDocument source limits.recursion limits.tokens ⊎ HasCommentsAlone limits source

-- how deep it nests: as its only derivation, or not at all
abbrev pub nesting_of : (limits : Limits) (source : List ℕ) → HasLayout limits source → ℕ
nesting_of limits source (inl document) = nest document.tree
nesting_of limits source (inr comments) = 0

-- It is one, but its formatted text is said to have more bytes than are allowed. That text is not built; but fewer
-- bytes are allowed than a formatted text of the source can have, as deep as the source nests, where each of its bytes
-- may be a line feed that becomes the line end that is wanted.
pub record IsTooLong (bounds : Bounds) (source : List ℕ) : Type 0 where
  pub text : HasLayout bounds.limits source
  pub few : most_of bounds.most_output source
      < length (end_bytes (line_end_of bounds.line_endings source)) * longest_layout
      (nesting_of bounds.limits source text) (length source)

-- how many errors of a source are shown at most
abbrev pub most_shown : ℕ
most_shown = 20

-- why a source is left as it is
abbrev pub IsRefusedFor : {A : Type 0} → Bounds → List ℕ → Refusal A → Type 0
IsRefusedFor bounds source (Errors first) =
    HasErrors bounds.limits source
    × AreFirstOf bounds.limits source most_shown (map error_of first.errors.items) first.more
IsRefusedFor bounds source Outgrown = HasOutgrown bounds.limits source
IsRefusedFor bounds source TooLong = IsTooLong bounds source

-- the source is left as it is
abbrev pub IsRefused : Bounds → List ℕ → Type 0
IsRefused bounds source = HasErrors bounds.limits source ⊎ HasOutgrown bounds.limits source ⊎ IsTooLong bounds source

-- this is its formatted text, and another text than the source
pub record IsChanged (bounds : Bounds) (source text : List ℕ) : Type 0 where
  pub formatted : IsLaidOut bounds source text
  pub other : text ≢ source

-- what formatting makes of a source: its formatted text, or why it is left as it is
abbrev pub IsRevised : {A : Type 0} → Bounds → List ℕ → Result (String A) (Refusal A) → Type 0
IsRevised bounds source (Ok text) = IsLaidOut bounds source (string_bytes text)
IsRevised bounds source (Err refusal) = IsRefusedFor bounds source refusal

-- the source has a formatted text that is another one
abbrev pub HasAnotherLayout : Bounds → List ℕ → Type 0
HasAnotherLayout bounds source = (text : List ℕ) × IsChanged bounds source text

-- the name as a line
abbrev pub IsListing : List ℕ → List ℕ → Type 0
IsListing name output = output ≡ quoted name ++ 10 ∷ []

-- a unified diff of two texts that have this name: both names at its head, and hunks. Which
-- lines these show is not stated.
abbrev pub IsDiff : List ℕ → List ℕ → Type 0
IsDiff name output = (hunks : List ℕ)
    × (output ≡ codes "--- " ++ head_name name ++ codes "\n+++ " ++ head_name name ++ codes "\n" ++ hunks)
