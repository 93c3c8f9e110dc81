-- The results of layouts.
use Rattle.std.specs.List.{replace_range}
use Rattle.std.specs.Prelude.{MatchOption, ◌≡◌, ◌≤◌, ◌⊎◌, ℕ, ℤ, List, [], ◌∷◌, ◌++◌, length, slice_range, string_bytes}
use lib.IntN.{pos, neg_ℤ}
use Rattle.json.specs.Json.{Json, null}
use Rattle.apollo_parser.specs.declared.Limits.{Limits}
use Rattle.line_index.specs.declared.PositionEncoding.{PositionEncoding}
use Rattle.formatter.specs.Formatted.{IsDocument, MayExceed}
use Rattle.formatter.specs.Within.{IsFormattedWithin, IsOutgrown}
use Rattle.rpc_messages.specs.Messages.{IsError, IsResult}
use Rattle.editor_text.specs.Answered.{AreEditsOf, IsEditedBy}
use Rattle.editor_text.specs.Client.{Opened}
use Rattle.gqlls_server.specs.Files.{OpenFile}
use Rattle.gqlls_server.specs.declared.layout.Layout.{Layout}
use Rattle.gqlls_server.specs.declared.layout.Layout.TheVariants.{Text, Left, TooLong}

-- ---- a layout

-- the source is left as it is: it is no document within both limits, or its layout has too many items
abbrev pub IsLeft : Limits → List ℕ → Type 0
IsLeft limits source = (¬ IsDocument source limits.recursion limits.tokens) ⊎ IsOutgrown limits source

-- The new text is the source with another text for a part. The part is a document, and the other text, with a line end
-- after it, is that document with another layout.
pub record IsPartLaidOut (limits : Limits) (source new : List ℕ) : Type 0 where
  pub start : ℕ
  pub end : ℕ
  pub text : List ℕ
  pub formatted : IsFormattedWithin limits (slice_range source start end) (text ++ 10 ∷ [])
  pub is : new ≡ replace_range source start end text

-- a formatted text has at most 64 MB, in bytes
abbrev pub most_bytes : ℕ
most_bytes = 67108864

-- a formatted text of the source, which has no more; the source where it is left as it is; or none, for a document
-- whose formatted text can have more, as deep as the document nests
abbrev pub IsLayoutOf : Limits → List ℕ → Layout → Type 0
IsLayoutOf limits source (Text text) =
    IsFormattedWithin limits source (string_bytes text) × (length (string_bytes text) ≤ most_bytes)
IsLayoutOf limits source Left = IsLeft limits source
IsLayoutOf limits source TooLong = MayExceed source limits.recursion limits.tokens most_bytes

-- the layout is such a new text, or none
abbrev pub IsTextIf : (List ℕ → Type 0) → Layout → Type 0
IsTextIf IsSuch (Text text) = IsSuch (string_bytes text)
IsTextIf IsSuch Left = Unit {0}
IsTextIf IsSuch TooLong = Unit {0}

-- the body refuses the request with this id, with this code
abbrev pub IsRefusalOf : Json → ℤ → List ℕ → Type 0
IsRefusalOf id code body = (text : List ℕ) × IsError id code text body

-- The body answers the request with this id: by edits that make the new text of the source, by null where it is left,
-- and by `RequestFailed` where the new text would be too long.
abbrev pub IsLaidOut : Json → PositionEncoding → List ℕ → Layout → List ℕ → Type 0
IsLaidOut id encoding source (Text text) body = IsEditedBy id encoding source (string_bytes text) body
IsLaidOut id encoding source Left body = IsResult id null body
IsLaidOut id encoding source TooLong body = IsRefusalOf id (neg_ℤ (pos 32803)) body

-- ---- the result of `textDocument/formatting`

-- Edits, after which the client's text is a formatted text of the one before.
pub record IsEdited (limits : Limits) (content : Opened) (result : Json) : Type 0 where
  pub text : List ℕ
  pub formatted : IsFormattedWithin limits content.text text
  pub short : length text ≤ most_bytes
  pub edits : AreEditsOf content.encoding content.text text result

-- null for a text that is no document within the limits, or whose layout has too many items, and else such edits
abbrev pub IsFormatting : Limits → Opened → Json → Type 0
IsFormatting limits content result = (IsLeft limits content.text × (result ≡ null)) ⊎ IsEdited limits content result

-- `RequestFailed` for a document within the limits: its layout is too long, and so the document is not short for how
-- deep it nests
pub record IsTooLong (limits : Limits) (id : Json) (content : Opened) (body : List ℕ) : Type 0 where
  pub long : MayExceed content.text limits.recursion limits.tokens most_bytes
  pub refused : IsRefusalOf id (neg_ℤ (pos 32803)) body

-- the body answers the request with this id by such a result, or refuses it
abbrev pub IsFormattingOf : Limits → Json → Opened → List ℕ → Type 0
IsFormattingOf limits id content body =
    ((result : Json) × IsFormatting limits content result × IsResult id result body) ⊎ IsTooLong limits id content body

-- the same of a file: one in another language stays as it is
abbrev pub IsFormattingIn : Limits → Json → OpenFile → List ℕ → Type 0
IsFormattingIn limits id file body =
    MatchOption file.host (IsFormattingOf limits id file.content body) (λ host. IsResult id null body)

-- ---- the result of `textDocument/rangeFormatting`

-- Edits, after which the client's text is the one before with another layout of a part.
pub record IsPartEdited (limits : Limits) (content : Opened) (result : Json) : Type 0 where
  pub text : List ℕ
  pub formatted : IsPartLaidOut limits content.text text
  pub edits : AreEditsOf content.encoding content.text text result

-- such edits, or null where the text is left as it is
abbrev pub IsRangeFormatting : Limits → Opened → Json → Type 0
IsRangeFormatting limits content result = (result ≡ null) ⊎ IsPartEdited limits content result

-- The body answers the request with this id by such a result, or refuses it: as `InvalidParams` where the message has
-- no range, and as `RequestFailed` where the layout would be too long.
abbrev pub IsRangeFormattingOf : Limits → Json → Opened → List ℕ → Type 0
IsRangeFormattingOf limits id content body =
    ((result : Json) × IsRangeFormatting limits content result × IsResult id result body)
    ⊎ (IsRefusalOf id (neg_ℤ (pos 32602)) body ⊎ IsRefusalOf id (neg_ℤ (pos 32803)) body)

-- the same of a file: one in another language stays as it is
abbrev pub IsRangeFormattingIn : Limits → Json → OpenFile → List ℕ → Type 0
IsRangeFormattingIn limits id file body =
    MatchOption file.host (IsRangeFormattingOf limits id file.content body) (λ host. IsResult id null body)
