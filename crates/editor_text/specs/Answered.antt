-- The answer that has edits.
use Rattle.std.specs.Prelude.{◌≡◌, ℕ, List}
use Rattle.std.specs.Str.{IsUtf8}
use Rattle.json.specs.Json.{Json}
use Rattle.json.specs.Token.{Token}
use Rattle.json.specs.Tree.{json_tokens}
use Rattle.line_index.specs.Positions.{units}
use Rattle.line_index.specs.declared.PositionEncoding.{PositionEncoding}
use Rattle.rpc_messages.specs.Messages.{IsResult}
use Rattle.editor_diagnostics.specs.Positions.{position_of}
use Rattle.editor_text.specs.Edited.{AreApart, TextEdit, edit_value, edited, edits_value}
use Rattle.editor_text.specs.declared.differences.Edit.{Edit}

abbrev pub text_edit : PositionEncoding → List ℕ → Edit → TextEdit
text_edit encoding text edit =
    (record { start = position_of encoding text edit.start; end = position_of encoding text edit.end }, edit.text.now)

abbrev pub edit_tokens : PositionEncoding → List ℕ → Edit → List Token
edit_tokens encoding text edit = json_tokens (edit_value (text_edit encoding text edit))

-- Edits, none of which overlaps another, after which a client's text is the new one.
pub record Makes (encoding : PositionEncoding) (old new : List ℕ) (edits : List TextEdit) : Type 0 where
  pub apart : AreApart encoding (units encoding old) 0 edits
  pub made : edited encoding (units encoding old) 0 edits ≡ units encoding new

-- the result is a list of such edits
pub record AreEditsOf (encoding : PositionEncoding) (old new : List ℕ) (result : Json) : Type 0 where
  pub edits : List TextEdit
  pub is : result ≡ edits_value edits
  pub makes : IsUtf8 old → Makes encoding old new edits

-- the body answers the request with this id by such a result
abbrev pub IsEditedBy : Json → PositionEncoding → List ℕ → List ℕ → List ℕ → Type 0
IsEditedBy id encoding old new body = (result : Json) × AreEditsOf encoding old new result × IsResult id result body
