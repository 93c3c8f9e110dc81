-- Parts of the results of requests (Language Server Protocol 3.17).
use Rattle.std.specs.Prelude.{ℕ, List, ◌∷◌, codes}
use Rattle.json.specs.Json.{Json, member, no_members, object, string}
use Rattle.json.specs.Token.{Token, key}
use Rattle.json.specs.Tree.{json_tokens}
use Rattle.line_index.specs.declared.PositionEncoding.{PositionEncoding}
use Rattle.editor_diagnostics.specs.Positions.{position_of, range_value}
use Rattle.editor_answers.specs.declared.span.Span.{Span}

-- `Range`: a part of a text
abbrev pub range_of : PositionEncoding → List ℕ → Span → Json
range_of encoding text span = range_value (position_of encoding text span.start) (position_of encoding text span.end)

-- the tokens of a member whose value is such a range
abbrev pub range_tokens : PositionEncoding → List ℕ → List ℕ → Span → List Token
range_tokens encoding text name span = key name ∷ json_tokens (range_of encoding text span)

-- `Location`
abbrev pub location_value : PositionEncoding → List ℕ → List ℕ → Span → Json
location_value encoding text uri span =
    object (member (codes "uri") (string uri) (member (codes "range") (range_of encoding text span) no_members))

abbrev pub location_tokens : PositionEncoding → List ℕ → List ℕ → Span → List Token
location_tokens encoding text uri span = json_tokens (location_value encoding text uri span)

-- `DocumentHighlight`
abbrev pub mark_value : PositionEncoding → List ℕ → Span → Json
mark_value encoding text span = object (member (codes "range") (range_of encoding text span) no_members)

abbrev pub mark_tokens : PositionEncoding → List ℕ → Span → List Token
mark_tokens encoding text span = json_tokens (mark_value encoding text span)

-- `TextEdit`
abbrev pub change_value : PositionEncoding → List ℕ → List ℕ → Span → Json
change_value encoding text name span =
    object (member (codes "range") (range_of encoding text span) (member (codes "newText") (string name) no_members))

abbrev pub change_tokens : PositionEncoding → List ℕ → List ℕ → Span → List Token
change_tokens encoding text name span = json_tokens (change_value encoding text name span)
