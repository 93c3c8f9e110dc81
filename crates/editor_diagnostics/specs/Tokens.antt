-- The tokens of a notification, part by part.
use Rattle.std.specs.Fmt.{signed_decimal}
use Rattle.std.specs.List.{flat_map}
use Rattle.std.specs.Prelude.{ℕ, ℤ, List, [], ◌∷◌, Option, Some, None, codes}
use Rattle.json.specs.Token.{Token, begin_object, end_object, begin_array, end_array, key, string, number}
use Rattle.json.specs.Tree.{json_tokens}
use Rattle.line_index.specs.declared.PositionEncoding.{PositionEncoding}
use Rattle.editor_diagnostics.specs.Diagnostics.{as_diagnosis}
use Rattle.editor_diagnostics.specs.Publication.{diagnostic_value}
use Rattle.editor_diagnostics.specs.declared.diagnostic.Diagnostic.{Diagnostic}

-- the parameters, up to the diagnostics
abbrev pub front_tokens : List ℕ → Option ℤ → List Token
front_tokens uri (Some version) =
    begin_object ∷ key (codes "uri") ∷ string uri ∷ key (codes "version") ∷ number (signed_decimal version)
    ∷ key (codes "diagnostics") ∷ begin_array ∷ []
front_tokens uri None = begin_object ∷ key (codes "uri") ∷ string uri ∷ key (codes "diagnostics") ∷ begin_array ∷ []

-- a brace that a diagnostic names, up to its range, and what follows that
abbrev pub brace_front : List ℕ → List Token
brace_front uri =
    key (codes "relatedInformation") ∷ begin_array ∷ begin_object ∷ key (codes "location") ∷ begin_object
    ∷ key (codes "uri") ∷ string uri
    ∷ key (codes "range") ∷ []

abbrev pub brace_end : List Token
brace_end = end_object ∷ key (codes "message") ∷ string (codes "this { is never closed") ∷ end_object
    ∷ end_array ∷ end_object ∷ []

abbrev pub diagnostic_tokens : List ℕ → PositionEncoding → List ℕ → Diagnostic → List Token
diagnostic_tokens uri encoding text diagnostic =
    json_tokens (diagnostic_value uri encoding text (as_diagnosis diagnostic))

abbrev pub tokens_of_diagnostics : List ℕ → PositionEncoding → List ℕ → List Diagnostic → List Token
tokens_of_diagnostics uri encoding text = flat_map (diagnostic_tokens uri encoding text)
