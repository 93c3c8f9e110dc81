-- The same facts of texts that are equal, and texts after changes.
use Rattle.std.proofs.Common.{◌≡◌, ℕ, ℤ, List, [], ◌∷◌, Option, map, refl, subst}
use Rattle.std.specs.Prelude.{fold}
use Rattle.line_index.specs.Positions.{units}
use Rattle.line_index.specs.declared.PositionEncoding.{PositionEncoding}
use Rattle.editor_diagnostics.specs.Diagnostics.{Diagnosis}
use Rattle.editor_diagnostics.specs.Publication.{IsPublication}
use Rattle.editor_text.specs.Client.{changed, changed_all, replaced}
use Rattle.editor_text.specs.declared.Change.{Change}
use Rattle.gqlls_server.specs.Parameters.{client_edit}

pub same_publication : (uri : List ℕ) (version : Option ℤ) (encoding units : PositionEncoding) (text source : List ℕ)
    (diagnostics : List Diagnosis) (body : List ℕ)
    → encoding ≡ units → text ≡ source → IsPublication uri version encoding text diagnostics body
    → IsPublication uri version units source diagnostics body
same_publication uri version encoding units text source diagnostics body e t h =
    subst (λ (x : PositionEncoding). IsPublication uri version x source diagnostics body) e
    (subst (λ (x : List ℕ). IsPublication uri version encoding x diagnostics body) t h)

-- changes, as a message tells them
pub told_all : (encoding : PositionEncoding) (changes : List Change) (text : List ℕ)
    → fold (λ text edit. replaced encoding text edit.0 (units encoding edit.1)) text (map client_edit changes)
    ≡ changed_all encoding text changes
told_all encoding [] text = refl
told_all encoding (change ∷ changes) text = told_all encoding changes (changed encoding text change)
