-- What two conversations have in common.
use Rattle.std.specs.Prelude.{◌≡◌, ℕ, ℤ, List, Option}
use Rattle.editor_diagnostics.specs.Diagnostics.{Diagnosis}
use Rattle.editor_diagnostics.specs.Publication.{IsPublication}
use Rattle.gqlls_server.specs.Files.{OpenFile}

-- two bodies publish the same diagnostics on a document
pub record HaveSameDiagnostics (uri : List ℕ) (version : Option ℤ) (file : OpenFile)
    (first second : List ℕ) : Type 0 where
  pub diagnostics : List Diagnosis
  pub once : IsPublication uri version file.content.encoding file.content.text diagnostics first
  pub again : IsPublication uri version file.content.encoding file.content.text diagnostics second
