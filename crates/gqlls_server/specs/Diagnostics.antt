-- What is published of the documents that a client has open, and known of files that are not.
use Rattle.std.specs.Prelude.{◌≡◌, ℕ, ℤ, Bool, List, [], Option, Some, None, length}
use Rattle.apollo_parser.specs.Parsed.{Parsed}
use Rattle.formatter.specs.Comments.{HasNoDefinitions}
use Rattle.rpc_messages.specs.declared.reply.Reply.{Reply}
use Rattle.rpc_messages.specs.declared.reply.Reply.TheVariants.{Nothing, Answer, Notification, Request, Exit}
use Rattle.editor_diagnostics.specs.Diagnostics.{Diagnosis}
use Rattle.editor_diagnostics.specs.Publication.{IsPublication}
use Rattle.editor_validation.specs.Diagnostics.{AreDiagnosticsOn}
use Rattle.editor_validation.specs.Fragments.{Fragments}
use Rattle.gqlls_server.specs.Dialogue.{Dialogue, SetsFile, opened}
use Rattle.gqlls_server.specs.Files.{IsSource, OpenFile}
use Rattle.gqlls_server.specs.Parsing.{IsParse, fragments_of}

-- The diagnostics on a parse: on its errors, or if it has none on the rules of validation that the document breaks, and
-- that the other documents with these fragments do not mend. Where the client takes related information, the first one
-- names a brace that is never closed.
abbrev pub AreDiagnosticsOf : Bool → List Fragments → Parsed → List Diagnosis → Type 0
AreDiagnosticsOf takes_related others parsed diagnostics =
    AreDiagnosticsOn takes_related others (record { whole = parsed.tree; index = 0 }) parsed.errors diagnostics

-- A file in GraphQL that is not open has this text, whose fragments are those of a parse within the limits. The parse
-- has this number of errors.
pub record KeepsFile (name text : List ℕ) (errors : ℕ) (old new : Dialogue) : Type 0 where
  pub parsed : Parsed
  pub counted : errors ≡ length parsed.errors
  pub promise : IsParse old.limits text parsed
  pub sets : SetsFile name (Some (opened old text None, fragments_of parsed)) old new

-- The body publishes the diagnostics on a parse of this file within its limits, at their positions as the client counts
-- them. There are none where the text that is parsed has no definitions. The parse has these fragments.
pub record IsDiagnosticsNotification
    (takes_related : Bool) (uri : List ℕ) (version : Option ℤ) (file : OpenFile) (fragments : Fragments)
    (others : List Fragments)
    (body : List ℕ) : Type 0 where
  pub text : List ℕ
  pub source : IsSource file text
  pub parsed : Parsed
  pub promise : IsParse file.limits text parsed
  pub named : fragments ≡ fragments_of parsed
  pub diagnostics : List Diagnosis
  pub said : (¬ HasNoDefinitions text) → AreDiagnosticsOf takes_related others parsed diagnostics
  pub silent : HasNoDefinitions text → diagnostics ≡ []
  pub published : IsPublication uri version file.content.encoding file.content.text diagnostics body

-- the reply is a notification whose body is such
abbrev pub Notifies : (List ℕ → Type 0) → Reply → Type 0
Notifies IsSuch Nothing = ⊥
Notifies IsSuch (Answer body) = ⊥
Notifies IsSuch (Notification body) = IsSuch body.items
Notifies IsSuch (Request body) = ⊥
Notifies IsSuch (Exit status) = ⊥
