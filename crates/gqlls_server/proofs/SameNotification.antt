-- What is published of a document is a function of its text, its limits and the fragments of others.
use Rattle.std.proofs.Common.{◌≡◌, ℕ, ℤ, Bool, List, Option, None, subst}
use Rattle.std.specs.List.{Contains}
use Rattle.std.specs.Prelude.{◌↔◌, MatchOption}
use Rattle.apollo_parser.proofs.OneParse.{one-parse}
use Rattle.apollo_parser.specs.Parsed.{Parsed}
use Rattle.formatter.specs.Comments.{HasNoDefinitions}
use Rattle.editor_diagnostics.specs.Diagnostics.{Diagnosis}
use Rattle.editor_diagnostics.specs.Publication.{IsPublication}
use Rattle.editor_validation.proofs.SameDiagnostics.{same-diagnostics}
use Rattle.editor_validation.specs.Fragments.{Fragments}
use Rattle.embedded_documents.specs.Masked.{IsMasked}
use Rattle.embedded_documents.specs.declared.scanner.HostLanguage.{HostLanguage}
use Rattle.gqlls_server.specs.Diagnostics.{AreDiagnosticsOf, IsDiagnosticsNotification}
use Rattle.gqlls_server.specs.Files.{OpenFile}
use Rattle.gqlls_server.specs.Parsing.{IsParse}
use Rattle.gqlls_server.specs.Same.{HaveSameDiagnostics}

-- the text that is parsed is the document's own
own_text : (file : OpenFile) (source : List ℕ) (host : Option HostLanguage) → host ≡ None
    → MatchOption host (source ≡ file.content.text) (λ language. IsMasked file.content.text source)
    → source ≡ file.content.text
own_text file source host none is =
    subst (λ (h : Option HostLanguage). MatchOption h (source ≡ file.content.text)
    (λ language. IsMasked file.content.text source)) none is

-- the diagnostics of a document that is the text itself
record Diagnostics (takes_related : Bool) (uri : List ℕ) (version : Option ℤ) (file : OpenFile)
    (others : List Fragments) (body : List ℕ) : Type 0 where
  parsed : Parsed
  parse : IsParse file.limits file.content.text parsed
  diagnostics : List Diagnosis
  are : AreDiagnosticsOf takes_related others parsed diagnostics
  published : IsPublication uri version file.content.encoding file.content.text diagnostics body

diagnostics_of : (takes_related : Bool) (uri : List ℕ) (version : Option ℤ) (file : OpenFile) (fragments : Fragments)
    (others : List Fragments) (body : List ℕ)
    → file.host ≡ None → (¬ HasNoDefinitions file.content.text)
    → IsDiagnosticsNotification takes_related uri version file fragments others body
    → Diagnostics takes_related uri version file others body
diagnostics_of takes_related uri version file fragments others body plain some notification =
    let own = own_text file notification.text file.host plain notification.source in
    record {
      parsed = notification.parsed;
      parse = subst (λ text. IsParse file.limits text notification.parsed) own notification.promise;
      diagnostics = notification.diagnostics;
      are = notification.said (λ none. some (subst HasNoDefinitions own none));
      published = notification.published;
    }

pub same-notification : (takes_related : Bool) (uri : List ℕ) (version : Option ℤ) (file : OpenFile)
    (fragments same_fragments : Fragments)
    (others same : List Fragments) (first second : List ℕ) → file.host ≡ None → (¬ HasNoDefinitions file.content.text)
    → ((f : Fragments) → Contains others f ↔ Contains same f)
    → IsDiagnosticsNotification takes_related uri version file fragments others first
    → IsDiagnosticsNotification takes_related uri version file same_fragments same second
    → HaveSameDiagnostics uri version file first second
same-notification takes_related uri version file fragments same_fragments others same first second plain some
    alike notification again =
    let f = diagnostics_of takes_related uri version file fragments others first plain some notification in
    let s = diagnostics_of takes_related uri version file same_fragments same second plain some again in
    let one : s.parsed ≡ f.parsed = one-parse s.parsed f.parsed s.parse.by_rules f.parse.by_rules in
    let are : AreDiagnosticsOf takes_related same f.parsed s.diagnostics =
    subst (λ p. AreDiagnosticsOf takes_related same p s.diagnostics) one s.are in
    let list : s.diagnostics ≡ f.diagnostics =
    same-diagnostics takes_related others same (record { whole = f.parsed.tree; index = 0 }) f.parsed.errors
    f.diagnostics s.diagnostics alike f.are are in
    record {
      diagnostics = f.diagnostics;
      once = f.published;
      again = subst (λ rs. IsPublication uri version file.content.encoding file.content.text rs second)
          list s.published;
    }
