-- Diagnostics on a document: its syntax errors, or the rules of validation that it breaks.
use Rattle.std.specs.List.{filter}
use Rattle.std.specs.Prelude.{◌≡◌, ℕ, Bool, not, ◌||◌, if◌then◌else◌, List, [], ◌∷◌, map, find, take, None, Option}
use Rattle.std.specs.Prelude.{unwrap_or}
use Rattle.document_grammar.specs.Numbers.{is_kind}
use Rattle.document_grammar.specs.declared.kind.SyntaxKind.TheVariants.{ENUM_VALUE, FRAGMENT_NAME, NAME, VARIABLE}
use Rattle.apollo_lexer.specs.Diagnostics.{Diagnostic}
use Rattle.apollo_tree.specs.Children.{child_nodes}
use Rattle.apollo_tree.specs.Order.{Place, kind_at, range_at}
use Rattle.first_errors.specs.Groups.{definition_starts}
use Rattle.validation_rules.specs.RuleNames.{rule_name}
use Rattle.validation_rules.specs.Violations.{Breach}
use Rattle.validation_rules.specs.declared.violations.Rule.{Rule}
use Rattle.validation_rules.specs.declared.violations.Rule.TheVariants.{ExecutableDefinitions, KnownFragmentNames}
use Rattle.validation_rules.specs.declared.violations.Rule.TheVariants.{NoUnusedFragments, NoUnusedVariables}
use Rattle.document_validation.specs.Breaches.{AreFound, breaches}
use Rattle.document_validation.specs.Messages.{message_of}
use Rattle.editor_diagnostics.specs.Diagnostics.{Diagnosis, with_brace}
use Rattle.editor_diagnostics.specs.Syntax.{IsAboutFirst, syntax_diagnostics}
use Rattle.editor_diagnostics.specs.declared.diagnostic.Severity.{Severity}
use Rattle.editor_diagnostics.specs.declared.diagnostic.Severity.TheVariants.{Error, Warning}
use Rattle.editor_validation.specs.Braces.{open_brace}
use Rattle.editor_validation.specs.Fragments.{Fragments}
use Rattle.editor_validation.specs.Mending.{is_mended}

-- a warning where something is never used or another file may define it, and else an error
abbrev pub severity_of : Rule → Severity
severity_of ExecutableDefinitions = Warning
severity_of KnownFragmentNames = Warning
severity_of NoUnusedFragments = Warning
severity_of NoUnusedVariables = Warning
severity_of _ = Error

abbrev pub names : Place → Bool
names p = is_kind NAME (kind_at p) || is_kind FRAGMENT_NAME (kind_at p) || is_kind VARIABLE (kind_at p)
    || is_kind ENUM_VALUE (kind_at p)

-- the element that is marked for one: its name, if it has one, and else all of it
abbrev pub marked : Place → Place
marked p = if is_kind VARIABLE (kind_at p) then p else unwrap_or (find names (child_nodes p)) p

abbrev pub diagnostic_of : Breach → Diagnosis
diagnostic_of b = record {
  start = (range_at (marked b.site.place)).0;
  end = (range_at (marked b.site.place)).1;
  code = rule_name b.rule;
  severity = severity_of b.rule;
  message = message_of b;
  open_brace = None;
}

-- There is a diagnostic for each breach of a rule that no other document mends, up to a hundred of them; of more than
-- ten thousand breaches the first ten thousand are looked at.
pub record AreDiagnostics (others : List Fragments) (document : Place) (diagnostics : List Diagnosis) : Type 0 where
  pub found : List Breach
  pub exact : AreFound 10000 (breaches (document ∷ [])) found
  pub are : diagnostics ≡ map diagnostic_of (take 100 (filter (λ b. not (is_mended others b)) found))

-- ---- all diagnostics

-- the brace that the first error follows from, where it is named
abbrev pub brace_of : Bool → Place → Diagnostic → Option ℕ
brace_of names_braces document error = if names_braces then open_brace document error.index else None

-- The diagnostics on a document with these syntax errors: on the errors, and the first of them is about the first and
-- names the brace that is never closed. Without errors, on broken rules.
abbrev pub AreDiagnosticsOn : Bool → List Fragments → Place → List Diagnostic → List Diagnosis → Type 0
AreDiagnosticsOn names_braces others document [] diagnostics = AreDiagnostics others document diagnostics
AreDiagnosticsOn names_braces others document (error ∷ errors) diagnostics =
    (diagnostics ≡ with_brace (brace_of names_braces document error)
    (syntax_diagnostics (definition_starts document) (error ∷ errors)))
    × IsAboutFirst (error ∷ errors) diagnostics
