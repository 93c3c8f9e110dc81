-- The syntax errors of a document as diagnostics: one for each definition that has some.
use Rattle.std.specs.List.{starts_with}
use Rattle.std.specs.Prelude.{◌≡◌, ℕ, ◌+◌, ◌-◌, ◌^◌, ◌==◌, if◌then◌else◌, Bool, not, List, [], ◌∷◌, ◌++◌, length, map}
use Rattle.std.specs.Prelude.{take, min, codes, decimal, take_while, Option, None}
use Rattle.lexical_grammar.specs.Characters.{is_line_terminator}
use Rattle.apollo_lexer.specs.Diagnostics.{Diagnostic, subject_text}
use Rattle.first_errors.specs.Groups.{Group, groups}
use Rattle.editor_diagnostics.specs.Diagnostics.{Diagnosis, with_brace}
use Rattle.editor_diagnostics.specs.declared.diagnostic.Severity.TheVariants.{Error}
use Rattle.editor_diagnostics.specs.declared.syntax.ErrorGroup.{ErrorGroup}

-- ---- words

abbrev pub begins : List ℕ → List ℕ → Bool
begins message front = starts_with (λ x y. x == y) message front

-- the words for people: a punctuator in place of its name, and nothing of the text that was found
abbrev pub words_for : List ℕ → List ℕ
words_for message =
    if begins message (codes "expected R_CURLY") then codes "expected }"
    else if begins message (codes "expected R_PAREN") then codes "expected )"
    else if begins message (codes "expected R_BRACK") then codes "expected ]"
    else if begins message (codes "expected L_CURLY") then codes "expected {"
    else if begins message (codes "expected COLON") then codes "expected :"
    else if begins message (codes "expected a StringValue") then codes "expected a definition"
    else if begins message (codes "expected definition") then codes "expected a definition"
    else if begins message (codes "Unexpected <EOF>") then codes "expected a definition"
    else if begins message (codes "exptected an Implements") then codes
    "expected Implements Interfaces, Directives or a Fields Definition"
    else message

abbrev pub noun_of : ℕ → List ℕ
noun_of n = if n == 1 then codes "error" else codes "errors"

-- how many errors follow in the same definition
abbrev pub others_words : ℕ → List ℕ
others_words n = if n == 0 then [] else codes " ("
    ++ (decimal n ++ (codes " more " ++ (noun_of n ++ codes " before the next definition)")))

-- ---- the errors of each definition

abbrev pub as_group : ErrorGroup → Group
as_group g = record { first = g.first.now; others = g.others }

-- ---- diagnostics

-- the end of the text that an error is about, or of that text's first line; no offset is greater than 2 ^ 64 - 1
abbrev pub mark_end : Diagnostic → ℕ
mark_end error = min (error.index + length (take_while (λ c. not (is_line_terminator c)) (subject_text error.subject)))
    (2 ^ 64 - 1)

-- an error is marked from where it begins
abbrev pub syntax_diagnostic : Group → Diagnosis
syntax_diagnostic group = record {
  start = group.first.index;
  end = mark_end group.first;
  code = codes "syntax";
  severity = Error;
  message = words_for group.first.message ++ others_words group.others;
  open_brace = None;
}

-- the number of further diagnostics, at the front of the text
abbrev pub more_diagnostics : ℕ → List Diagnosis
more_diagnostics n =
    if n == 0 then [] else record {
      start = 0;
      end = 0;
      code = codes "syntax";
      severity = Error;
      message = decimal n ++ (codes " more " ++ noun_of n);
      open_brace = None;
    } ∷ []

-- one diagnostic for each definition that has errors, about the first of them, and where there are more than a hundred
-- their number
abbrev pub syntax_diagnostics : List ℕ → List Diagnostic → List Diagnosis
syntax_diagnostics starts errors =
    map syntax_diagnostic (take 100 (groups starts errors)) ++ more_diagnostics (length (groups starts errors) - 100)

-- where there are errors, the first diagnostic is about the first of them, and may name a brace
abbrev pub IsAboutFirst : List Diagnostic → List Diagnosis → Type 0
IsAboutFirst [] diagnostics = diagnostics ≡ []
IsAboutFirst (error ∷ errors) diagnostics =
    (others : ℕ) × (brace : Option ℕ) × (more : List Diagnosis)
    × (diagnostics ≡ with_brace brace (syntax_diagnostic (record { first = error; others = others }) ∷ more))
