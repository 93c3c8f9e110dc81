-- When two errors are equal, and what is hashed of one.
use Rattle.std.specs.Cmp.Lexicographic.{pointwise}
use Rattle.std.specs.Hash as fed
use Rattle.std.specs.Ordering.{on, eq_of_both}
use Rattle.std.specs.Prelude.{ℕ, List, ◌++◌, Bool, nat_eq}
use Rattle.apollo_lexer.specs.Diagnostics.{Subject, of_text, of_end, of_limit, Diagnostic, subject_text}

-- a text, an end and a limit are three different things
abbrev pub subject_number : Subject → ℕ
subject_number (of_text text) = 0
subject_number of_end = 1
subject_number of_limit = 2

abbrev pub same_diagnostic : Diagnostic → Diagnostic → Bool
same_diagnostic = eq_of_both (on (λ d. d.message) (pointwise nat_eq))
    (eq_of_both (on (λ d. subject_number d.subject) nat_eq)
    (eq_of_both (on (λ d. subject_text d.subject) (pointwise nat_eq)) (on (λ d. d.index) nat_eq)))

abbrev pub hashed : Diagnostic → List (List ℕ)
hashed d = fed.str d.message ++ fed.u8 (subject_number d.subject)
    ++ fed.str (subject_text d.subject) ++ fed.usize d.index
