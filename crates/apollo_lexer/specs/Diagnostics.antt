-- What an error says.
use Rattle.std.specs.Prelude.{ℕ, ◌+◌, Bool, true, false, List, [], length}

-- what an error is about: a text of the source, the end of the source, or a limit that was met
pub data Subject : Type 0 where
  of_text : List ℕ → Subject
  of_end : Subject
  of_limit : Subject

-- a message, what it is about, and the byte of the source where that begins
pub record Diagnostic : Type 0 where
  pub message : List ℕ
  pub subject : Subject
  pub index : ℕ

-- the text that an error is about; an end and a limit have none
abbrev pub subject_text : Subject → List ℕ
subject_text (of_text text) = text
subject_text of_end = []
subject_text of_limit = []

abbrev pub is_end_subject : Subject → Bool
is_end_subject of_end = true
is_end_subject _ = false

abbrev pub is_limit_subject : Subject → Bool
is_limit_subject of_limit = true
is_limit_subject _ = false

-- where the text ends
abbrev pub diagnostic_end : Diagnostic → ℕ
diagnostic_end d = d.index + length (subject_text d.subject)
