-- How long a text gets, token by token.
use Rattle.std.proofs.Common.{◌≡◌, ◌∙◌, ℕ, zero, suc, ◌+◌, ◌*◌, ◌<◌, ◌≤◌, List, ◌∷◌, length, ap, arith, length-append}
use Rattle.std.proofs.Math.Nat.{mul-add}
use Rattle.lexical_grammar.specs.Answers.{Answer, answer_text, answers_text}
use Rattle.lexical_grammar.specs.declared.edge.Edge.{Edge}
use Rattle.lexical_grammar.specs.declared.edge.Edge.TheVariants.{Comment}
use Rattle.format_layout.specs.Laid.{ended_length}

-- for each byte of a token, the token takes no more than there is for it
pub own-room : (indent bytes : ℕ) → 0 < bytes → bytes + indent + 9 ≤ (indent + 10) * bytes
own-room indent zero some = absurd (omega arith)
own-room indent (suc bytes) some = grind arith

-- bytes for those of an answer, and for those of the answers after it
for-both : (each : ℕ) (answer : Answer) (old rest : List Answer) → old ≡ answer ∷ rest
    → each * length (answers_text old) ≡ each * length (answer_text answer) + each * length (answers_text rest)
for-both each answer old rest e =
    ap (λ (answers : List Answer). each * length (answers_text answers)) e
    ∙ ap (λ n. each * n) (length-append (answer_text answer) (answers_text rest))
    ∙ mul-add each (length (answer_text answer)) (length (answers_text rest))

-- nothing is written
pub begun-length : (each before : ℕ) (source : List ℕ) (left : List Answer) → before ≡ 0 → answers_text left ≡ source
    → before + each * length (answers_text left) ≤ each * length source
begun-length each before source left none same = omega (arith, none, ap (λ (text : List ℕ). each * length text) same)

-- an answer is written
pub written-length : (each before after all : ℕ) (answer : Answer) (old rest : List Answer) → old ≡ answer ∷ rest
    → after ≤ before + each * length (answer_text answer)
    → before + each * length (answers_text old) ≤ all → after + each * length (answers_text rest) ≤ all
written-length each before after all answer old rest e short left = omega (arith, for-both each answer old rest e)

-- an answer is passed over
pub left-length : (each before all : ℕ) (answer : Answer) (old rest : List Answer) → old ≡ answer ∷ rest
    → before + each * length (answers_text old) ≤ all → before + each * length (answers_text rest) ≤ all
left-length each before all answer old rest e left = omega (arith, for-both each answer old rest e)

text-length : (text : List ℕ) (edge : Edge) → length text ≤ ended_length text edge
text-length text Comment = omega arith
text-length text _ = omega arith

-- the last line is ended
pub ended-length : (result text : List ℕ) (edge : Edge) (before left all : ℕ) → result ≡ text
    → ended_length text edge ≤ before + 1 → before + left ≤ all
    → length result ≤ all + 1
ended-length result text edge before left all same short fits =
    omega (arith, ap (λ (l : List ℕ). length l) same, text-length text edge)
