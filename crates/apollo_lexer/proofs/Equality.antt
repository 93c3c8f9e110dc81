-- Equal errors are the same.
use Rattle.std.proofs.Common.{◌≡◌, true, arith, refl, ap, subst, eqb-true, eq-eqb}
use Rattle.std.proofs.lemmas.Bool.{and_parts, and_from}
use Rattle.std.specs.Cmp.Lexicographic.{bytes_decides}
use Rattle.apollo_lexer.specs.Diagnostics.{Subject, of_text, of_end, of_limit, Diagnostic, subject_text}
use Rattle.apollo_lexer.specs.Equal.{subject_number, same_diagnostic}

same-subject : (a b : Subject) → subject_number a ≡ subject_number b → subject_text a ≡ subject_text b → a ≡ b
same-subject (of_text x) (of_text y) n t = ap of_text t
same-subject (of_text x) of_end n t = absurd (omega arith)
same-subject (of_text x) of_limit n t = absurd (omega arith)
same-subject of_end (of_text y) n t = absurd (omega arith)
same-subject of_end of_end n t = refl
same-subject of_end of_limit n t = absurd (omega arith)
same-subject of_limit (of_text y) n t = absurd (omega arith)
same-subject of_limit of_end n t = absurd (omega arith)
same-subject of_limit of_limit n t = refl

same-fields : (a b : Diagnostic) → a.message ≡ b.message → a.subject ≡ b.subject → a.index ≡ b.index → a ≡ b
same-fields a b m s i = λ j. record { message = m j; subject = s j; index = i j }

pub equal-same : (a b : Diagnostic) → same_diagnostic a b ≡ true → a ≡ b
equal-same a b h =
    let m = and_parts _ _ h in
    let n = and_parts _ _ m.1 in
    let t = and_parts _ _ n.1 in
    same-fields a b ((bytes_decides a.message b.message).0 m.0)
    (same-subject a.subject b.subject (eqb-true _ _ n.0)
    ((bytes_decides (subject_text a.subject) (subject_text b.subject)).0 t.0))
    (eqb-true a.index b.index t.1)

itself : (a : Diagnostic) → same_diagnostic a a ≡ true
itself a =
    and_from _ _ ((bytes_decides a.message a.message).1 refl)
    (and_from _ _ (eq-eqb (subject_number a.subject) (subject_number a.subject) refl)
    (and_from _ _ ((bytes_decides (subject_text a.subject) (subject_text a.subject)).1 refl)
    (eq-eqb a.index a.index refl)))

pub same-equal : (a b : Diagnostic) → a ≡ b → same_diagnostic a b ≡ true
same-equal a b e = subst (λ b. same_diagnostic a b ≡ true) e (itself a)
