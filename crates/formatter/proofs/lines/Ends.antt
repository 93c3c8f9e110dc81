-- One line end for all, byte by byte.
use Rattle.std.proofs.Common.{◌≡◌, ℕ, suc, ◌<◌, Bool, true, false, cond, ◌⊎◌, ◌&&◌, List, [], ◌∷◌, ◌++◌, length, Option}
use Rattle.std.proofs.Common.{Some, None, refl, sym, ap, ◌∙◌, subst, inl, inr, eqb, eqb-true, arith, append_assoc}
use Rattle.std.proofs.lemmas.Bool.{and_parts, cases_Bool, eq-eqb, not-true, or_from, or_parts}
use Rattle.std.proofs.lemmas.Bool.Decides.{nat_tests}
use Rattle.std.specs.List.{flat_map, list_all}
use Rattle.std.specs.Option.{is_some}
use Rattle.std.specs.Prelude.{not, slice_index}
use Rattle.memchr.specs.Find.{IsFirstByte, is_byte}
use Rattle.lexical_grammar.specs.Characters.{is_comment_character, is_line_terminator}
use Rattle.lexical_grammar.specs.Strings.{begins}
use Rattle.lexical_grammar.specs.Values.{Lines, onto_first}
use Rattle.apollo_cst_core.proofs.LineReads.{some-line}
use Rattle.formatter.specs.LineEnds.{end_bytes, joined_by, with_line_end, HasLineEnd}
use Rattle.formatter.specs.declared.line_ends.LineEnd.{LineEnd}
use Rattle.formatter.specs.declared.line_ends.LineEnd.TheVariants.{Lf, Crlf}

-- the text with this end for each line end, where the byte before it is a CR or not: an LF behind a CR is written with
-- it
abbrev pub turn : LineEnd → Bool → List ℕ → List ℕ
turn end cr [] = []
turn end cr (c ∷ text) =
    cond (eqb c 13) (end_bytes end ++ turn end true text)
    (cond (eqb c 10) (cond cr (turn end false text) (end_bytes end ++ turn end false text)) (c ∷ turn end false text))

-- whether the last byte is a CR
abbrev pub ends_cr : Bool → List ℕ → Bool
ends_cr cr [] = cr
ends_cr cr (c ∷ text) = ends_cr (eqb c 13) text

pub byte : (c : ℕ) → (c ≡ 13) ⊎ ((c ≡ 10) ⊎ (is_line_terminator c ≡ false))
byte c = elim (cases_Bool (eqb c 13)) [
  | inl e ↦ inl (eqb-true c 13 e)
  | inr cr ↦ elim (cases_Bool (eqb c 10))
      [ inl e ↦ inr (inl (eqb-true c 10 e)) | inr lf ↦ inr (inr (or_from _ _ lf cr)) ]
]

pub turn-plain : (end : LineEnd) (cr : Bool) (c : ℕ) (text : List ℕ) → is_line_terminator c ≡ false
    → turn end cr (c ∷ text) ≡ c ∷ turn end false text
turn-plain end cr c text h = let q = or_parts (eqb c 10) (eqb c 13) h in let lf = q.0 in let back = q.1 in
    rw (back, lf) refl

ends-plain : (cr : Bool) (c : ℕ) (text : List ℕ) → is_line_terminator c ≡ false
    → ends_cr cr (c ∷ text) ≡ ends_cr false text
ends-plain cr c text h = let q = or_parts (eqb c 10) (eqb c 13) h in ap (λ b. ends_cr b text) q.1

end-append : (cr : Bool) (end xs ys : List ℕ) → cond cr (xs ++ ys) (end ++ (xs ++ ys)) ≡ cond cr xs (end ++ xs) ++ ys
end-append true end xs ys = refl
end-append false end xs ys = sym (append_assoc end xs ys)

pub turn-append : (end : LineEnd) (cr : Bool) (xs ys : List ℕ)
    → turn end cr (xs ++ ys) ≡ turn end cr xs ++ turn end (ends_cr cr xs) ys
turn-append end cr [] ys = refl
turn-append end cr (c ∷ xs) ys = elim (byte c) [
  | inl e ↦
      rw e (ap (λ l. end_bytes end ++ l) (turn-append end true xs ys)
      ∙ end-append false (end_bytes end) (turn end true xs) (turn end (ends_cr true xs) ys))
  | inr (inl e) ↦
      rw e (ap (λ l. cond cr l (end_bytes end ++ l)) (turn-append end false xs ys)
      ∙ end-append cr (end_bytes end) (turn end false xs) (turn end (ends_cr false xs) ys))
  | inr (inr h) ↦
      turn-plain end cr c (xs ++ ys) h ∙ ap (λ l. c ∷ l) (turn-append end false xs ys)
      ∙ (λ i. sym (turn-plain end cr c xs h) i ++ turn end (sym (ends-plain cr c xs h) i) ys)
]

-- a text without a line end stays
pub unbroken-same : (end : LineEnd) (cr : Bool) (text : List ℕ) → list_all is_comment_character text ≡ true
    → turn end cr text ≡ text
unbroken-same end cr [] h = refl
unbroken-same end cr (c ∷ text) h =
    let q = and_parts (is_comment_character c) (list_all is_comment_character text) h in
    turn-plain end cr c text (not-true _ q.0) ∙ ap (λ l. c ∷ l) (unbroken-same end false text q.1)

pub unbroken-end : (text : List ℕ) → list_all is_comment_character text ≡ true → ends_cr false text ≡ false
unbroken-end [] h = refl
unbroken-end (c ∷ text) h =
    let q = and_parts (is_comment_character c) (list_all is_comment_character text) h in
    ends-plain false c text (not-true _ q.0) ∙ unbroken-end text q.1

-- and so does one whose line ends are LF already
pub feeds-same : (text : List ℕ) → ((k : ℕ) → k < length text → eqb (slice_index text k) 13 ≡ true → ⊥)
    → turn Lf false text ≡ text
feeds-same [] clear = refl
feeds-same (c ∷ text) clear =
    let rest = feeds-same text (λ k lt. clear (suc k) (omega arith)) in
    elim (byte c) [
      | inl e ↦ absurd (clear 0 (omega arith) (eq-eqb c 13 e))
      | inr (inl e) ↦ rw e (ap (λ l. 10 ∷ l) rest)
      | inr (inr h) ↦ turn-plain Lf false c text h ∙ ap (λ l. c ∷ l) rest
    ]

-- what a text begins with, other than a line end, stays
no-cr : (q : ℕ) → is_comment_character q ≡ true → eqb q 13 ≡ false
no-cr q h = grind (arith, nat_tests)

no-lf : (q : ℕ) → is_comment_character q ≡ true → eqb q 10 ≡ false
no-lf q h = grind (arith, nat_tests)

begins-other : (end : LineEnd) (q : ℕ) (front rest : List ℕ) → is_comment_character q ≡ true
    → begins (q ∷ front) (end_bytes end ++ rest) ≡ false
begins-other Lf q front rest h = let lf = no-lf q h in rw lf refl
begins-other Crlf q front rest h = let cr = no-cr q h in rw cr refl

pub begins-same : (end : LineEnd) (front text : List ℕ) → list_all is_comment_character front ≡ true
    → begins front (turn end false text) ≡ begins front text
begins-same end [] text h = refl
begins-same end (q ∷ front) [] h = refl
begins-same end (q ∷ front) (c ∷ text) h =
    let p = and_parts (is_comment_character q) (list_all is_comment_character front) h in
    let cr : eqb q 13 ≡ false = no-cr q p.0 in
    elim (byte c) [
      | inl e ↦ rw e (begins-other end q front (turn end true text) p.0 ∙ rw cr refl)
      | inr (inl e) ↦ rw e (begins-other end q front (turn end false text) p.0 ∙ sym (begins-other Lf q front text p.0))
      | inr (inr plain) ↦ ap (begins (q ∷ front)) (turn-plain end false c text plain)
          ∙ ap (λ b. eqb q c && b) (begins-same end front text p.1)
    ]

-- it is the text whose lines are joined so
quiet : (c : ℕ) (text : List ℕ) → is_line_terminator c ≡ false → Lines (c ∷ text) ≡ onto_first c (Lines text)
quiet c [] h = rw h refl
quiet c (d ∷ text) h = let q = or_parts (eqb c 10) (eqb c 13) h in let lf = q.0 in let cr = q.1 in rw (lf, cr) refl

abbrev pub later_lines : LineEnd → List (List ℕ) → List ℕ
later_lines end lines = flat_map (λ next. end_bytes end ++ next) lines

onto-joined : (end : LineEnd) (c : ℕ) (lines : List (List ℕ)) → (lines ≡ [] → ⊥)
    → joined_by end (onto_first c lines) ≡ c ∷ joined_by end lines
onto-joined end c [] some = absurd (some refl)
onto-joined end c (line ∷ lines) some = refl

end-joined : (end : LineEnd) (lines : List (List ℕ)) → (lines ≡ [] → ⊥)
    → end_bytes end ++ joined_by end lines ≡ joined_by end ([] ∷ lines)
end-joined end [] some = absurd (some refl)
end-joined Lf (line ∷ lines) some = refl
end-joined Crlf (line ∷ lines) some = refl

after-cr : (end : LineEnd) (d : ℕ) (text : List ℕ) → eqb d 10 ≡ false
    → turn end true (d ∷ text) ≡ turn end false (d ∷ text)
after-cr end d text h = rw h refl

cr-alone : (d : ℕ) (text : List ℕ) → eqb d 10 ≡ false → Lines (13 ∷ d ∷ text) ≡ [] ∷ Lines (d ∷ text)
cr-alone d text h = rw h refl

pub turn-is : (end : LineEnd) (text : List ℕ) → turn end false text ≡ with_line_end end text
turn-is end [] = refl
turn-is end (c ∷ []) = elim (byte c) [
  | inl e ↦ rw e (end-joined end ([] ∷ []) (some-line []))
  | inr (inl e) ↦ rw e (end-joined end ([] ∷ []) (some-line []))
  | inr (inr h) ↦ turn-plain end false c [] h ∙ sym (ap (joined_by end) (quiet c [] h))
]
turn-is end (c ∷ d ∷ text) = elim (byte c) [
  | inl e ↦ rw e (elim (cases_Bool (eqb d 10)) [
    | inl f ↦ (let lf = eqb-true d 10 f in
        rw lf (ap (λ l. end_bytes end ++ l) (turn-is end text) ∙ end-joined end (Lines text) (some-line text)))
    | inr f ↦
        ap (λ l. end_bytes end ++ l) (after-cr end d text f ∙ turn-is end (d ∷ text))
        ∙ end-joined end (Lines (d ∷ text)) (some-line (d ∷ text))
        ∙ sym (ap (joined_by end) (cr-alone d text f))
  ])
  | inr (inl e) ↦ rw e (ap (λ l. end_bytes end ++ l) (turn-is end (d ∷ text))
      ∙ end-joined end (Lines (d ∷ text)) (some-line (d ∷ text)))
  | inr (inr h) ↦
      turn-plain end false c (d ∷ text) h ∙ ap (λ l. c ∷ l) (turn-is end (d ∷ text))
      ∙ sym (onto-joined end c (Lines (d ∷ text)) (some-line (d ∷ text)))
      ∙ sym (ap (joined_by end) (quiet c (d ∷ text) h))
]

-- and it has the same lines
end-lines : (end : LineEnd) (text : List ℕ) → Lines (end_bytes end ++ text) ≡ [] ∷ Lines text
end-lines Lf [] = refl
end-lines Lf (c ∷ text) = refl
end-lines Crlf text = refl

pub same-lines : (end : LineEnd) (text : List ℕ) → Lines (turn end false text) ≡ Lines text
same-lines end [] = refl
same-lines end (c ∷ []) = elim (byte c) [
  | inl e ↦ rw e (end-lines end [])
  | inr (inl e) ↦ rw e (end-lines end [])
  | inr (inr h) ↦ ap Lines (turn-plain end false c [] h)
]
same-lines end (c ∷ d ∷ text) = elim (byte c) [
  | inl e ↦ rw e (elim (cases_Bool (eqb d 10)) [
    | inl f ↦ (let lf = eqb-true d 10 f in
        rw lf (end-lines end (turn end false text) ∙ ap (λ l. [] ∷ l) (same-lines end text)))
    | inr f ↦
        end-lines end (turn end true (d ∷ text)) ∙ ap (λ t. [] ∷ Lines t) (after-cr end d text f)
        ∙ ap (λ l. [] ∷ l) (same-lines end (d ∷ text))
        ∙ sym (cr-alone d text f)
  ])
  | inr (inl e) ↦ rw e (end-lines end (turn end false (d ∷ text)) ∙ ap (λ l. [] ∷ l) (same-lines end (d ∷ text)))
  | inr (inr h) ↦
      ap Lines (turn-plain end false c (d ∷ text) h) ∙ quiet c (turn end false (d ∷ text)) h
      ∙ ap (onto_first c) (same-lines end (d ∷ text))
      ∙ sym (quiet c (d ∷ text) h)
]

pub has-line-end : (end : LineEnd) (text : List ℕ) → HasLineEnd end (with_line_end end text)
has-line-end end text = ap (joined_by end) (sym (same-lines end text) ∙ ap Lines (turn-is end text))

-- a text without a CR, as the code looks for one
clear-feeds : (text : List ℕ) (r : Option ℕ) → IsFirstByte (is_byte 13) text r → is_some r ≡ false → HasLineEnd Lf text
clear-feeds text (Some i) f none = absurd (cc)
clear-feeds text None f none = sym (feeds-same text (λ k lt. f k (omega arith) lt)) ∙ turn-is Lf text

pub no-cr-feeds : (text bytes : List ℕ) (r : Option ℕ) (none : Bool) → bytes ≡ text → IsFirstByte (is_byte 13) bytes r
    → is_some r ≡ not none → none ≡ true
    → HasLineEnd Lf text
no-cr-feeds text bytes r none e f some is =
    clear-feeds text r (subst (λ b. IsFirstByte (is_byte 13) b r) e f) (some ∙ ap not is)
