-- White space stays white space.
use Rattle.std.proofs.Common.{◌≡◌, ℕ, ◌<◌, Bool, true, false, List, [], ◌∷◌, ◌++◌, length, refl, ap, ◌∙◌, arith}
use Rattle.std.proofs.lemmas.Bool.{and_parts}
use Rattle.std.specs.List.{list_all}
use Rattle.std.specs.Prelude.{encode_utf8_all}
use lib.Utf8.{encode}
use Rattle.lexical_grammar.proofs.Runs.{blank-each}
use Rattle.lexical_grammar.specs.Characters.{is_blank}
use Rattle.lexical_grammar.specs.Tokens.{IsBlanks}
use Rattle.formatter.proofs.lines.Ends.{turn}
use Rattle.formatter.specs.LineEnds.{end_bytes}
use Rattle.formatter.specs.declared.line_ends.LineEnd.{LineEnd}
use Rattle.formatter.specs.declared.line_ends.LineEnd.TheVariants.{Lf, Crlf}

end-blank : (end : LineEnd) (cs : List ℕ) → list_all is_blank cs ≡ true → list_all is_blank (end_bytes end ++ cs) ≡ true
end-blank Lf cs h = h
end-blank Crlf cs h = h

feed-blank : (end : LineEnd) (cr : Bool) (cs : List ℕ) → list_all is_blank (turn end false cs) ≡ true
    → list_all is_blank (turn end cr (10 ∷ cs)) ≡ true
feed-blank end true cs h = h
feed-blank end false cs h = end-blank end (turn end false cs) h

all-blank : (end : LineEnd) (cr : Bool) (cs : List ℕ) → list_all is_blank cs ≡ true
    → list_all is_blank (turn end cr cs) ≡ true
all-blank end cr [] h = refl
all-blank end cr (c ∷ cs) h =
    let q = and_parts (is_blank c) (list_all is_blank cs) h in
    let on = all-blank end false cs q.1 in
    blank-each (λ c. list_all is_blank (turn end cr (c ∷ cs)) ≡ true) on on (feed-blank end cr cs on)
    (end-blank end (turn end true cs) (all-blank end true cs q.1)) on c q.0

end-spelled : (end : LineEnd) (cs text : List ℕ) → encode_utf8_all cs ≡ text
    → encode_utf8_all (end_bytes end ++ cs) ≡ end_bytes end ++ text
unfolding encode
end-spelled Lf cs text h = ap (λ l. 10 ∷ l) h
end-spelled Crlf cs text h = ap (λ l. 13 ∷ 10 ∷ l) h

feed-spelled : (end : LineEnd) (cr : Bool) (cs text : List ℕ)
    → encode_utf8_all (turn end false cs) ≡ turn end false text
    → encode_utf8_all (turn end cr (10 ∷ cs)) ≡ turn end cr (10 ∷ text)
feed-spelled end true cs text h = h
feed-spelled end false cs text h = end-spelled end (turn end false cs) (turn end false text) h

spelled-so : (end : LineEnd) (cr : Bool) (cs : List ℕ) → list_all is_blank cs ≡ true
    → encode_utf8_all (turn end cr cs) ≡ turn end cr (encode_utf8_all cs)
unfolding encode
spelled-so end cr [] h = refl
spelled-so end cr (c ∷ cs) h =
    let q = and_parts (is_blank c) (list_all is_blank cs) h in
    let on = spelled-so end false cs q.1 in
    blank-each (λ c. encode_utf8_all (turn end cr (c ∷ cs)) ≡ turn end cr (encode_utf8_all (c ∷ cs)))
    (ap (λ l. 9 ∷ l) on) (ap (λ l. 32 ∷ l) on)
    (feed-spelled end cr cs (encode_utf8_all cs) on)
    (end-spelled end (turn end true cs) (turn end true (encode_utf8_all cs)) (spelled-so end true cs q.1))
    (ap (λ l. 239 ∷ 187 ∷ 191 ∷ l) on) c q.0

end-some : (end : LineEnd) (cs : List ℕ) → 0 < length (end_bytes end ++ cs)
end-some Lf cs = omega arith
end-some Crlf cs = omega arith

some-left : (end : LineEnd) (cs : List ℕ) → 0 < length cs → list_all is_blank cs ≡ true → 0 < length (turn end false cs)
some-left end [] some h = absurd (omega arith)
some-left end (c ∷ cs) some h =
    let q = and_parts (is_blank c) (list_all is_blank cs) h in
    blank-each (λ c. 0 < length (turn end false (c ∷ cs))) (omega arith) (omega arith)
    (end-some end (turn end false cs)) (end-some end (turn end true cs))
    (omega arith) c q.0

pub blanks : (end : LineEnd) (text : List ℕ) → IsBlanks text → IsBlanks (turn end false text)
blanks end text b = record {
  characters = turn end false b.characters;
  some = some-left end b.characters b.some b.blank;
  blank = all-blank end false b.characters b.blank;
  spelled = spelled-so end false b.characters b.blank ∙ ap (turn end false) b.spelled;
}
