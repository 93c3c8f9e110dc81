-- A block string stays one, with the same value.
use Rattle.std.proofs.Common.{◌≡◌, ℕ, Bool, true, false, List, ◌∷◌, ◌++◌, refl, sym, ap, ◌∙◌, inl, inr}
use Rattle.lexical_grammar.specs.Strings.{BlockCharacters, BlockString, begins, closing, escaped, plain, triple_quote}
use Rattle.lexical_grammar.specs.Strings.{escaped_triple_quote}
use Rattle.lexical_grammar.specs.Values.{joined_by_lf, without_blank_ends, dedented, block_string_value}
use Rattle.format_layout.specs.Respelled.{SameBlock}
use Rattle.formatter.proofs.lines.Ends.{turn, ends_cr, byte, turn-plain, begins-same, same-lines}
use Rattle.formatter.specs.LineEnds.{end_bytes}
use Rattle.formatter.specs.declared.line_ends.LineEnd.{LineEnd}
use Rattle.formatter.specs.declared.line_ends.LineEnd.TheVariants.{Lf, Crlf}

end-characters : (end : LineEnd) (text raw : List ℕ) → BlockCharacters text raw
    → BlockCharacters (end_bytes end ++ text) (end_bytes end ++ raw)
end-characters Lf text raw b = plain refl refl b
end-characters Crlf text raw b = plain refl refl (plain refl refl b)

feed-characters : (end : LineEnd) (cr : Bool) (text raw : List ℕ)
    → BlockCharacters (turn end false text) (turn end false raw)
    → BlockCharacters (turn end cr (10 ∷ text)) (turn end cr (10 ∷ raw))
feed-characters end true text raw b = b
feed-characters end false text raw b = end-characters end (turn end false text) (turn end false raw) b

one-more : (end : LineEnd) (cr : Bool) (c : ℕ) (text raw : List ℕ) → begins triple_quote (c ∷ text) ≡ false
    → begins escaped_triple_quote (c ∷ text) ≡ false
    → BlockCharacters (turn end true text) (turn end true raw)
    → BlockCharacters (turn end false text) (turn end false raw)
    → BlockCharacters (turn end cr (c ∷ text)) (turn end cr (c ∷ raw))
one-more end cr c text raw h g behind on = elim (byte c) [
  | inl e ↦ rw e (end-characters end (turn end true text) (turn end true raw) behind)
  | inr (inl e) ↦ rw e (feed-characters end cr text raw on)
  | inr (inr p) ↦
      let same = sym (turn-plain end false c text p) in
      let here = turn-plain end cr c text p in
      let value = turn-plain end cr c raw p in
      rw (here, value) (plain (ap (begins triple_quote) same ∙ begins-same end triple_quote (c ∷ text) refl ∙ h)
      (ap (begins escaped_triple_quote) same ∙ begins-same end escaped_triple_quote (c ∷ text) refl ∙ g) on)
]

characters : (end : LineEnd) (cr : Bool) (text raw : List ℕ) → BlockCharacters text raw
    → BlockCharacters (turn end cr text) (turn end cr raw)
characters end cr _ _ closing = closing
characters end cr _ _ (escaped {text} {raw} b) = escaped (characters end false text raw b)
characters end cr _ _ (plain {c} {text} {raw} h g b) =
    one-more end cr c text raw h g (characters end true text raw b) (characters end false text raw b)

pub turned-block : (end : LineEnd) (text raw : List ℕ) → BlockString text raw
    → BlockString (turn end false text) (turn end false raw)
turned-block end text raw b = record {
  inside = turn end false b.inside;
  spelled = ap (turn end false) b.spelled;
  characters = characters end false b.inside raw b.characters;
}

same-value : (end : LineEnd) (raw : List ℕ) → block_string_value raw ≡ block_string_value (turn end false raw)
same-value end raw = ap (λ lines. joined_by_lf (without_blank_ends (dedented lines))) (sym (same-lines end raw))

pub same-block : (end : LineEnd) (text raw : List ℕ) → BlockString text raw → SameBlock text (turn end false text)
same-block end text raw b = record {
  value = block_string_value raw;
  first = ∣ record { raw = raw; string = b; value_is = refl } ∣₁;
  second = ∣ record { raw = turn end false raw; string = turned-block end text raw b; value_is = same-value end raw }
      ∣₁;
}

-- it ends with quotes
end-inside : (cr : Bool) (text raw : List ℕ) → BlockCharacters text raw → ends_cr cr text ≡ false
end-inside cr _ _ closing = refl
end-inside cr _ _ (escaped {text} {raw} b) = end-inside false text raw b
end-inside cr _ _ (plain {c} {text} {raw} h g b) = end-inside _ text raw b

pub block-end : (text raw : List ℕ) → BlockString text raw → ends_cr false text ≡ false
block-end text raw b = ap (ends_cr false) b.spelled ∙ end-inside false b.inside raw b.characters
