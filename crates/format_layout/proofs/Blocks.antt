-- A string that begins with three quotes is a block string.
use Rattle.std.proofs.Common.{◌≡◌, ℕ, inl, inr, true, false, List, [], ◌∷◌, ◌++◌, refl, sym, ap, ◌∙◌, true≢false, eqb}
use Rattle.std.proofs.Math.Logic.{∥∥₁_elim}
use Rattle.std.proofs.Props.{props}
use Rattle.std.specs.Prelude.{slice_index}
use Rattle.lexical_grammar.proofs.StringReads.{character-reads}
use Rattle.lexical_grammar.proofs.StringSound.{begins-is}
use Rattle.lexical_grammar.specs.Strings.{StringCharacters, none, one_more, Quoted, begins, triple_quote}
use Rattle.lexical_grammar.specs.Values.{Block}
use Rattle.apollo_cst_core.specs.StringValues.{IsStringValue}
use Rattle.format_layout.specs.Respelled.{SameBlock}

-- no character of a quoted string begins with a quote
no-quote : (inside value : List ℕ) → StringCharacters inside value → (c : ℕ) (rest : List ℕ)
    → inside ≡ c ∷ rest → eqb c 34 ≡ false
no-quote _ _ none c rest e = absurd (cc)
no-quote _ _ (one_more {text} {value} {texts} {values} s ss) c rest e =
    let r = character-reads text value texts s in
    let same : r.first ≡ c = ap (λ (l : List ℕ). slice_index l 0) (sym (ap (λ (l : List ℕ). l ++ texts) r.some) ∙ e) in
    ap (λ (b : ℕ). eqb b 34) (sym same) ∙ r.no_quote

not-quoted : (text value : List ℕ) → begins triple_quote text ≡ true → Quoted text value → ⊥
not-quoted text value h q = go q.inside q.spelled q.characters
  where
    go : (inside : List ℕ) → text ≡ 34 ∷ inside ++ 34 ∷ [] → StringCharacters inside value → ⊥
    go [] e s = true≢false (sym h ∙ ap (begins triple_quote) e)
    go (c ∷ rest) e s =
        let quote : c ≡ 34 = ap (λ (l : List ℕ). slice_index l 1) (sym e ∙ begins-is triple_quote text h) in
        true≢false (sym (ap (λ (b : ℕ). eqb b 34) quote) ∙ no-quote (c ∷ rest) value s c rest refl)

block-value : (text value : List ℕ) → begins triple_quote text ≡ true → IsStringValue text value → ∥ Block text value ∥₁
block-value text value h s =
    ∥∥₁_elim s (hlevel props) (λ q. elim q [ inl a ↦ absurd (not-quoted text value h a) | inr b ↦ ∣ b ∣₁ ])

-- two of them with one value
pub same-block : (text other value : List ℕ) → begins triple_quote text ≡ true → begins triple_quote other ≡ true
    → IsStringValue text value
    → IsStringValue other value → SameBlock text other
same-block text other value h g a b =
    record { value = value; first = block-value text value h a; second = block-value other value g b }
