-- Texts that begin a sentence. Where tokens at the front of a text, and further tokens with the texts that are listed
-- for the leaves, are those of a derivation, the text of the first goes on to a sentence: by a line feed, and then by
-- the further tokens.
use Rattle.std.proofs.Common.{◌≡◌, ◌≢◌, ℕ, zero, suc, ◌<◌, Bool, true, false, cond, eqb, List, [], ◌∷◌, ◌++◌, length}
use Rattle.std.proofs.Common.{map, Option, Some, None, IsUtf8, refl, sym, ap, ap₂, ◌∙◌, subst, inl, inr, eqb-true}
use Rattle.std.proofs.Common.{ltb-true, append_assoc, arith}
use Rattle.std.proofs.Math.Seq.{take-length}
use Rattle.std.proofs.lemmas.Bool.{eqb-false}
use Rattle.std.proofs.lemmas.List.{map-append}
use Rattle.std.proofs.lemmas.Str.{IsUtf8-from_ascii}
use Rattle.lexical_grammar.proofs.Cuts.{goes_on-by-words}
use Rattle.lexical_grammar.proofs.Sound.{sound}
use Rattle.lexical_grammar.proofs.Texts.{words-follow-text}
use Rattle.lexical_grammar.specs.Begins.{IsWord, AreWords, spaced, ends_in_whitespace, feed}
use Rattle.lexical_grammar.specs.Cut.{Item, Word, Cut, texts, is_significant_kind, Significant, are_tokens}
use Rattle.lexical_grammar.specs.Reads.{token_at}
use Rattle.lexical_grammar.specs.Tokens.{Tok}
use Rattle.lexical_grammar.specs.declared.TokenKind.{TokenKind}
use Rattle.lexical_grammar.specs.declared.TokenKind.TheVariants as kind
use Rattle.document_grammar.proofs.Booleans.{false-true, or-c, either}
use Rattle.document_grammar.specs.Booleans.{◌and◌, ◌or◌}
use Rattle.document_grammar.specs.Derivation.{Sort, Spells}
use Rattle.document_grammar.specs.Kinds.{WHITESPACE, ERROR, DOCUMENT}
use Rattle.document_grammar.specs.Sentence.{leaf_number, token_of, Begins}
use Rattle.document_grammar.specs.Tree.{Token, Tree, leaf}
use Rattle.grammar_machine.proofs.Endings.{spell}
use Rattle.grammar_machine.proofs.SentenceTheorems.{reached-begins}
use Rattle.grammar_machine.proofs.Sound.{AllSpelt}
use Rattle.grammar_machine.proofs.TableLemmas.{head-same, tail-same}
use Rattle.grammar_machine.proofs.Worked.{all_ascii, is-ascii}
use Rattle.grammar_machine.proofs.generated.Samples.{spellings}
use Rattle.grammar_machine.specs.Machine.{holds, is_leaf, entries, fires, class, token, Ok, Frame, Reached}
use Rattle.grammar_machine.specs.Table.{firsts}

-- The kind of the token that is listed for a leaf.
kind_of : ℕ → TokenKind
kind_of leaf_symbol = kind_or (token_at (spell leaf_symbol))
  where
    kind_or : Option (TokenKind × ℕ) → TokenKind
    kind_or None = kind.Eof
    kind_or (Some t) = t.0

-- Two leaves have no tokens: WHITESPACE, and ERROR. (COMMENT and COMMA have the numbers of two sorts of names here.)
wordless : ℕ → Bool
wordless leaf_symbol = eqb leaf_symbol WHITESPACE or eqb leaf_symbol ERROR

-- For each leaf a test by computing.
abbrev down : ℕ → List ℕ
down zero = []
down (suc n) = n ∷ down n

at-each : {A : Type 0} (f g : ℕ → A) (m n : ℕ) → n < m → map f (down m) ≡ map g (down m) → f n ≡ g n
at-each f g zero n h e = absurd (omega arith)
at-each f g (suc m) n h e = elim (either (eqb n m)) [
  | inl p ↦ subst (λ k. f k ≡ g k) (sym (eqb-true n m p)) (head-same e)
  | inr p ↦ (let i : n ≢ m = eqb-false n m p in at-each f g m n (omega arith) (tail-same e))
]

-- What is known of a leaf's text: the token that it is, its leaf again, whether it is significant, and whether it is
-- ASCII.
abbrev Facts : Type 0
Facts = Option (TokenKind × ℕ) × ℕ × Bool × Bool

abbrev facts : ℕ → Facts
facts leaf_symbol = (
  token_at (spell leaf_symbol),
  leaf_number (kind_of leaf_symbol),
  is_significant_kind (kind_of leaf_symbol),
  all_ascii (spell leaf_symbol),
)

abbrev wanted : ℕ → Facts
wanted leaf_symbol = cond (wordless leaf_symbol) (None, ERROR, false, true) (
  Some (kind_of leaf_symbol, length (spell leaf_symbol)),
  (token leaf_symbol []).0,
  true,
  true,
)

leaves-checked : map facts (down DOCUMENT) ≡ map wanted (down DOCUMENT)
unfolding spellings holds token kind_of wordless ◌or◌ ◌and◌
leaves-checked = refl

no-word : (leaf_symbol a : ℕ) → wordless leaf_symbol ≡ true → fires leaf_symbol a 0 ≡ false
unfolding fires entries firsts wordless
no-word leaf_symbol a h = elim (or-c _ _ h) [
  | inl p ↦ subst (λ (k : ℕ). fires k a 0 ≡ false) (sym (eqb-true leaf_symbol WHITESPACE p)) refl
  | inr p ↦ subst (λ (k : ℕ). fires k a 0 ≡ false) (sym (eqb-true leaf_symbol ERROR p)) refl
]

-- The word of a leaf.
leaf-word : (leaf_symbol : ℕ) → Ok (leaf leaf_symbol (spell leaf_symbol))
    → (word : Word) × IsWord word × (token_of word ≡ token leaf_symbol (spell leaf_symbol))
unfolding is_leaf token
leaf-word leaf_symbol ok =
    let b : leaf_symbol < DOCUMENT = ltb-true leaf_symbol DOCUMENT ok.0 in
    let some : wordless leaf_symbol ≡ false = elim (either (wordless leaf_symbol)) [
      | inl p ↦ false-true
          (no-word leaf_symbol (class (token leaf_symbol (spell leaf_symbol))) p) ok.1
      | inr p ↦ p
    ] in
    let all : facts leaf_symbol
    ≡ (Some (kind_of leaf_symbol, length (spell leaf_symbol)), (token leaf_symbol []).0, true, true) = rw some at
    (at-each facts wanted DOCUMENT leaf_symbol b leaves-checked) in
    let plain : all_ascii (spell leaf_symbol) ≡ true = ap (λ (p : Facts). p.3) all in
    let number : leaf_number (kind_of leaf_symbol) ≡ (token leaf_symbol []).0 = ap (λ (p : Facts). p.1) all in (
      record { kind = kind_of leaf_symbol; text = spell leaf_symbol },
      record {
        characters = IsUtf8-from_ascii (spell leaf_symbol) (is-ascii (spell leaf_symbol) plain);
        token = subst (λ (x : List ℕ). Tok (kind_of leaf_symbol) x) (take-length (spell leaf_symbol))
            (sound (spell leaf_symbol) (kind_of leaf_symbol) (length (spell leaf_symbol))
            (ap (λ (p : Facts). p.0) all)).stands.token;
        significant = ap (λ (p : Facts). p.2) all;
      },
      ap (λ (n : ℕ). (n, spell leaf_symbol)) number,
    )

listed-words : (tokens : List Token) → AllSpelt tokens
    → (words : List Word) × AreWords words × (map token_of words ≡ tokens)
listed-words [] all_spelt = ([], tt, refl)
listed-words (this_token ∷ tokens) all_spelt =
    let one = leaf-word all_spelt.0.0 all_spelt.0.1 in
    let more = listed-words tokens all_spelt.1 in (
      one.0 ∷ more.0,
      (one.1, more.1),
      ap₂ (λ (x : Token) (others : List Token). x ∷ others) (one.2 ∙ sym all_spelt.0.2) more.2,
    )

pub begins-text : (sort : Sort) (source : List ℕ) (before : List Item) (item : Item) (more : List Item)
    (this_tree : Tree) (these_tokens : List Token)
    → IsUtf8 source
    → Cut source (before ++ item ∷ more) → are_tokens before ≡ true
    → Spells (map token_of (Significant before) ++ these_tokens) this_tree sort → AllSpelt these_tokens
    → Begins sort (texts before)
begins-text sort source before item more this_tree these_tokens u cut h spells spelt =
    let w = listed-words these_tokens spelt in
    let may = goes_on-by-words source before item more w.0 cut h w.1 in
    let utf : IsUtf8 (texts before ++ feed (ends_in_whitespace before) ++ spaced w.0) =
    words-follow-text source before item more w.0 cut w.1 u in
    let e : texts before ++ feed (ends_in_whitespace before) ++ spaced w.0 ≡ texts before
    ++ (feed (ends_in_whitespace before) ++ spaced w.0) =
    append_assoc (texts before) (feed (ends_in_whitespace before)) (spaced w.0) in
    let y : map token_of (Significant (before ++ may.rest)) ≡ map token_of (Significant before) ++ these_tokens =
    ap (λ (l : List Word). map token_of l) may.significant ∙ map-append token_of (Significant before) w.0
    ∙ ap (λ (l : List Token). map token_of (Significant before) ++ l) w.2 in
    record {
      rest = feed (ends_in_whitespace before) ++ spaced w.0;
      tree = this_tree;
      characters = subst IsUtf8 e utf;
      sentence = record {
        items = before ++ may.rest;
        cut = subst (λ (x : List ℕ). Cut x (before ++ may.rest)) e may.cut;
        tokens = may.tokens;
        derivation = spells.0;
        yield = spells.1 ∙ sym y;
      };
    }

-- Wherever the machine comes in the tokens of a text, the text before begins a sentence.
pub reached-begins-text : (sort : Sort) (source : List ℕ) (before : List Item) (item : Item) (more : List Item)
    (rest : List Token) (fs : List Frame)
    → IsUtf8 source → Cut source (before ++ item ∷ more) → are_tokens before ≡ true
    → Reached sort (map token_of (Significant before)) rest fs → Begins sort (texts before)
reached-begins-text sort source before item more rest fs u cut h reached =
    let k = reached-begins sort (map token_of (Significant before)) rest fs reached in
    begins-text sort source before item more k.0 k.1 u cut h k.2 k.3
