-- What follows from a parse with errors, and from one without.
use Rattle.std.proofs.Common.{◌≡◌, ◌≢◌, ℕ, ◌+◌, ◌*◌, ◌<◌, ◌≤◌, min, List, [], length, sym, ap, ◌∙◌, subst, arith}
use Rattle.std.proofs.Math.Nat.{min-le_left, mul-le-mul_right}
use Rattle.std.specs.Prelude.{Result, Ok, Err, IfErr}
use Rattle.lexical_grammar.specs.Answers.{usize_max}
use Rattle.lexical_grammar.specs.Cut.{Cut}
use Rattle.lexical_grammar.specs.Reads.{items_of}
use Rattle.document_grammar.proofs.Texts.{one-cut}
use Rattle.document_grammar.specs.Derivation.{nest}
use Rattle.document_grammar.specs.Numbered.{tree_of}
use Rattle.document_grammar.specs.Placed.{bare}
use Rattle.document_grammar.specs.Sentence.{tokens_of}
use Rattle.apollo_lexer.specs.Diagnostics.{Diagnostic}
use Rattle.apollo_parser.specs.Parsed.{Parsed}
use Rattle.apollo_parser.specs.Promise.{Promise}
use Rattle.format_layout.proofs.Unsigned.{unsigned-nest}
use Rattle.format_layout.specs.Formatted.{IsSentence, Formatted}
use Rattle.format_layout.specs.Lengths.{longest_layout}
use Rattle.formatter.specs.Formatted.{IsDocument, IsFormatted, IsRefused, MayExceed}

pub refused : (source : List ℕ) (r k : ℕ) (t : Parsed) (errors : List Diagnostic) → errors ≡ t.errors → errors ≢ []
    → Promise source r k t
    → IsRefused source r k errors
refused source r k t errors e some p = record {
  no_document = λ d. some (e ∙ p.accepts d.tree d.sentence d.within);
  parsed = t;
  promise = p;
  errors_of = e;
  some = some;
}

pub sentence-of : (source : List ℕ) (r k : ℕ) → k ≤ usize_max → IsDocument source r k → IsSentence source
sentence-of source r k le d = record { tree = d.tree; sentence = d.sentence; within = (r, k, le, d.within) }

pub is-document : (source : List ℕ) (r k : ℕ) (t : Parsed) → t.errors ≡ [] → Promise source r k t
    → IsDocument source r k
is-document source r k t clean p =
    record { tree = bare (tree_of t.tree); sentence = (p.sound clean).0; within = (p.sound clean).1 }

-- the only derivation nests as deep as the parse says
pub one-nesting : (source : List ℕ) (r k : ℕ) (t : Parsed) (high : ℕ) → t.errors ≡ [] → high ≡ t.recursion_limit.high
    → Promise source r k t
    → (d : IsDocument source r k) → nest d.tree ≡ high
one-nesting source r k t high clean e p d =
    let s = d.sentence in
    let only = p.only_derivation clean in
    let cut = one-cut source s.items (items_of source) s.cut p.cut s.tokens in
    ap nest (only.0 d.tree (s.derivation, s.yield ∙ ap tokens_of cut)) ∙ sym only.1 ∙ sym e

-- that is how long a formatted text can be
pub no-longer : (source text : List ℕ) (r k nesting : ℕ) → ((d : IsDocument source r k) → nest d.tree ≡ nesting)
    → length text ≤ longest_layout nesting (length source) → (d : IsDocument source r k)
    → length text ≤ longest_layout (nest d.tree) (length source)
no-longer source text r k nesting same short d =
    subst (λ n. length text ≤ longest_layout n (length source)) (sym (same d)) short

-- where nodes nest at most 10 deep, a byte takes at most 62
longest-at-ten : (nesting bytes : ℕ) → nesting ≤ 10 → longest_layout nesting bytes ≤ 62 * bytes + 1
longest-at-ten nesting bytes deep =
    let indent = min-le_left (2 * (nesting + 16)) 65535 in
    let lines : (min (2 * (nesting + 16)) 65535 + 10) * bytes ≤ 62 * bytes =
    mul-le-mul_right bytes (omega (arith, indent)) in
    omega arith

pub small-fit : (source : List ℕ) (r k : ℕ) → (long : MayExceed source r k 67108864) → nest long.document.tree ≤ 10
    → 1082401 < length source
small-fit source r k long deep =
    omega (arith, long.longer, longest-at-ten (nest long.document.tree) (length source) deep)

-- something that holds, of whatever error there is
pub whatever-error : {T E P : Type 0} (r : Result T E) (x : E) → P → IfErr r (λ e. e ≡ x → P)
whatever-error (Ok value) x p = tt
whatever-error (Err e) x p = λ same. p

pub formatted-by : (source text : List ℕ) (r k : ℕ) → IsDocument source r k → Formatted source text
    → IsFormatted source r k text
formatted-by source text r k d f = record { document = d; formatted = f }

-- a formatted text nests as deep as its source
pub formatted-within : (source text : List ℕ) (r k : ℕ) → Cut text (items_of text) → length (items_of text) ≤ k
    → IsFormatted source r k text
    → IsDocument text r k
formatted-within source text r k cut few f =
    let again = f.formatted.layout f.document.tree f.document.sentence in
    record {
      tree = again.tree;
      sentence = again.sentence;
      within = record {
        nesting = omega (arith, unsigned-nest f.document.tree again.tree again.alike, f.document.within.nesting);
        items = items_of text;
        cut = cut;
        count = few;
      };
    }
