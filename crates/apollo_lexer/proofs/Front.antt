-- The item at the front of a text: it has some bytes, and the text may be cut after it.
use Rattle.std.proofs.Common.{◌≡◌, ℕ, ◌<◌, List, [], ◌∷◌, length, take, drop, Some, None, refl, sym, ap, ◌∙◌, subst}
use Rattle.std.proofs.Common.{arith, length-take-le, IsUtf8, IsCharBoundary}
use Rattle.std.proofs.lemmas.List.{take-append-drop}
use Rattle.std.proofs.lemmas.Str.{IsCharBoundary-at_seam, IsCharBoundary-from_take, IsUtf8-from_ascii}
use Rattle.std.proofs.lemmas.Str.Ascii.{IsAscii-cons, IsAscii-nil}
use Rattle.std.specs.Prelude.{slice_index}
use Rattle.lexical_grammar.proofs.NumberStates.{live-is, live-within, live-ascii}
use Rattle.lexical_grammar.proofs.TheCut.{FirstItem, first-is-item}
use Rattle.lexical_grammar.specs.NumberStates.{live_len}
use Rattle.lexical_grammar.specs.Reads.{token_at, bad_len, item_of_token, first_item}
use Rattle.lexical_grammar.specs.declared.NumberState.TheVariants.{Begin}
use Rattle.lexical_grammar.specs.declared.TokenKind.{TokenKind}

pub front : (source : List ℕ) → 0 < length source → IsUtf8 source
    → FirstItem source (first_item source).0 (first_item source).1
front [] some u = absurd (omega arith)
front (b ∷ bs) some u = first-is-item b bs u

pub front-boundary : (source : List ℕ) (n : ℕ) → 0 < length source → IsUtf8 source → n ≡ (first_item source).1
    → IsCharBoundary source n
front-boundary source n some u e =
    let f = front source some u in
    let m = (first_item source).1 in
    subst (IsCharBoundary source) (length-take-le m source f.within ∙ sym e)
    (IsCharBoundary-at_seam source (take m source) (drop m source) (sym (take-append-drop m source)) f.rest)

-- after the beginning of a number
pub number-boundary : (source : List ℕ) (n : ℕ) → IsUtf8 source → n ≡ live_len Begin source → IsCharBoundary source n
number-boundary source n u e =
    let m = live_len Begin source in
    subst (IsCharBoundary source) (sym e)
    (IsCharBoundary-from_take source m u (live-within Begin source) (IsUtf8-from_ascii (take m source)
    (live-ascii Begin (take m source) (live-is Begin source refl))))

-- after an ASCII character
one-boundary : (source : List ℕ) → IsUtf8 source → 0 < length source → slice_index source 0 < 128
    → IsCharBoundary source 1
one-boundary [] u some small = absurd (omega arith)
one-boundary (b ∷ bs) u some small =
    IsCharBoundary-from_take (b ∷ bs) 1 u (omega arith)
    (IsUtf8-from_ascii (b ∷ []) (IsAscii-cons b [] small IsAscii-nil))

pub point-boundary : (source bytes others : List ℕ) (first : ℕ) → bytes ≡ source → bytes ≡ first ∷ others → first ≡ 46
    → IsUtf8 source → IsCharBoundary source 1
point-boundary source bytes others first same is point u =
    subst (λ s. IsUtf8 s → IsCharBoundary s 1) (sym is ∙ same)
    (λ v. one-boundary (first ∷ others) v (omega arith) (omega arith)) u

-- how long the first item is
pub token-len : (source : List ℕ) (kind : TokenKind) (n : ℕ) → token_at source ≡ Some (kind, n)
    → n ≡ (first_item source).1
token-len source kind n e = sym (ap (λ f. (item_of_token source f).1) e)

pub bad-text-len : (source : List ℕ) (n : ℕ) → token_at source ≡ None → n ≡ bad_len source → n ≡ (first_item source).1
bad-text-len source n e is = is ∙ sym (ap (λ f. (item_of_token source f).1) e)
