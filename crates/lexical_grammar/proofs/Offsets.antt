-- Tokens at the offsets of a text, and the items of a cut at theirs.
use Rattle.std.proofs.Common.{◌≡◌, ℕ, ◌+◌, ◌<◌, List, [], ◌∷◌, ◌++◌, length, take, drop, Option, Some, None, refl, sym}
use Rattle.std.proofs.Common.{ap, ◌∙◌, subst, arith, length-append, length-drop, length-take-le}
use Rattle.std.proofs.lemmas.List.{take-append-drop, take_at, drop_at, drop-drop}
use Rattle.lexical_grammar.proofs.Agree.{bad-some}
use Rattle.lexical_grammar.proofs.Cuts.{tok-some, texts-append, item-before}
use Rattle.lexical_grammar.proofs.Standing.{one_token}
use Rattle.lexical_grammar.specs.Cut.{Stands, Item, IsItem, CutFrom, Cut, texts}
use Rattle.lexical_grammar.specs.TokensAt.{TokenAt, StandsAs, StandsIn}
use Rattle.lexical_grammar.specs.declared.TokenKind.{TokenKind}

-- the bytes from an offset on, in two parts
parts : (source : List ℕ) (offset n : ℕ) → take n (drop offset source) ++ drop (offset + n) source ≡ drop offset source
parts source offset n =
    ap (λ l. take n (drop offset source) ++ l) (sym (drop-drop n offset source))
    ∙ take-append-drop n (drop offset source)

pub at-most-one : (source : List ℕ) (offset m n : ℕ) (kind other : TokenKind) → TokenAt source offset kind m
    → TokenAt source offset other n
    → (kind ≡ other) × (m ≡ n)
at-most-one source offset m n kind other a b =
    let same = one_token kind other _ _ _ _ a.stands b.stands (parts source offset m ∙ sym (parts source offset n)) in
    let left = length-take-le m (drop offset source) (omega (arith, a.within, length-drop offset source)) in
    let right = length-take-le n (drop offset source) (omega (arith, b.within, length-drop offset source)) in
    (same.0, sym left ∙ ap (λ (l : List ℕ). length l) same.1 ∙ right)

-- the text that comes after another
behind : (before text after : List ℕ) → drop (length before) (before ++ (text ++ after)) ≡ text ++ after
behind before text after = drop_at before (text ++ after) _ refl

token-behind : (before text after : List ℕ) (kind : TokenKind) → Stands kind text after
    → TokenAt (before ++ (text ++ after)) (length before) kind (length text)
token-behind before text after kind s =
    let source = before ++ (text ++ after) in
    let front = behind before text after in record {
      within = omega (arith, length-append before (text ++ after), length-append text after);
      stands = subst (λ t. Stands kind t (drop (length before + length text) source))
          (sym (ap (take (length text)) front ∙ take_at text after _ refl))
          (subst (Stands kind text)
          (sym (sym (drop-drop (length text) (length before) source) ∙ ap (drop (length text)) front
          ∙ drop_at text after _ refl)) s);
    }

stands-as : (kind : Option TokenKind) (before text after : List ℕ) → IsItem kind text after
    → StandsAs (before ++ (text ++ after)) (length before) kind text
stands-as (Some kind) before text after item = token-behind before text after kind item
stands-as None before text after item = λ kind n token.
    item.0 kind _ _ (parts (before ++ (text ++ after)) (length before) n ∙ behind before text after) token.stands

pub item-some : (kind : Option TokenKind) (text after : List ℕ) → IsItem kind text after → 0 < length text
item-some None text after item = bad-some text after item.1
item-some (Some kind) text after item = tok-some kind text item.token

-- what a cut says of an item that isn't the last
pub item-in : (offset : ℕ) (before : List Item) (item next : Item) (more : List Item)
    → CutFrom offset (before ++ item ∷ next ∷ more)
    → (item.index ≡ offset + length (texts before)) × IsItem item.kind item.text (texts (next ∷ more))
item-in offset [] item next more cut = (omega (arith, cut.0), cut.1)
item-in offset (first ∷ before) item next more cut =
    let rest = item-before offset first (before ++ item ∷ next ∷ more) cut
    (omega (arith, length-append before (item ∷ next ∷ more))) in
    let there = item-in (offset + length first.text) before item next more rest.2 in
    (omega (arith, there.0, length-append first.text (texts before)), there.1)

pub items-stand : (source : List ℕ) (before : List Item) (item next : Item) (more : List Item)
    → Cut source (before ++ item ∷ next ∷ more)
    → StandsIn source (length (texts before)) item
items-stand source before item next more cut =
    let here = item-in 0 before item next more cut.each in
    let after = texts (next ∷ more) in
    let joined : texts before ++ (item.text ++ after) ≡ source =
    sym (texts-append before (item ∷ next ∷ more)) ∙ cut.joined in
    record {
      index = omega (arith, here.0);
      text = sym (ap (λ s. take (length item.text) (drop (length (texts before)) s)) (sym joined)
          ∙ ap (take (length item.text)) (behind (texts before) item.text after) ∙ take_at item.text after _ refl);
      some = item-some item.kind item.text after here.1;
      stands = subst (λ s. StandsAs s (length (texts before)) item.kind item.text) joined
          (stands-as item.kind (texts before) item.text after here.1);
    }
