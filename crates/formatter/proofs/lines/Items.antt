-- The cut of a text with another line end.
use Rattle.std.proofs.Common.{◌≡◌, ℕ, ◌+◌, true, false, List, [], ◌∷◌, ◌++◌, length, Option, Some, None, suc, refl, sym}
use Rattle.std.proofs.Common.{ap, ◌∙◌, subst, append-nil}
use Rattle.std.proofs.lemmas.Bool.{and_parts}
use Rattle.std.specs.Prelude.{◌&&◌, is_some}
use Rattle.std.specs.Str.{IsUtf8}
use Rattle.lexical_grammar.proofs.TheCut.{is-cut}
use Rattle.lexical_grammar.specs.Cut.{Item, Word, Cut, CutFrom, IsItem, are_tokens, texts}
use Rattle.lexical_grammar.specs.Kept.{Holds, Kept, kept_item}
use Rattle.lexical_grammar.specs.Reads.{items_of}
use Rattle.lexical_grammar.specs.declared.TokenKind.{TokenKind}
use Rattle.document_grammar.proofs.Texts.{one-cut}
use Rattle.format_layout.proofs.Respelling.{both-same}
use Rattle.format_layout.specs.Respelled.{AreSameWords}
use Rattle.formatter.proofs.lines.Ends.{turn, turn-is}
use Rattle.formatter.proofs.lines.Turning.{turned, turned-stands, turned-before}
use Rattle.formatter.specs.LineEnds.{with_line_end}
use Rattle.formatter.specs.declared.line_ends.LineEnd.{LineEnd}

-- the items with this line end, from an offset on
abbrev pub turned_items : LineEnd → ℕ → List Item → List Item
turned_items end offset [] = []
turned_items end offset (item ∷ items) =
    record { kind = item.kind; text = turn end false item.text; index = offset }
    ∷ turned_items end (offset + length (turn end false item.text)) items

item-before : (end : LineEnd) (kind : Option TokenKind) (text after : List ℕ) → is_some kind ≡ true
    → IsItem kind text after
    → turn end false (text ++ after) ≡ turn end false text ++ turn end false after
item-before end None text after h s = absurd (cc)
item-before end (Some kind) text after h s = turned-before end kind text after s

item-stands : (end : LineEnd) (kind : Option TokenKind) (text after : List ℕ) → is_some kind ≡ true
    → IsItem kind text after
    → IsItem kind (turn end false text) (turn end false after)
item-stands end None text after h s = absurd (cc)
item-stands end (Some kind) text after h s = turned-stands end kind text after s

item-same : (end : LineEnd) (kind : Option TokenKind) (text after : List ℕ) → is_some kind ≡ true
    → IsItem kind text after
    → AreSameWords (kept_item kind text) (kept_item kind (turn end false text))
item-same end None text after h s = absurd (cc)
item-same end (Some kind) text after h s = (turned end kind text s.token).same

texts-so : (end : LineEnd) (at offset : ℕ) (items : List Item) → CutFrom at items → are_tokens items ≡ true
    → texts (turned_items end offset items) ≡ turn end false (texts items)
texts-so end at offset [] c h = elim c [ ]
texts-so end at offset (item ∷ []) c h =
    append-nil (turn end false item.text) ∙ ap (turn end false) (sym (append-nil item.text))
texts-so end at offset (item ∷ next ∷ items) c h =
    let q = and_parts (is_some item.kind) (are_tokens (next ∷ items)) h in
    ap (λ l. turn end false item.text ++ l) (texts-so end (at + length item.text) _ (next ∷ items) c.2 q.1)
    ∙ sym (item-before end item.kind item.text (texts (next ∷ items)) q.0 c.1)

cut-so : (end : LineEnd) (at offset : ℕ) (items : List Item) → CutFrom at items → are_tokens items ≡ true
    → CutFrom offset (turned_items end offset items)
cut-so end at offset [] c h = elim c [ ]
cut-so end at offset (item ∷ []) c h =
    ap (λ (i : Item). record { kind = i.kind; text = turn end false i.text; index = offset }) c
cut-so end at offset (item ∷ next ∷ items) c h =
    let q = and_parts (is_some item.kind) (are_tokens (next ∷ items)) h in
    let to = offset + length (turn end false item.text) in (
      refl,
      subst (IsItem item.kind (turn end false item.text))
          (sym (texts-so end (at + length item.text) to (next ∷ items) c.2 q.1))
          (item-stands end item.kind item.text (texts (next ∷ items)) q.0 c.1),
      cut-so end (at + length item.text) to (next ∷ items) c.2 q.1,
    )

pub turned-cut : (end : LineEnd) (text : List ℕ) (items : List Item) → Cut text items → are_tokens items ≡ true
    → Cut (turn end false text) (turned_items end 0 items)
turned-cut end text items cut h =
    record {
      joined = texts-so end 0 0 items cut.each h
          ∙ ap (turn end false) cut.joined;
      each = cut-so end 0 0 items cut.each h;
    }

pub turned-tokens : (end : LineEnd) (offset : ℕ) (items : List Item)
    → are_tokens (turned_items end offset items) ≡ are_tokens items
turned-tokens end offset [] = refl
turned-tokens end offset (item ∷ items) =
    ap (λ b. is_some item.kind && b) (turned-tokens end (offset + length (turn end false item.text)) items)

pub turned-same : (end : LineEnd) (at offset : ℕ) (items : List Item) → CutFrom at items → are_tokens items ≡ true
    → AreSameWords (Kept items) (Kept (turned_items end offset items))
turned-same end at offset [] c h = elim c [ ]
turned-same end at offset (item ∷ []) c h =
    subst (λ (i : Item). AreSameWords (Kept (i ∷ [])) (Kept (turned_items end offset (i ∷ [])))) (sym c) tt
turned-same end at offset (item ∷ next ∷ items) c h =
    let q = and_parts (is_some item.kind) (are_tokens (next ∷ items)) h in
    let to = offset + length (turn end false item.text) in
    both-same (kept_item item.kind item.text) (kept_item item.kind (turn end false item.text)) (Kept (next ∷ items))
    (Kept (turned_items end to (next ∷ items)))
    (item-same end item.kind item.text (texts (next ∷ items)) q.0 c.1)
    (turned-same end (at + length item.text) to (next ∷ items) c.2 q.1)

turned-length : (end : LineEnd) (offset : ℕ) (items : List Item) → length (turned_items end offset items) ≡ length items
turned-length end offset [] = refl
turned-length end offset (item ∷ items) = ap suc (turned-length end (offset + length (turn end false item.text)) items)

-- a text without bad text has as many items with another line end
pub same-count : (end : LineEnd) (text other : List ℕ) (words : List Word) → IsUtf8 text → IsUtf8 other
    → other ≡ with_line_end end text → Holds text words
    → length (items_of other) ≡ length (items_of text)
same-count end text other words u v e h =
    let own = one-cut text h.items (items_of text) h.cut (is-cut text u) h.tokens in
    let cut = subst (λ t. Cut t (turned_items end 0 h.items)) (turn-is end text ∙ sym e)
    (turned-cut end text h.items h.cut h.tokens) in
    let tokens : are_tokens (turned_items end 0 h.items) ≡ true = turned-tokens end 0 h.items ∙ h.tokens in
    let others = one-cut other (turned_items end 0 h.items) (items_of other) cut (is-cut other v) tokens in
    sym (ap (λ (l : List Item). length l) others) ∙ turned-length end 0 h.items ∙ ap (λ (l : List Item). length l) own
