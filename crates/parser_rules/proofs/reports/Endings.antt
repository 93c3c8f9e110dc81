-- The answers of a limited reader of a cut end.
use Rattle.std.proofs.Common.{◌≡◌, ℕ, zero, suc, ◌+◌, Bool, false, List, [], ◌∷◌, Option, Some, None, length, refl, sym}
use Rattle.std.proofs.Common.{subst}
use Rattle.lexical_grammar.proofs.Limited.{limited-end}
use Rattle.lexical_grammar.specs.Answers.{gives, limited}
use Rattle.lexical_grammar.specs.Cut.{Item, IsItem, CutFrom, texts}
use Rattle.lexical_grammar.specs.declared.TokenKind.{TokenKind}
use Rattle.lexical_grammar.specs.declared.TokenKind.TheVariants as token
use Rattle.parser_rules.proofs.reports.NoReport.{EndsWell, choose, ends}

no-end : (found : Option TokenKind) (text after : List ℕ) → IsItem found text after → ends found ≡ false
no-end None text after is_item = refl
no-end (Some token.Eof) text after is_item = absurd is_item.token
no-end (Some _) text after is_item = refl

pub ends-well : (max_items offset : ℕ) (items : List Item) → CutFrom offset items → EndsWell (limited max_items items)
ends-well max_items offset [] cut_from = absurd cut_from
ends-well zero offset (item ∷ []) cut_from = refl
ends-well (suc k) offset (item ∷ []) cut_from =
    subst (λ (i : Item). EndsWell (gives i ∷ limited k [])) (sym cut_from) (limited-end k)
ends-well zero offset (item ∷ next ∷ items) cut_from = refl
ends-well (suc k) offset (item ∷ next ∷ items) cut_from =
    subst (λ (b : Bool). choose b (limited k (next ∷ items) ≡ []) (EndsWell (limited k (next ∷ items))))
    (sym (no-end item.kind item.text (texts (next ∷ items)) cut_from.1))
    (ends-well k (offset + length item.text) (next ∷ items) cut_from.2)
