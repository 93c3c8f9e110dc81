-- Answers that were not read may become leaves as well: leaves of the first answers go on to leaves of all.
use Rattle.std.proofs.Common.{◌≡◌, ℕ, List, [], ◌∷◌, ◌++◌, Option, Some, None, refl, inl}
use Rattle.lexical_grammar.specs.Answers.{Answer, gives, limit_at}
use Rattle.lexical_grammar.specs.Cut.{Item}
use Rattle.lexical_grammar.specs.declared.TokenKind.{TokenKind}
use Rattle.document_grammar.specs.Leaves.{Leaf, IsLeafOf, IsLeafOfToken, OneLeafAnItem, nothing, one, the_end}
use Rattle.document_grammar.specs.Leaves.{the_limit, ignored}
use Rattle.document_grammar.specs.declared.kind.SyntaxKind.{SyntaxKind}
use Rattle.document_grammar.specs.declared.kind.SyntaxKind.TheVariants as kind

-- a leaf that an item may become
token-leaf : (token_kind : TokenKind) (text : List ℕ) (own : Option SyntaxKind)
    → (leaf : Leaf) × (leaf.text ≡ text) × IsLeafOfToken token_kind own leaf
token-leaf token_kind text (Some own) = (record { kind = own; text = text }, refl, refl)
token-leaf token_kind text None = (record { kind = kind.ERROR; text = text }, refl, inl refl)

item-leaf : (item : Item) (found : Option TokenKind) → (leaf : Leaf) × (leaf.text ≡ item.text) × IsLeafOf found leaf
item-leaf item None = (record { kind = kind.ERROR; text = item.text }, refl, refl)
item-leaf item (Some k) = token-leaf k item.text (ignored k)

some-leaves : (xs : List Answer) → (ls : List Leaf) × OneLeafAnItem xs ls
some-leaves [] = ([], nothing)
some-leaves (limit_at index ∷ xs) = let m = some-leaves xs in (m.0, the_limit m.1)
some-leaves (gives item ∷ xs) = let l = item-leaf item item.kind in let m = some-leaves xs in
    (l.0 ∷ m.0, one l.1 l.2 m.1)

leaves-append : {xs ys : List Answer} {ls ms : List Leaf} → OneLeafAnItem xs ls → OneLeafAnItem ys ms
    → OneLeafAnItem (xs ++ ys) (ls ++ ms)
leaves-append nothing one_leaf_an_item = one_leaf_an_item
leaves-append (one e is_leaf_of one_leaf_an_item) second_one_leaf_an_item =
    one e is_leaf_of (leaves-append one_leaf_an_item second_one_leaf_an_item)
leaves-append (the_end e one_leaf_an_item) second_one_leaf_an_item =
    the_end e (leaves-append one_leaf_an_item second_one_leaf_an_item)
leaves-append (the_limit one_leaf_an_item) second_one_leaf_an_item =
    the_limit (leaves-append one_leaf_an_item second_one_leaf_an_item)

pub leaves-go-on : (front back : List Answer) (ls : List Leaf) → OneLeafAnItem front ls
    → (more : List Leaf) × OneLeafAnItem (front ++ back) (ls ++ more)
leaves-go-on front back ls one_leaf_an_item = let m = some-leaves back in (m.0, leaves-append one_leaf_an_item m.1)
