-- No two kinds have the same number. And checks of the lists of kinds.
use Rattle.std.proofs.Common.{◌≡◌, ℕ, ◌++◌, get_or, map, refl, sym, ap, ◌∙◌}
use Rattle.std.specs.List.{filter}
use Rattle.std.specs.Prelude.{Bool, false, not, ◌||◌, ◌&&◌}
use Rattle.document_grammar.proofs.generated.KindLists.{all_kinds, leaf_kinds, node_kinds}
use Rattle.document_grammar.specs.Choices.{Selections}
use Rattle.document_grammar.specs.Derivation.{HasConstantDirectives}
use Rattle.document_grammar.specs.Kinds.{DIRECTIVES, SELECTION_SET}
use Rattle.document_grammar.specs.Numbers.{number}
use Rattle.document_grammar.specs.Pattern.{Pattern, any_of, nothing, ◌then◌, ◌or_else◌, many, member}
use Rattle.document_grammar.specs.Rows.{children}
use Rattle.document_grammar.specs.declared.kind.SyntaxKind.{SyntaxKind}
use Rattle.document_grammar.specs.declared.kind.SyntaxKind.TheVariants as kind

-- The kind that has the number.
kind_of : ℕ → SyntaxKind
kind_of n = get_or all_kinds n kind.ERROR

kind_of-number : (k : SyntaxKind) → kind_of (number k) ≡ k
unfolding kind_of all_kinds
kind_of-number kind.WHITESPACE = refl
kind_of-number _ = refl

pub one-kind : (k l : SyntaxKind) → number k ≡ number l → k ≡ l
one-kind k l e = sym (kind_of-number k) ∙ ap kind_of e ∙ kind_of-number l

-- Checks of the definitions against each other, which no proof uses. `Numbering` and `Kinds` give each kind the same
-- number.
numbers-named : map number all_kinds ≡ leaf_kinds ++ node_kinds
unfolding all_kinds
numbers-named = refl

-- The rows are those of the nodes, in that order.
rows-named : map (λ (row : _). row.0) children ≡ node_kinds
rows-named = refl

-- `HasConstantDirectives` lists, of the kinds whose rows have DIRECTIVES, those that neither are selections nor have a
-- selection set.
abbrev mentions : ℕ → Pattern → Bool
mentions k (any_of ks) = member k ks
mentions k nothing = false
mentions k (p then q) = mentions k p || mentions k q
mentions k (p or_else q) = mentions k p || mentions k q
mentions k (many p) = mentions k p

abbrev has_constant_directives : ℕ × Pattern → Bool
has_constant_directives row = mentions DIRECTIVES row.1 && not (member row.0 Selections || mentions SELECTION_SET row.1)

constant-directives-listed : map (λ (row : _). row.0) (filter has_constant_directives children) ≡ HasConstantDirectives
unfolding member
constant-directives-listed = refl
