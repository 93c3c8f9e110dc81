-- A kind that no arm of the match names has no word, by trying each kind.
use Rattle.std.proofs.Common.{rules, ◌≡◌, None, refl}
use Rattle.document_grammar.proofs.kind.SyntaxKind.keyword.Goals as goal
use Rattle.document_grammar.specs.Choices.{keyword_word}
use Rattle.document_grammar.specs.Kinds.{words}
use Rattle.document_grammar.specs.Numbers.{number}
use Rattle.document_grammar.specs.declared.kind.SyntaxKind.{SyntaxKind}
use Rattle.document_grammar.specs.declared.kind.SyntaxKind.TheVariants as kind

pub returns-in_default : goal.returns-in_default
unfolding keyword_word words
returns-in_default c = no-word c.args.self refl
  where
    no-word : (k : SyntaxKind) → c.args.self ≡ k → keyword_word (number k) ≡ None
    no-word kind.WHITESPACE e = refl
    no-word _ e = search rules
