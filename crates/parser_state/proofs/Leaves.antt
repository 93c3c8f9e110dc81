-- The current token may be the one leaf of a name or a literal.
use Rattle.std.proofs.Common.{◌≡◌, true, Option, Some, None, refl, sym, subst, inl, inr, rules}
use Rattle.std.specs.Prelude.{codes}
use denote.Enum.Bare.{same_true}
use Rattle.lexical_grammar.specs.Answers.{IsTokenText}
use Rattle.lexical_grammar.specs.contracts.TokenKind.{the_type}
use Rattle.lexical_grammar.specs.declared.TokenKind.{TokenKind}
use Rattle.lexical_grammar.specs.declared.TokenKind.TheVariants as token
use Rattle.document_grammar.specs.Choices.{keyword_word}
use Rattle.document_grammar.specs.Forests.{none, leaf}
use Rattle.document_grammar.specs.Kinds.{words}
use Rattle.document_grammar.specs.declared.kind.SyntaxKind.{SyntaxKind}
use Rattle.document_grammar.specs.declared.kind.SyntaxKind.TheVariants as kind
use Rattle.parser_rules.specs.State.{Text, Lexeme, IsNow, same_kind, is_at}
use Rattle.apollo_tree.specs.Sound.{Fits}
use Rattle.parser_state.proofs.Keywords.{word_is}
use Rattle.parser_state.specs.Reading.{is_leaf_of}

kind-is : (a b : TokenKind) → true ≡ same_kind a b → a ≡ b
unfolding same_kind
kind-is a b e = same_true the_type (search rules) a b (sym e)

-- the text of a token of a known kind
text-is : (k : TokenKind) (x : Lexeme) → IsNow (Some x) → true ≡ is_at k (Some x) → IsTokenText k x.text
text-is k x n e = subst (λ j. IsTokenText j x.text) (kind-is x.kind k e) n

-- the text of the current token is the one leaf of such a node
abbrev pub FitsNow : SyntaxKind → SyntaxKind → Option Lexeme → Type 0
FitsNow node l None = ⊥
FitsNow node l (Some x) = Fits node (leaf l x.text none)

pub fits-now : (node l : SyntaxKind) (o : Option Lexeme) → IsNow o → true ≡ is_leaf_of node l o → FitsNow node l o
unfolding keyword_word words
fits-now kind.NAME kind.IDENT None n e = absurd cc
fits-now kind.NAME kind.IDENT (Some x) n e = (kind.IDENT, x.text, refl, (refl, text-is token.Name x n e))
fits-now kind.INT_VALUE kind.INT None n e = absurd cc
fits-now kind.INT_VALUE kind.INT (Some x) n e = (kind.INT, x.text, refl, (refl, text-is token.Int x n e))
fits-now kind.STRING_VALUE kind.STRING None n e = absurd cc
fits-now kind.STRING_VALUE kind.STRING (Some x) n e =
    (kind.STRING, x.text, refl, (refl, text-is token.StringValue x n e))
fits-now kind.BOOLEAN_VALUE kind.true_KW None n e = absurd cc
fits-now kind.BOOLEAN_VALUE kind.true_KW (Some x) n e =
    (kind.true_KW, x.text, refl, inl (refl, word_is kind.true_KW x (codes "true") refl refl e))
fits-now kind.BOOLEAN_VALUE kind.false_KW None n e = absurd cc
fits-now kind.BOOLEAN_VALUE kind.false_KW (Some x) n e =
    (kind.false_KW, x.text, refl, inr (refl, word_is kind.false_KW x (codes "false") refl refl e))
fits-now _ _ o n e = absurd cc

pub fits-text : (node l : SyntaxKind) (o : Option Lexeme) (x : Lexeme) (text : Text) → o ≡ Some x → text ≡ x.text
    → IsNow o → true ≡ is_leaf_of node l o
    → Fits node (leaf l text none)
fits-text node l o x text c t n e =
    subst (λ (y : Text). Fits node (leaf l y none)) (sym t) (subst (FitsNow node l) c (fits-now node l o n e))
