-- Each token gets a leaf of its kind, or an ERROR: the check of a rule, which is walked with sets of classes of the
-- next two tokens.
use Rattle.std.proofs.Common.{ℕ, Bool, true, cond, eqb}
use Rattle.document_grammar.specs.Booleans.{◌and◌}
use Rattle.document_grammar.specs.Kinds.{ERROR}
use Rattle.document_grammar.specs.Numbers.{number}
use Rattle.document_grammar.specs.declared.kind.SyntaxKind.{SyntaxKind}
use Rattle.grammar_machine.proofs.Checks.{subset, disjoint}
use Rattle.grammar_machine.proofs.Patterns.{label}
use Rattle.grammar_machine.proofs.Sound.{any}
use Rattle.grammar_machine.proofs.Steps.{hits}
use Rattle.grammar_machine.specs.Machine.{is_leaf}
use Rattle.parser_rules.proofs.lookahead.FirstSets.{first_in, second_of, inlined}
use Rattle.parser_rules.proofs.lookahead.Split.{split}
use Rattle.parser_rules.proofs.lookahead.TokenSets.{over}
use Rattle.parser_rules.proofs.runs.Walk.{Domain, steady}

abbrev pub is_error : SyntaxKind → Bool
is_error kind = eqb (number kind) ERROR

-- a token of these classes may become a leaf of the kind
unfoldable pub belongs : ℕ → SyntaxKind → Bool
belongs x own = (disjoint x over and is_leaf (number own))
    and (eqb (label (number own)) (number own) and hits (number own) x any)

-- sets that hold the classes of the current token and of the one after it
pub record Tokens : Type 0 where
  pub near : ℕ
  pub far : ℕ

abbrev pub anything : Tokens
anything = record { near = any; far = any }

unfoldable pub leaf_check : Domain Tokens
leaf_check = record (steady anything) {
  leaf = λ own a k. cond (is_error own) (k anything) (belongs a.near own and k (record { near = a.far; far = any }));
  test = λ q a f g. split (λ x y. x and y) true q a.near a.far (λ u v. f (record { near = u; far = v }))
      (λ u v. g (record { near = u; far = v }));
  turn = λ a. anything;
  keeps = λ a c. subset a.near c.near and subset a.far c.far;
  opens = λ n a. subset a.near (first_in n) and subset a.far (second_of n);
  begins = λ n. record { near = first_in n; far = second_of n };
  after = λ j a k. k anything;
  inlines = inlined;
}
