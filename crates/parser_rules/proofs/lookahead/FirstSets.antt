-- With which tokens the rules begin a node.
use Rattle.std.proofs.Common.{ℕ, suc, Bool, true, false, cond, List, [], ◌∷◌, bit_and, bit_or}
use Rattle.std.specs.Int.Bits.{bit_xor}
use Rattle.document_grammar.specs.declared.kind.SyntaxKind.TheVariants as kind
use Rattle.grammar_machine.proofs.Checks.{entries_mask}
use Rattle.grammar_machine.proofs.Sound.{any}
use Rattle.grammar_machine.specs.Machine.{entries}
use Rattle.grammar_machine.specs.Table.{Entry, entry}
use Rattle.parser_rules.proofs.runs.Fuel.{rules_deep}
use Rattle.parser_rules.specs.Nodes.{Node, Name, symbol}
use Rattle.parser_rules.specs.RuleLanguage.{Rule, Do, Bump, Note, Seq, When, Child, Call, Nested, Typed}
use Rattle.parser_rules.specs.Rules.{inside, body}

abbrev pub without : ℕ → ℕ → ℕ
without x m = bit_xor x (bit_and x m)

-- the classes of the token with which a node begins
unfoldable pub first_of : Node → ℕ
first_of node = entries_mask (entries (symbol node))

abbrev seconds : List Entry → ℕ
seconds [] = 0
seconds (entry x y alone ∷ more) = bit_or (cond alone any y) (seconds more)

-- the classes of the token after it
unfoldable pub second_of : Node → ℕ
second_of node = seconds (entries (symbol node))

-- whether a rule may begin at any token: it takes none that it has not looked at, but for an ERROR leaf
unfoldable pub looks : ℕ → Rule → Bool
looks n (Do (Bump kind.ERROR)) = true
looks n (Do (Bump leaf)) = false
looks n (Seq (Do (Note message)) rule) = looks n rule
looks n (Seq rule other_rule) = looks n rule
looks n (When test rule other_rule) = looks n other_rule
looks (suc n) (Child node) = looks n (inside node)
looks (suc n) (Call part) = looks n (body part)
looks n (Nested rule other_rule) = looks n rule
looks n (Typed rule) = looks n rule
looks n _ = true

-- the first, but any where the rule of the node looks itself
unfoldable pub first_in : Node → ℕ
first_in node = cond (looks rules_deep (inside node)) any (first_of node)

-- the nodes whose rules are walked at each of their places, so that what is known of the second token is kept
unfoldable pub inlined : Node → Bool
inlined Name = true
inlined _ = false
