-- What it means to run a rule.
use Rattle.std.specs.Prelude.{◌≡◌, ℕ, true, false}
use Rattle.lexical_grammar.specs.declared.TokenKind.TheVariants as token
use Rattle.document_grammar.specs.Builds.{built_count}
use Rattle.document_grammar.specs.declared.kind.SyntaxKind.TheVariants as kind
use Rattle.parser_rules.specs.Nodes.{Node, Part, kind_of}
use Rattle.parser_rules.specs.RuleLanguage.{Test, At, holds, Prim, Bump, step, Rule, Skip, Do, Seq, When, While, Child}
use Rattle.parser_rules.specs.RuleLanguage.{TooDeep, Nested, Call, Typed}
use Rattle.parser_rules.specs.Rules.{inside, body}
use Rattle.parser_rules.specs.State.{State, flush, opened, closed, wrapped_from, is_deep, enter, leave, too_deep}

-- a run of a rule, from one state to another
pub data Runs : Rule → State → State → Type 0 where
  skip : {state : State} → Runs Skip state state
  does : {primitive : Prim} {state after : State} → after ≡ step primitive state → Runs (Do primitive) state after
  seq : {rule other_rule : Rule} {state after later : State} → Runs rule state after → Runs other_rule after later
      → Runs (Seq rule other_rule) state later
  yes : {test : Test} {rule other_rule : Rule} {state after : State} → true ≡ holds test state → Runs rule state after
      → Runs (When test rule other_rule) state after
  no : {test : Test} {rule other_rule : Rule} {state after : State} → false ≡ holds test state
      → Runs other_rule state after
      → Runs (When test rule other_rule) state after
  done : {test : Test} {rule : Rule} {state : State} → false ≡ holds test state → Runs (While test rule) state state
  again : {test : Test} {rule : Rule} {state after later : State} → true ≡ holds test state → Runs rule state after
      → Runs (While test rule) after later
      → Runs (While test rule) state later
  child : {node : Node} {state after later last : State} → after ≡ opened (kind_of node) state → last ≡ closed later
      → Runs (inside node) after later
      → Runs (Child node) state last
  deeper : {rule other_rule : Rule} {state after later last end_state : State} → false ≡ is_deep state
      → after ≡ enter state → last ≡ leave later
      → Runs rule after later → Runs other_rule last end_state → Runs (Nested rule other_rule) state end_state
  limited : {state after : State} → true ≡ is_deep state → after ≡ too_deep state → Runs TooDeep state after
  refused : {rule other_rule : Rule} {state after : State} → true ≡ is_deep state → after ≡ too_deep state
      → Runs (Nested rule other_rule) state after
  call : {part : Part} {state after : State} → Runs (body part) state after → Runs (Call part) state after
  plain : {rule : Rule} {state after later : State} → after ≡ flush state → Runs rule after later
      → false ≡ holds (At token.Bang) later
      → Runs (Typed rule) state later
  wrapped : {rule : Rule} {index : ℕ} {state after later last end_state x : State}
      → after ≡ flush state → index ≡ built_count after.tree → last ≡ wrapped_from index kind.NON_NULL_TYPE later
      → x ≡ closed end_state
      → Runs rule after later → true ≡ holds (At token.Bang) later → Runs (Do (Bump kind.BANG)) last end_state
      → Runs (Typed rule) state x

-- turns of a loop
pub data Turns : Test → Rule → State → State → Type 0 where
  begin : {test : Test} {rule : Rule} {state : State} → Turns test rule state state
  turn : {test : Test} {rule : Rule} {state after later : State} → Turns test rule state after → true ≡ holds test after
      → Runs rule after later
      → Turns test rule state later
