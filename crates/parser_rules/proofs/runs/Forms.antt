-- A run of a rule, and after it a run of the rules that follow: the forms that both together compute to.
use Rattle.std.proofs.Common.{◌≡◌, Some, ◌∙◌, ap, sym, subst, refl}
use Rattle.document_grammar.specs.Builds.{start, add_leaf, finish}
use Rattle.document_grammar.specs.declared.kind.SyntaxKind.{SyntaxKind}
use Rattle.parser_rules.proofs.runs.Frame.{read-closed}
use Rattle.parser_rules.specs.Nodes.{Node, Name, NameForFragment, NameForEnum, kind_of}
use Rattle.parser_rules.specs.RuleLanguage.{Test, Prim, Bump, Note, step, Rule, Skip, Do, Seq, When, Child, want}
use Rattle.parser_rules.specs.Rules.{inside}
use Rattle.parser_rules.specs.Runs.{Runs, skip, does, seq, yes, no, child}
use Rattle.parser_rules.specs.State.{State, Text, Lexeme, read_on, flush, opened, closed, moved, bump}
use Rattle.parser_rules.specs.declared.message.Message.{Message}

-- a report where the test fails, and what follows
pub wanted : {test : Test} {message : Message} {rule : Rule} {state after later : State}
    → Runs (want test message) state after → Runs rule after later
    → Runs (When test rule (Seq (Do (Note message)) rule)) state later
wanted (yes e skip) run = yes e run
wanted (no e run) second_run = no e (seq run second_run)

-- one leaf in any case, and what follows
pub chosen : {test : Test} {primitive b : Prim} {rule : Rule} {state after later : State}
    → Runs (When test (Do primitive) (Do b)) state after
    → Runs rule after later → Runs (When test (Seq (Do primitive) rule) (Seq (Do b) rule)) state later
chosen (yes e run) second_run = yes e (seq run second_run)
chosen (no e run) second_run = no e (seq run second_run)

-- one leaf, if it is there, and what follows
pub optional : {test : Test} {primitive : Prim} {rule : Rule} {state after later : State}
    → Runs (When test (Do primitive) Skip) state after
    → Runs rule after later → Runs (When test (Seq (Do primitive) rule) rule) state later
optional (yes e run) second_run = yes e (seq run second_run)
optional (no e skip) second_run = no e second_run

-- a node of one leaf may be closed before the next token is read
pub one-leaf : (node leaf : SyntaxKind) (state after later next_state : State) (lexeme : Lexeme) (text : Text)
    → state.current ≡ Some lexeme → text ≡ lexeme.text → after ≡ flush state
    → later ≡ record after { tree = finish (add_leaf leaf text (start node after.tree)) }
    → next_state ≡ read_on later.items later
    → next_state ≡ closed (bump leaf (opened node state))
unfolding flush opened closed bump
one-leaf node leaf state after later next_state lexeme text c w a b e =
    e ∙ ap (λ (later : State). read_on later.items later) (b ∙ ap (λ (after : State). record after
    { tree = finish (add_leaf leaf text (start node after.tree)) }) a)
    ∙ ap (λ (y : Text). read_on state.items
    (record (flush state) { tree = finish (add_leaf leaf y (start node (flush state).tree)) })) w
    ∙ sym (read-closed state.items
    (record (flush state) { tree = add_leaf leaf lexeme.text (start node (flush state).tree) }))
    ∙ ap (λ o. closed (moved leaf (opened node state) o)) (sym c)

-- what a step does to a node of one leaf is a run of the node's rule
pub leaf_run : (node : Node) (kind leaf : SyntaxKind) {state after : State}
    → after ≡ closed (bump leaf (opened kind state)) → kind_of node ≡ kind
    → inside node ≡ Do (Bump leaf) → Runs (Child node) state after
unfolding step
leaf_run node kind leaf {state = state} e m i =
    child refl (e ∙ ap (λ j. closed (bump leaf (opened j state))) (sym m))
    (subst (λ (a : Rule). Runs a (opened (kind_of node) state) (bump leaf (opened (kind_of node) state)))
    (sym i) (does refl))

-- a node whose rule ran from where it was opened
pub in-node : {node : Node} {state later last : State} → last ≡ closed later
    → Runs (inside node) (opened (kind_of node) state) later
    → Runs (Child node) state last
in-node e run = child refl e run

-- a name is also one for a fragment, and one for an enum's value
pub for-fragment : {state after : State} → Runs (Child Name) state after → Runs (Child NameForFragment) state after
unfolding inside
for-fragment (child e f run) = child e f run

pub for-enum : {state after : State} → Runs (Child Name) state after → Runs (Child NameForEnum) state after
unfolding inside
for-enum (child e f run) = child e f run
