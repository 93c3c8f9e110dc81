-- A run of a rule has one result: from one state, two runs of the same rule end in the same state.
use Rattle.std.proofs.Common.{◌≡◌, true, false, sym, ap, ◌∙◌, true≢false}
use Rattle.document_grammar.specs.Builds.{built_count}
use Rattle.document_grammar.specs.declared.kind.SyntaxKind.TheVariants as kind
use Rattle.parser_rules.specs.Nodes.{kind_of}
use Rattle.parser_rules.specs.RuleLanguage.{Test, holds, Prim, step, Rule}
use Rattle.parser_rules.specs.Runs.{Runs, skip, does, seq, yes, no, done, again, child, deeper, limited, refused, call}
use Rattle.parser_rules.specs.Runs.{plain, wrapped}
use Rattle.parser_rules.specs.State.{State, flush, opened, closed, wrapped_from, is_deep, enter, leave, too_deep}

-- a test has one answer
answered-once : {state after : State} (test : Test) → state ≡ after → true ≡ holds test state
    → false ≡ holds test after → ⊥
answered-once test same y n = true≢false (y ∙ ap (holds test) same ∙ sym n)

deep-once : {state after : State} → state ≡ after → true ≡ is_deep state → false ≡ is_deep after → ⊥
deep-once same y n = true≢false (y ∙ ap is_deep same ∙ sym n)

pub one-result : {rule : Rule} {state after next_state later : State} → state ≡ after → Runs rule state next_state
    → Runs rule after later → next_state ≡ later
one-result same skip skip = same
one-result same (does {primitive = primitive} e) (does e') = e ∙ ap (step primitive) same ∙ sym e'
one-result same (seq run second_run) (seq third_run i') = one-result (one-result same run third_run) second_run i'
one-result same (yes e run) (yes e' third_run) = one-result same run third_run
one-result same (yes {test = test} e run) (no e' third_run) = absurd (answered-once test same e e')
one-result same (no {test = test} e run) (yes e' third_run) = absurd (answered-once test (sym same) e' e)
one-result same (no e run) (no e' third_run) = one-result same run third_run
one-result same (done e) (done e') = same
one-result same (done {test = test} e) (again e' third_run run) = absurd (answered-once test (sym same) e' e)
one-result same (again {test = test} e run second_run) (done e') = absurd (answered-once test same e e')
one-result same (again e run second_run) (again e' third_run i') =
    one-result (one-result same run third_run) second_run i'
one-result same (child {node = node} e f run) (child e' f' third_run) =
    f ∙ ap closed (one-result (e ∙ ap (opened (kind_of node)) same ∙ sym e') run third_run) ∙ sym f'
one-result same (deeper d e f run second_run) (deeper d' e' f' third_run i') =
    one-result (f ∙ ap leave (one-result (e ∙ ap enter same ∙ sym e') run third_run) ∙ sym f') second_run i'
one-result same (deeper d e f run second_run) (refused d' e') = absurd (deep-once (sym same) d' d)
one-result same (refused d e) (deeper d' e' f' third_run run) = absurd (deep-once same d d')
one-result same (refused d e) (refused d' e') = e ∙ ap too_deep same ∙ sym e'
one-result same (limited d e) (limited d' e') = e ∙ ap too_deep same ∙ sym e'
one-result same (call run) (call third_run) = one-result same run third_run
one-result same (plain e run n) (plain e' third_run n') = one-result (e ∙ ap flush same ∙ sym e') run third_run
one-result same (plain e run n) (wrapped f index g k third_run y second_run) =
    absurd (answered-once _ (sym (one-result (e ∙ ap flush same ∙ sym f) run third_run)) y n)
one-result same (wrapped f index g k run y second_run) (plain e' third_run n') =
    absurd (answered-once _ (one-result (f ∙ ap flush same ∙ sym e') run third_run) y n')
one-result same (wrapped {later = later} f p g k run y second_run)
    (wrapped {index = index'} f' p' g' k' third_run y' i') =
    let begun = f ∙ ap flush same ∙ sym f' in
    let from = p ∙ ap (λ (t : State). built_count t.tree) begun ∙ sym p' in
    let around = ap (λ at. wrapped_from at kind.NON_NULL_TYPE later) from
    ∙ ap (wrapped_from index' kind.NON_NULL_TYPE) (one-result begun run third_run) in
    k ∙ ap closed (one-result (g ∙ around ∙ sym g') second_run i') ∙ sym k'
