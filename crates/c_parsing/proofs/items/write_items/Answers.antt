use Rattle.std.proofs.Common.{arith, ap, sym, ◌∙◌, ◌≡◌, List, ◌∷◌, [], ◌++◌, length, length-append, refl, subst}
use Rattle.std.proofs.lemmas.List.{length-map}
use Rattle.std.specs.Prelude.{map}
use Rattle.lexical_grammar.specs.Answers.{Answer}
use Rattle.apollo_lexer.proofs.Law.{answers-fit}
use Rattle.apollo_lexer.proofs.Lexing.{lex-error-made}
use Rattle.apollo_lexer.specs.Answers.{answer_of, answers_left}
use Rattle.apollo_lexer.specs.LexErrors.{AreLexErrors}
use Rattle.apollo_parser.specs.Filled.{filled}
use Rattle.c_parsing.proofs.ItemRows.{all-given, begun, errors_of, no-token, passed-error, passed-token}
use Rattle.c_parsing.proofs.items.write_items.Goals as goal
use Rattle.c_parsing.proofs.items.write_items.Goals.{in-Err+in_ok-to_error+in_ok-push, in_default}
use Rattle.c_parsing.specs.Items.{item_row}
use Rattle.c_parsing.specs.declared.rows.ItemRow.{ItemRow}

pub row_of-requires : goal.row_of-requires
row_of-requires g c = (rw c.in-Some.ensures.steps.answers at c.loop-item.invariant.short).0

pub overflow_add-count : goal.overflow_add-count
overflow_add-count g c =
    let p = c.loop-item.invariant in
    omega (
      arith,
      p.counted,
      ap length p.split,
      length-append p.given (answers_left c.loop-item.item-iterator),
      ap length c.in-Some.ensures.steps.answers,
      answers-fit c.args.lexer,
    )

pub loop-item-init : goal.loop-item-init
loop-item-init g c = begun _ _ _ _ _ (ap answers_left c.into_iter-item-iterator.ensures.into_iter_gives) refl
    c.new-errors.ensures.items c.requires

pub loop-item-preserved : goal.loop-item-preserved
loop-item-preserved g c =
    let p = c.loop-item.invariant in
    let before = c.args.rows.now in
    let written : c.put.new.rows ≡ filled before (map item_row p.given ++ item_row (answer_of c.in-Some.item) ∷ []) =
    c.put.ensures before (map item_row p.given) (length-map p.given item_row ∙ sym p.counted) p.rows_are
    ∙ ap (λ (row : ItemRow). filled before (map item_row p.given ++ row ∷ [])) c.row_of.ensures in
    let comes = c.in-Some.ensures.steps.answers in
    elim c.match-item.branch [
      | in-Err+in_ok-to_error+in_ok-push w ↦
          let e = w.in-Err.error in
          let told = w.in_ok-to_error.ensures in
          let made = lex-error-made e.is_limit e.text.now e.index _ told.subject told.index told.message in
          rw (w.errors-is, w.in_ok-push.ensures.items)
          (passed-error _ _ _ _ _ _ _ _ (answer_of c.in-Some.item) w.in_ok-to_error.field-0 p comes written
          (rw w.in-Err.is (no-token e.is_limit e.text.now e.index)) (rw w.in-Err.is made))
      | in_default w ↦ rw w.errors-is
          (passed-token _ _ _ _ _ _ _ _ (answer_of c.in-Some.item) p comes written (rw w.in_default.is refl))
    ]

pub returns : goal.returns
returns g c =
    let p = c.loop-item.invariant in
    let all : p.given ≡ answers_left c.args.lexer = all-given _ _ _ _ _ _ p c.in-None.ensures.steps.answers.0 in
    record {
      rows = p.rows_are ∙ ap (λ (answers : List Answer). filled c.args.rows.now (map item_row answers)) all;
      count = p.counted ∙ ap length all;
      errors = subst (λ (answers : List Answer). AreLexErrors (errors_of answers) c.loop-item.errors.items)
          all p.errors_are;
    }
