use Rattle.std.proofs.Common.{◌≡◌, ◌∙◌, ◌+◌, ap, sym, arith, length, drop, false, nat_lt, eqb-true, ◌∷◌, [], Some, None}
use Rattle.std.proofs.lemmas.Bool.{ltb-true, ltb-false, eqb-false, cond-false}
use Rattle.lexical_grammar.specs.Answers.{limit_at}
use Rattle.apollo_lexer.proofs.Items.{end-then, limit-met-at, end-comes, items-next, item-comes, high-kept}
use Rattle.apollo_lexer.proofs.lexer.Lexer.next_counted.Goals as goal
use Rattle.apollo_lexer.specs.Answers.{answers_left, items_left}

-- the token limit
pub returns-then-check_and_increment-clause-answers : goal.returns-then-check_and_increment-clause-answers
unfolding answers_left items_left
returns-then-check_and_increment-clause-answers c =
    let l = c.args.self.now in
    let open_yet : l.is_finished ≡ false = c.if-self.false in
    let met = ltb-true l.limit_tracker.limit (l.limit_tracker.current + 1)
    (sym c.check_and_increment.ensures.refused ∙ c.if-check_and_increment.true) in
    rw (open_yet, c.limit_error.ensures.is_limit)
    (limit-met-at l.limit_tracker.current l.limit_tracker.limit l.index l.rest.now met
    ∙ ap (λ n. limit_at n ∷ []) (sym c.limit_error.ensures.index))

-- the end
pub returns-then-is_empty-clause-answers : goal.returns-then-is_empty-clause-answers
unfolding answers_left items_left
returns-then-is_empty-clause-answers c =
    let l = c.args.self.now in
    let open_yet : l.is_finished ≡ false = c.if-self.false in
    let more = ltb-false l.limit_tracker.limit (l.limit_tracker.current + 1)
    (sym c.check_and_increment.ensures.refused ∙ c.if-check_and_increment.false) in
    let empty = eqb-true (length l.rest.now) 0 (sym c.is_empty.ensures ∙ c.if-is_empty.true) in
    rw open_yet (end-comes l.limit_tracker.current l.limit_tracker.limit l.index l.rest.now more empty)

-- the items that are left: none after the end, and after an item those of the text after it
pub returns-then-is_empty-clause-items : goal.returns-then-is_empty-clause-items
unfolding items_left
returns-then-is_empty-clause-items c =
    let l = c.args.self.now in
    let open_yet : l.is_finished ≡ false = c.if-self.false in
    let empty = eqb-true (length l.rest.now) 0 (sym c.is_empty.ensures ∙ c.if-is_empty.true) in
    rw open_yet (sym (ap (drop 1) (end-then l.index l.rest.now empty)))

pub returns-in-Some-clause-items : goal.returns-in-Some-clause-items
unfolding items_left
returns-in-Some-clause-items c =
    let l = c.args.self.now in
    let open_yet : l.is_finished ≡ false = c.if-self.false in
    let some = eqb-false (length l.rest.now) 0 (sym c.is_empty.ensures ∙ c.if-is_empty.false) in
    let cut = c.cut-kind.ensures in
    rw open_yet (sym (ap (drop 1)
    (items-next l.index l.rest.now c.cut-kind.result.1.now c.cut-kind.result.2.now (Some c.in-Some.kind) (omega arith)
    (sym c.in-Some.is ∙ cut.kind) cut.text cut.after cut.some cut.within)))

pub returns-in-None-clause-items : goal.returns-in-None-clause-items
unfolding items_left
returns-in-None-clause-items c =
    let l = c.args.self.now in
    let open_yet : l.is_finished ≡ false = c.if-self.false in
    let some = eqb-false (length l.rest.now) 0 (sym c.is_empty.ensures ∙ c.if-is_empty.false) in
    let cut = c.cut-kind.ensures in
    rw open_yet (sym (ap (drop 1)
    (items-next l.index l.rest.now c.cut-kind.result.1.now c.cut-kind.result.2.now None (omega arith)
    (sym c.in-None.is ∙ cut.kind) cut.text cut.after cut.some cut.within)))

-- a token
pub returns-in-Some-clause-answers : goal.returns-in-Some-clause-answers
unfolding answers_left items_left
returns-in-Some-clause-answers c =
    let l = c.args.self.now in
    let open_yet : l.is_finished ≡ false = c.if-self.false in
    let refused = sym c.check_and_increment.ensures.refused ∙ c.if-check_and_increment.false in
    let more = ltb-false l.limit_tracker.limit (l.limit_tracker.current + 1) refused in
    let some = eqb-false (length l.rest.now) 0 (sym c.is_empty.ensures ∙ c.if-is_empty.false) in
    let cut = c.cut-kind.ensures in
    let next = items-next l.index l.rest.now c.cut-kind.result.1.now c.cut-kind.result.2.now
    (Some c.in-Some.kind) (omega arith)
    (sym c.in-Some.is ∙ cut.kind) cut.text cut.after cut.some cut.within in
    let left = rw open_yet at (returns-in-Some-clause-items c) in
    let limit = c.check_and_increment.ensures.limit in
    let count = c.check_and_increment.ensures.count
    ∙ cond-false (nat_lt l.limit_tracker.limit (l.limit_tracker.current + 1)) l.limit_tracker.current
    (l.limit_tracker.current + 1) refused in
    rw open_yet (item-comes l.limit_tracker.limit l.limit_tracker.current _ _ _ _ _ _ more limit count next left)

-- bad text
pub returns-in-None-clause-answers : goal.returns-in-None-clause-answers
unfolding answers_left items_left
returns-in-None-clause-answers c =
    let l = c.args.self.now in
    let open_yet : l.is_finished ≡ false = c.if-self.false in
    let refused = sym c.check_and_increment.ensures.refused ∙ c.if-check_and_increment.false in
    let more = ltb-false l.limit_tracker.limit (l.limit_tracker.current + 1) refused in
    let some = eqb-false (length l.rest.now) 0 (sym c.is_empty.ensures ∙ c.if-is_empty.false) in
    let cut = c.cut-kind.ensures in
    let next = items-next l.index l.rest.now c.cut-kind.result.1.now c.cut-kind.result.2.now None (omega arith)
    (sym c.in-None.is ∙ cut.kind) cut.text cut.after cut.some cut.within in
    let left = rw open_yet at (returns-in-None-clause-items c) in
    let limit = c.check_and_increment.ensures.limit in
    let count = c.check_and_increment.ensures.count
    ∙ cond-false (nat_lt l.limit_tracker.limit (l.limit_tracker.current + 1)) l.limit_tracker.current
    (l.limit_tracker.current + 1) refused in
    rw open_yet (item-comes l.limit_tracker.limit l.limit_tracker.current _ _ _ _ _ _ more limit count next left)

-- each answer raises the tracker's `high` by one
pub returns-then-check_and_increment-clause-high : goal.returns-then-check_and_increment-clause-high
returns-then-check_and_increment-clause-high c =
    let l = c.args.self.now in
    high-kept l.limit_tracker.high c.check_and_increment.new.self.high l.limit_tracker.current _ _ _
    (returns-then-check_and_increment-clause-answers c)
    (l.granted c.if-self.false) c.check_and_increment.ensures.high

pub returns-then-is_empty-clause-high : goal.returns-then-is_empty-clause-high
returns-then-is_empty-clause-high c =
    let l = c.args.self.now in
    high-kept l.limit_tracker.high c.check_and_increment.new.self.high l.limit_tracker.current _ _ _
    (returns-then-is_empty-clause-answers c)
    (l.granted c.if-self.false) c.check_and_increment.ensures.high

pub returns-in-Some-clause-high : goal.returns-in-Some-clause-high
returns-in-Some-clause-high c =
    let l = c.args.self.now in
    high-kept l.limit_tracker.high c.check_and_increment.new.self.high l.limit_tracker.current _ _ _
    (returns-in-Some-clause-answers c)
    (l.granted c.if-self.false) c.check_and_increment.ensures.high

pub returns-in-None-clause-high : goal.returns-in-None-clause-high
returns-in-None-clause-high c =
    let l = c.args.self.now in
    high-kept l.limit_tracker.high c.check_and_increment.new.self.high l.limit_tracker.current _ _ _
    (returns-in-None-clause-answers c)
    (l.granted c.if-self.false) c.check_and_increment.ensures.high
