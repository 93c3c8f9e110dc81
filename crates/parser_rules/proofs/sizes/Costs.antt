-- What a state has cost, and what the items that are left can still pay: no step adds more to both than it costs.
use Rattle.std.proofs.Common.{◌≡◌, ℕ, suc, ◌+◌, ◌-◌, ◌*◌, ◌≤◌, Bool, true, false, if◌then◌else◌, is_some, Option, Some}
use Rattle.std.proofs.Common.{None, List, [], ◌∷◌, ◌++◌, length, length-append, refl, ap, ◌∙◌, arith}
use Rattle.std.proofs.Math.Nat.{mul-suc}
use Rattle.lexical_grammar.specs.Answers.{Answer, gives, limit_at}
use Rattle.document_grammar.proofs.Booleans.{false-true}
use Rattle.document_grammar.proofs.Built.{join-front_back, count-close}
use Rattle.document_grammar.proofs.Joins.{count-join}
use Rattle.document_grammar.specs.Builds.{Building, Open, open_count, built_count, add_leaf, close, finish, wrap, front}
use Rattle.document_grammar.specs.Builds.{back}
use Rattle.document_grammar.specs.Forests as built
use Rattle.document_grammar.specs.declared.kind.SyntaxKind.{SyntaxKind}
use Rattle.document_grammar.specs.declared.kind.SyntaxKind.TheVariants as kind
use Rattle.parser_rules.proofs.runs.Reading.{Reading, stops, cuts, bad_text, waits, shows, reading}
use Rattle.parser_rules.proofs.sizes.SizeCheck.{Rates}
use Rattle.parser_rules.specs.State.{State, Text, Lexeme, PendingToken, Report, read_on, add_all, flush, opened, closed}
use Rattle.parser_rules.specs.State.{wrapped_from, moved, bad_report, token_limit_report, fault_report}
use Rattle.parser_rules.specs.State.{recursion_limit_report, noted, note, deepened, limited_at, too_deep, enter, leave}
use Rattle.parser_rules.specs.declared.message.Message.{Message}

-- the elements that are built, and those that wait
abbrev pub size : State → ℕ
size state = built_count state.tree + length state.pending

-- ---- elements

more : {A : Type 0} (xs : List A) (x : A) → length (xs ++ x ∷ []) ≡ suc (length xs)
more xs x = let e = length-append xs (x ∷ []) in omega (arith, e)

leaf-count : (this_kind : SyntaxKind) (text : Text) (building : Building)
    → built_count (add_leaf this_kind text building) ≡ suc (built_count building)
leaf-count this_kind text building = let e = count-join building.here (built.leaf this_kind text built.none) in
    omega (arith, e)

pub all-count : (parts : List PendingToken) (building : Building)
    → built_count (add_all parts building) ≡ built_count building + length parts
all-count [] building = omega arith
all-count (pending_token ∷ parts) building =
    let e = all-count parts (add_leaf pending_token.kind pending_token.text building) in
    let f = leaf-count pending_token.kind pending_token.text building in omega (arith, e, f)

pub finish-count : (building : Building) → built_count (finish building) ≡ built_count building
finish-count building = on building.above
  where
    on : (above : List Open)
        → built_count (close building.here above) ≡ built_count (record { here = building.here; above = above })
    on [] = refl
    on (o ∷ above) = count-close building.here o above

wrap-count : (index : ℕ) (this_kind : SyntaxKind) (building : Building)
    → built_count (wrap index this_kind building) ≡ suc (built_count building)
wrap-count index this_kind building =
    let n : ℕ = index - open_count building.above in
    let e = count-join (front n building.here) (back n building.here) in
    let f = ap built.count (join-front_back n building.here) in
    omega (arith, e, f)

-- ---- costs

module _ (rates : Rates) where
  abbrev pub cost : State → ℕ
  cost state = rates.element * size state + rates.report * length state.errors

  -- what the answers that are left can pay, and what the current token can
  abbrev pub worth : List Answer → ℕ
  worth [] = 0
  worth (gives item ∷ xs) = worth xs + rates.item
  worth (limit_at index ∷ xs) = worth xs + rates.report

  abbrev pub worth_of : Option Lexeme → ℕ
  worth_of None = 0
  worth_of (Some x) = rates.item

  -- the cost so far, and what can still be paid
  unfoldable pub outlay : State → ℕ
  outlay state = cost state + (worth_of state.current + worth state.items)

  one-more : (x m n : ℕ) → m ≡ suc n → x * m ≡ x * n + x
  one-more x m n e = ap (λ (i : ℕ). x * i) e ∙ mul-suc x n

  -- a token or bad text waits, or a report is added
  waits-one : (state : State) (pending_token : PendingToken)
      → rates.element * (built_count state.tree + length (state.pending ++ pending_token ∷ []))
      ≡ rates.element * size state + rates.element
  waits-one state pending_token = let e = more state.pending pending_token in
      one-more rates.element _ (size state) (omega (arith, e))

  reports-one : (es : List Report) (report : Report)
      → rates.report * length (es ++ report ∷ []) ≡ rates.report * length es + rates.report
  reports-one es report = one-more rates.report _ (length es) (more es report)

  module _ (fair : rates.element + rates.report ≤ rates.item) where
    reads : {xs : List Answer} {state after : State} → Reading xs state after → state.items ≡ xs
        → outlay after ≤ cost state + worth xs
    unfolding outlay
    reads {state = state} stops e = let w = ap worth e in omega (arith, w)
    reads {state = state} (cuts {index = index} {xs = xs} this_reading) e = let h = reads this_reading refl in
        let n = reports-one state.errors (token_limit_report index) in omega (arith, h, n)
    reads {state = state} (bad_text {item = item} {xs = xs} i this_reading) e =
        let h = reads this_reading refl in
        let n = reports-one state.errors (bad_report item.text item.index) in
        let m = waits-one state (record { kind = kind.ERROR; text = item.text }) in
        omega (arith, h, n, m, fair)
    reads {state = state} (waits {item = item} {own = own} {xs = xs} i j this_reading) e =
        let h = reads this_reading refl in
        let m = waits-one state (record { kind = own; text = item.text }) in omega (arith, h, m, fair)
    reads (shows i j) e = omega arith

    pub read-cost : (xs : List Answer) (state : State) → state.items ≡ xs
        → outlay (read_on xs state) ≤ cost state + worth xs
    read-cost xs state e = reads (reading xs state) e

    pub moved-cost : (leaf : SyntaxKind) (lexeme : Lexeme) (state : State) → state.current ≡ Some lexeme
        → outlay (moved leaf state (Some lexeme)) + rates.item ≤ outlay state + rates.element
    unfolding outlay flush
    moved-cost leaf lexeme state e =
        let after : State = flush state in
        let later : State = record after { tree = add_leaf leaf lexeme.text after.tree } in
        let h = read-cost state.items later refl in
        let c = ap worth_of e in
        let a = all-count state.pending state.tree in
        let l = leaf-count leaf lexeme.text (add_all state.pending state.tree) in
        let n = one-more rates.element (size later) (size state) (omega (arith, a, l)) in
        omega (arith, h, c, n)

  same-size : (state after : State) → size after ≡ size state
      → cost (record state { tree = after.tree; pending = after.pending }) ≡ cost state
  same-size state after e = ap (λ (n : ℕ). rates.element * n + rates.report * length state.errors) e

  pub flush-cost : (state : State) → outlay (flush state) ≡ outlay state
  unfolding outlay flush
  flush-cost state = let a = all-count state.pending state.tree in let e =
      same-size state (flush state) (omega (arith, a)) in omega (arith, e)

  pub closed-cost : (state : State) → outlay (closed state) ≡ outlay state
  unfolding outlay closed
  closed-cost state = let f = finish-count state.tree in let e = same-size state (closed state) (omega (arith, f)) in
      omega (arith, e)

  pub opened-cost : (this_kind : SyntaxKind) (state : State)
      → outlay (opened this_kind state) ≡ outlay state + rates.element
  unfolding outlay opened flush
  opened-cost this_kind state =
      let a = all-count state.pending state.tree in
      let n = one-more rates.element (size (opened this_kind state)) (size state) (omega (arith, a)) in
      omega (arith, n)

  pub wrapped-cost : (index : ℕ) (this_kind : SyntaxKind) (state : State)
      → outlay (wrapped_from index this_kind state) ≡ outlay state + rates.element
  unfolding outlay wrapped_from
  wrapped-cost index this_kind state = let w = wrap-count index this_kind state.tree in
      let n = one-more rates.element (size (wrapped_from index this_kind state)) (size state) (omega (arith, w)) in
      omega (arith, n)

  pub levels-cost : (state : State) → (outlay (enter state) ≡ outlay state) × (outlay (leave state) ≡ outlay state)
  unfolding outlay enter leave
  levels-cost state = (refl, refl)

  if-reported : (state : State) (report : Report) (b : Bool)
      → outlay (if b then record state { errors = state.errors ++ report ∷ [] } else state) ≤ outlay
      state + rates.report
  unfolding outlay
  if-reported state report true = let n = reports-one state.errors report in omega (arith, n)
  if-reported state report false = omega arith

  -- a report costs what it costs, and where no token is left, nothing is reported
  pub record Reports (state after : State) : Type 0 where
    pub most : outlay after ≤ outlay state + rates.report
    pub none : state.current ≡ None → outlay after ≤ outlay state

  some-none : {A : Type 0} {lexeme : Lexeme} (found : Option Lexeme) → found ≡ Some lexeme → found ≡ None → A
  some-none found e n = false-true (ap is_some n) (ap is_some e)

  pub note-cost : (message : Message) (state : State) → Reports state (note message state)
  unfolding note
  note-cost message state =
      (elim state.current as (λ (o : Option Lexeme). state.current ≡ o → Reports state (noted message state o)) [
        | None ↦ λ e. record { most = omega arith; none = λ n. omega arith }
        | Some x ↦ λ e. record {
          most = if-reported state (fault_report message x) state.accepts;
          none = λ n. some-none state.current e n;
        }
      ]) refl

  -- whether reports are taken, and the greatest depth, are no matter
  no-matter : (state : State) → outlay (record state { accepts = false }) ≡ outlay state
  unfolding outlay
  no-matter state = refl

  deepened-cost : (state : State) → outlay (deepened state) ≡ outlay state
  unfolding outlay
  deepened-cost state = refl

  pub deep-cost : (state : State) → Reports state (too_deep state)
  unfolding too_deep
  deep-cost state =
      let after : State = deepened state in
      let a = deepened-cost state in
      (elim state.current as (λ (o : Option Lexeme). state.current ≡ o → Reports state (limited_at after o)) [
        | None ↦ λ e. record { most = omega (arith, a); none = λ n. omega (arith, a) }
        | Some x ↦ λ e. (
            let i = if-reported after (recursion_limit_report x) after.accepts in
            let n = no-matter (if after.accepts then record after
            { errors = after.errors ++ recursion_limit_report x ∷ [] } else after) in
            record { most = omega (arith, a, i, n); none = λ n. some-none state.current e n })
      ]) refl
