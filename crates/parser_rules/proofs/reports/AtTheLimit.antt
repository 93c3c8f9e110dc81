-- Where the recursion limit is reported, the highest nesting is one level more than the limit.
use Rattle.std.proofs.Common.{◌≡◌, ◌+◌, ◌≤◌, ◌||◌, ◌&&◌, if◌then◌else◌, true≢false, ℕ, min, Bool, true, false, List, []}
use Rattle.std.proofs.Common.{◌∷◌, ◌++◌, refl, sym, ◌∙◌, ap, arith}
use Rattle.std.proofs.lemmas.List.Folds.{list_any-append}
use Rattle.std.specs.List.{list_any}
use Rattle.lexical_grammar.specs.Answers.{Answer, is_end, usize_max}
use Rattle.document_grammar.specs.Builds.{add_leaf}
use Rattle.document_grammar.specs.declared.kind.SyntaxKind.{SyntaxKind}
use Rattle.parser_rules.proofs.runs.Frame.{read-untouched, begun-nesting}
use Rattle.parser_rules.proofs.runs.Reading.{Reading, stops, cuts, bad_text, waits, shows, reading}
use Rattle.parser_rules.proofs.runs.Steps.{Holds_along, PastLimit, along}
use Rattle.parser_rules.specs.Messages.{is_limit}
use Rattle.parser_rules.specs.Reports.{is_recursion_limit}
use Rattle.parser_rules.specs.RuleLanguage.{Rule}
use Rattle.parser_rules.specs.Runs.{Runs}
use Rattle.parser_rules.specs.State.{State, Lexeme, Report, at_end, at_text, found_at, bad_report, token_limit_report}
use Rattle.parser_rules.specs.State.{flush, closed, wrapped_from, fault_report, enter, leave, begun, fresh}

-- the recursion limit is reported
abbrev pub IsLimited : State → Type 0
IsLimited state = list_any is_recursion_limit state.errors ≡ true

-- another report does not change that
other-report : (state : State) (report : Report) → is_recursion_limit report ≡ false
    → list_any is_recursion_limit (state.errors ++ report ∷ []) ≡ true
    → IsLimited state
other-report state report e h = omit (list_any is_recursion_limit state.errors)
    (sym (list_any-append is_recursion_limit state.errors (report ∷ [])
    ∙ ap (λ b. list_any is_recursion_limit state.errors || (b || false)) e) ∙ h)
  where
    omit : (b : Bool) → b || false ≡ true → b ≡ true
    omit true e = refl
    omit false e = e

-- what is found at a token is no limit
pub found-other : (lexeme : Lexeme) → is_limit (found_at lexeme) ≡ false
found-other lexeme = elim (is_end lexeme.kind) as (λ b. is_limit (if b then at_end else at_text lexeme.text) ≡ false)
    [ true ↦ refl | false ↦ refl ]

read-limited : {xs : List Answer} {state after : State} → Reading xs state after → IsLimited after → IsLimited state
read-limited stops is_limited = is_limited
read-limited {state = state} (cuts {index = index} this_reading) is_limited =
    other-report state (token_limit_report index) refl (read-limited this_reading is_limited)
read-limited {state = state} (bad_text {item = item} e this_reading) is_limited =
    other-report state (bad_report item.text item.index) refl (read-limited this_reading is_limited)
read-limited (waits e i this_reading) is_limited = read-limited this_reading is_limited
read-limited (shows e i) is_limited = is_limited

-- where it is reported, the highest nesting is more than the limit
abbrev pub LimitIsPast : State → Type 0
LimitIsPast state = IsLimited state → PastLimit state

pub limits-along : Holds_along (λ s t. LimitIsPast s → LimitIsPast t)
unfolding flush closed enter leave wrapped_from
limits-along = record {
  same = λ s h. h;
  next = λ s t u h k e. k (h e);
  flushes = λ s h. h;
  moves = λ leaf x s e w h i.
      let t : State = record s { tree = add_leaf leaf x.text s.tree } in let u = read-untouched s.items t in let l =
      u.limit in let g = u.high in
      let p = h (read-limited (reading s.items t) i) in omega (arith, l, g, p);
  reports = λ m x s e a h i. h (other-report s (fault_report m x) (ap (λ (b : Bool). b && true) (found-other x)) i);
  limits = λ x s e a d h i. d;
  asks = λ s h i. let p = h i in omega (arith, p);
  nodes = λ k s u h. h;
  levels = λ s u q h k. h (λ i. let p = k i in omega (arith, p));
  wraps = λ k t u w h l e. l (h e);
}

-- the limit is one below the highest nesting, where it is reported
pub asked-since : (items : List Answer) (limit : ℕ) (kind : SyntaxKind) (state : State) → state.limit ≡ limit
    → (LimitIsPast (begun items limit kind) → LimitIsPast state) → list_any is_recursion_limit state.errors ≡ true
    → min (limit + 1) usize_max ≤ state.high
asked-since items limit kind state l told h =
    let p = told (λ i. absurd (true≢false (sym (read-limited (reading items (fresh items limit kind)) i)))) h in
    omega (arith, l, p)

pub asked-past : {rule : Rule} {state : State} (items : List Answer) (limit : ℕ) (kind : SyntaxKind)
    → Runs rule (begun items limit kind) state
    → list_any is_recursion_limit state.errors ≡ true → min (limit + 1) usize_max ≤ state.high
asked-past {state = state} items limit kind run =
    asked-since items limit kind state (begun-nesting items limit kind run).1 (along limits-along run)
