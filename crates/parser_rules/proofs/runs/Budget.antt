-- A run does not depend on how many items may be cut.
use Rattle.std.proofs.Common.{◌≡◌, ℕ, Bool, true, false, not, ◌&&◌, if◌then◌else◌, List, [], ◌∷◌, ◌++◌, Some, None}
use Rattle.std.proofs.Common.{refl, sym, ap, ap₂, ◌∙◌}
use Rattle.lexical_grammar.specs.Answers.{Answer}
use Rattle.lexical_grammar.specs.declared.TokenKind.TheVariants as token
use Rattle.document_grammar.specs.Builds.{add_leaf}
use Rattle.document_grammar.specs.declared.kind.SyntaxKind.{SyntaxKind}
use Rattle.parser_rules.proofs.runs.Reading.{Reading, stops, cuts, bad_text, waits, shows, reading, found}
use Rattle.parser_rules.specs.RuleLanguage.{Test, At, Not, Both, holds, Prim, Bump, Note, step, Rule}
use Rattle.parser_rules.specs.Runs.{Runs, skip, does, seq, yes, no, done, again, child, limited, deeper, refused, call}
use Rattle.parser_rules.specs.Runs.{plain, wrapped}
use Rattle.parser_rules.specs.State.{State, Report, read_on, flush, opened, closed, wrapped_from, moved, bump, reported}
use Rattle.parser_rules.specs.State.{noted, note, fault_report, recursion_limit_report, is_deep, deepened, limited_at}
use Rattle.parser_rules.specs.State.{too_deep, enter, leave}
use Rattle.parser_rules.specs.declared.message.Message.{Message}

module _ (n : ℕ) where
  -- the same state, where this number of items may be cut
  abbrev pub allowing : State → State
  allowing state = record state { budget = n }

  read-allowing : {xs : List Answer} {state after : State} → Reading xs state after
      → Reading xs (allowing state) (allowing after)
  read-allowing stops = stops
  read-allowing (cuts this_reading) = cuts (read-allowing this_reading)
  read-allowing (bad_text e this_reading) = bad_text e (read-allowing this_reading)
  read-allowing (waits e i this_reading) = waits e i (read-allowing this_reading)
  read-allowing (shows e i) = shows e i

  pub reads : (xs : List Answer) (state : State) → read_on xs (allowing state) ≡ allowing (read_on xs state)
  reads xs state = (found (read-allowing (reading xs state))).is

  moves : (leaf : SyntaxKind) (state : State) → bump leaf (allowing state) ≡ allowing (bump leaf state)
  unfolding bump flush
  moves leaf state = elim state.current as (λ o. moved leaf (allowing state) o ≡ allowing (moved leaf state o)) [
    | None ↦ refl
    | Some t ↦ let f = flush state in reads f.items (record f { tree = add_leaf leaf t.text f.tree })
  ]

  reports : (report : Report) (state : State) → reported report (allowing state) ≡ allowing (reported report state)
  reports report state = elim state.accepts as
      (λ b. (if b then record (allowing state) { errors = state.errors ++ report ∷ [] } else allowing state)
      ≡ allowing (if b then record state { errors = state.errors ++ report ∷ [] } else state))
      [ true ↦ refl | false ↦ refl ]

  notes : (message : Message) (state : State) → note message (allowing state) ≡ allowing (note message state)
  unfolding note
  notes message state = elim state.current as (λ o. noted message (allowing state) o
      ≡ allowing (noted message state o)) [ None ↦ refl | Some t ↦ reports (fault_report message t) state ]

  limits : (state : State) → too_deep (allowing state) ≡ allowing (too_deep state)
  unfolding too_deep
  limits state = elim state.current as
      (λ o. limited_at (deepened (allowing state)) o ≡ allowing (limited_at (deepened state) o)) [
        | None ↦ refl
        | Some t ↦ ap (λ (z : State). record z { accepts = false })
            (reports (recursion_limit_report t) (deepened state))
      ]

  steps : (primitive : Prim) (state : State) → step primitive (allowing state) ≡ allowing (step primitive state)
  unfolding step
  steps (Bump leaf) state = moves leaf state
  steps (Note message) state = notes message state

  tests : (test : Test) (state : State) → holds test (allowing state) ≡ holds test state
  unfolding holds is_deep
  tests (Not test) state = ap not (tests test state)
  tests (Both test other_test) state = ap₂ (λ (x y : Bool). x && y) (tests test state) (tests other_test state)
  tests _ state = refl

  pub allowed : {rule : Rule} {state after : State} → Runs rule state after
      → Runs rule (allowing state) (allowing after)
  unfolding is_deep flush opened closed enter leave wrapped_from
  allowed skip = skip
  allowed {state = state} (does {primitive = primitive} e) = does (ap allowing e ∙ sym (steps primitive state))
  allowed (seq run second_run) = seq (allowed run) (allowed second_run)
  allowed {state = state} (yes {test = test} e run) = yes (e ∙ sym (tests test state)) (allowed run)
  allowed {state = state} (no {test = test} e run) = no (e ∙ sym (tests test state)) (allowed run)
  allowed {state = state} (done {test = test} e) = done (e ∙ sym (tests test state))
  allowed {state = state} (again {test = test} e run second_run) =
      again (e ∙ sym (tests test state)) (allowed run) (allowed second_run)
  allowed (child e k run) = child (ap allowing e) (ap allowing k) (allowed run)
  allowed (deeper q e k run second_run) = deeper q (ap allowing e) (ap allowing k) (allowed run) (allowed second_run)
  allowed {state = state} (limited q e) = limited q (ap allowing e ∙ sym (limits state))
  allowed {state = state} (refused q e) = refused q (ap allowing e ∙ sym (limits state))
  allowed (call run) = call (allowed run)
  allowed (plain {later = later} e run n) = plain (ap allowing e) (allowed run) (n ∙ sym (tests (At token.Bang) later))
  allowed (wrapped {later = later} e p i c run n second_run) =
      wrapped (ap allowing e) p (ap allowing i) (ap allowing c) (allowed run)
      (n ∙ sym (tests (At token.Bang) later)) (allowed second_run)
