-- A run is the same run, however many items may be cut.
use Rattle.std.proofs.Common.{◌≡◌, ◌∙◌, ℕ, ◌+◌, ◌*◌, ◌≤◌, min, length, List, [], sym, ap, subst, arith}
use Rattle.lexical_grammar.specs.Answers.{Answer, limited}
use Rattle.lexical_grammar.specs.Reads.{items_of}
use Rattle.document_grammar.specs.Builds.{built_count}
use Rattle.document_grammar.specs.declared.kind.SyntaxKind.{SyntaxKind}
use Rattle.document_grammar.specs.declared.kind.SyntaxKind.TheVariants as kind
use Rattle.parser_rules.proofs.fragments.TypeRoots.{unopened-none}
use Rattle.parser_rules.proofs.runs.Budget.{allowing, reads, allowed}
use Rattle.parser_rules.specs.Fragments.{started, unopened, ClosesType, nullable, non_null, RunsTypeRoot, makes_list}
use Rattle.parser_rules.specs.Fragments.{makes_name, makes_none}
use Rattle.parser_rules.specs.RuleLanguage.{Rule, holds}
use Rattle.parser_rules.specs.Runs.{Runs}
use Rattle.parser_rules.specs.State.{State, fresh, begun, read_on, flush, closed, wrapped_from}
use Rattle.apollo_lexer.proofs.Law.{limited-length}
use Rattle.parser_state.specs.Reading.{unread, rooted}

-- the same state, where none may be cut
abbrev pub none : State → State
none t = allowing 0 t

module _ (xs : List Answer) (r n : ℕ) where
  -- from a root that is opened where nothing is read
  pub from-root : (k : SyntaxKind) {rule : Rule} {s t : State} → s ≡ unread xs r n → Runs rule (rooted k s) t
      → Runs rule (begun xs r k) (none t)
  from-root k {rule = rule} {t = t} e h =
      let run : Runs rule (rooted k (unread xs r n)) t = subst (λ (z : State). Runs rule (rooted k z) t) e h in
      let ran : Runs rule (allowing n (begun xs r k)) t =
      subst (λ (z : State). Runs rule z t) (reads n xs (fresh xs r k)) run in
      subst (λ (z : State). Runs rule z (none t)) (sym (reads 0 xs (fresh xs r k))) (allowed 0 ran)

  -- the same, where what comes before the first token is taken in
  pub from-started : (k : SyntaxKind) {rule : Rule} {s t : State} → s ≡ unread xs r n → Runs rule (flush (rooted k s)) t
      → Runs rule (started xs r k) (none t)
  unfolding flush
  from-started k {rule = rule} {t = t} e h =
      let run : Runs rule (flush (rooted k (unread xs r n))) t =
      subst (λ (z : State). Runs rule (flush (rooted k z)) t) e h in
      let ran : Runs rule (allowing n (started xs r k)) t =
      subst (λ (z : State). Runs rule (flush z) t) (reads n xs (fresh xs r k)) run in
      subst (λ (z : State). Runs rule (flush z) (none t)) (sym (reads 0 xs (fresh xs r k))) (allowed 0 ran)

  closes-allowed : (m index : ℕ) (k : SyntaxKind) {s t : State} → ClosesType index k s t
      → ClosesType index k (allowing m s) (allowing m t)
  unfolding holds closed wrapped_from
  closes-allowed m index k (nullable b a) = nullable b (ap (allowing m) a)
  closes-allowed m index k (non_null b run a) = non_null b (allowed m run) (ap (allowing m) a)

  made-allowed : (m : ℕ) {s t : State} → RunsTypeRoot s t → RunsTypeRoot (allowing m s) (allowing m t)
  unfolding holds wrapped_from
  made-allowed m {s = s} (makes_list b run close) =
      makes_list b (allowed m run) (closes-allowed m (built_count s.tree) kind.LIST_TYPE close)
  made-allowed m {s = s} (makes_name b n run close) =
      makes_name b n (allowed m run) (closes-allowed m (built_count s.tree) kind.NAMED_TYPE close)
  made-allowed m (makes_none n run a) = makes_none n (allowed m run) (ap (allowing m) a)

  -- a type, whose root opens last
  pub from-unopened : {s t : State} → s ≡ unread xs r n → RunsTypeRoot (flush (flush (read_on s.items s))) t
      → RunsTypeRoot (flush (unopened xs r)) (none t)
  unfolding flush
  from-unopened {t = t} e h =
      let made : RunsTypeRoot (flush (flush (read_on xs (unread xs r n)))) t =
      subst (λ (z : State). RunsTypeRoot (flush (flush (read_on z.items z))) t) e h in
      let start : State = unread xs r 0 in
      let from : RunsTypeRoot (allowing n (flush (unopened xs r))) t =
      subst (λ (z : State). RunsTypeRoot (flush (flush z)) t) (reads n xs start) made in
      subst (λ (z : State). RunsTypeRoot (flush (flush z)) (none t)) (sym (reads 0 xs start)) (made-allowed 0 from)

  pub not-open : {s u : State} → s ≡ unread xs r n → u ≡ flush (read_on s.items s) → u.tree.above ≡ []
  unfolding flush
  not-open e f = ap (λ (z : State). z.tree.above) f ∙ ap (λ (z : State). (flush (read_on z.items z)).tree.above) e
      ∙ ap (λ (z : State). (flush z).tree.above) (reads n xs (unread xs r 0)) ∙ unopened-none xs r

-- from the count before a parse no more are cut than twice the items, and twice the limit
pub twice : (k r : ℕ) (source : List ℕ) {before old budget c : ℕ} {start : State} → before ≡ old
    → start ≡ unread (limited k (items_of source)) r (before + 2 * min (length (limited k (items_of source))) k)
    → budget ≡ start.budget → c ≤ budget → c ≤ old + 2 * min (length (items_of source)) k
twice k r source e a b c =
    let l = limited-length k (items_of source) in
    let all = ap (λ (s : State). s.budget) a in
    omega (arith, e, l, all, b, c)
