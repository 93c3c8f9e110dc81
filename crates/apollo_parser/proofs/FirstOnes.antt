-- What the first error of a parse means, of a document or of a part of one: it says the first report, which is right.
use Rattle.std.proofs.Common.{◌≡◌, ◌≢◌, ℕ, List, [], ◌∷◌, ◌++◌, refl, sym, ap, ◌∙◌, subst}
use Rattle.std.specs.List.{AllZip}
use Rattle.lexical_grammar.specs.Answers.{limited}
use Rattle.lexical_grammar.specs.Cut.{Cut, Item}
use Rattle.document_grammar.specs.Derivation.{Sort}
use Rattle.document_grammar.specs.FirstError.{NotLate, NotEarly, NotEarlyLimit, EndedNodesFit}
use Rattle.document_grammar.specs.Forests.{Forest}
use Rattle.document_grammar.specs.Leaves.{Leaf, leaves, OneLeafAnItem}
use Rattle.document_grammar.specs.Numbered.{tree_of}
use Rattle.parser_rules.proofs.soundness.EndedNodes.{ended-nodes}
use Rattle.parser_rules.proofs.soundness.FirstErrors.{not-late as report-not-late, not-early as report-not-early}
use Rattle.parser_rules.proofs.soundness.FirstErrors.{not-early-limit as report-not-early-limit}
use Rattle.parser_rules.proofs.soundness.OverTexts.{RightFirst}
use Rattle.parser_rules.specs.State.{Report}
use Rattle.apollo_lexer.specs.Diagnostics.{Diagnostic, of_limit}
use Rattle.parser_state.specs.Errors.{IsErrorOf}
use Rattle.parser_state.specs.Found.{found_of}
use Rattle.apollo_parser.proofs.Errors.{no-recursion, subject-limit, token-limit-error}
use Rattle.apollo_parser.specs.Parsed.{IsRecursionLimit, IsTokenLimit, OfFirst}

module _ (sort : Sort) {source : List ℕ} {items : List Item} (max_depth max_items : ℕ) (f : Forest)
    (cut : Cut source items) (rs : List Report)
    (ds : List Diagnostic) (said : AllZip IsErrorOf rs ds)
    (right : (e : Report) (more : List Report) → rs ≡ e ∷ more
    → RightFirst sort source items max_depth max_items f e) where
  -- what holds of the error that says the first report
  of-first : (P : Diagnostic → Type 0)
      → ((e : Report) (d : Diagnostic) → IsErrorOf e d → RightFirst sort source items max_depth max_items f e → P d)
      → OfFirst P ds
  of-first P h = on rs ds refl said
    where
      on : (es : List Report) (ds : List Diagnostic) → rs ≡ es → AllZip IsErrorOf es ds → OfFirst P ds
      on es [] same z = tt
      on [] (d ∷ ds) same z = absurd z
      on (first ∷ es) (d ∷ ds) same z = h first d z.0 (right first es same)

  pub not_late : OfFirst (λ e. (IsTokenLimit e → ⊥) → NotLate sort source e.index) ds
  not_late = of-first (λ d. (IsTokenLimit d → ⊥) → NotLate sort source d.index)
      (λ e d z i n. subst (NotLate sort source) (sym z.index)
      (report-not-late cut i.0 (λ m j. n (token-limit-error m e d j z))))

  pub not_early : OfFirst (λ e. e.subject ≢ of_limit → NotEarly sort max_items items e.index) ds
  not_early = of-first (λ d. d.subject ≢ of_limit → NotEarly sort max_items items d.index)
      (λ e d z i n. subst (NotEarly sort max_items items) (sym z.index)
      (report-not-early cut i.0 (λ j. n (subject-limit d (z.subject ∙ j)))))

  pub not_early_limit : OfFirst (λ e. IsRecursionLimit e → NotEarlyLimit sort max_depth items e.index) ds
  not_early_limit = of-first (λ d. IsRecursionLimit d → NotEarlyLimit sort max_depth items d.index)
      (λ e d z i n. subst (NotEarlyLimit sort max_depth items) (sym z.index)
      (report-not-early-limit cut i.0 (sym z.subject ∙ ap found_of n.subject) (λ m j. no-recursion m e d j z n)))

  -- the tree's leaves are of the first answers
  pub ended_nodes_fit : (back : List Leaf) → OneLeafAnItem (limited max_items items) (leaves f ++ back)
      → OfFirst (λ e. EndedNodesFit items e.index (tree_of f)) ds
  ended_nodes_fit back all =
      of-first (λ d. EndedNodesFit items d.index (tree_of f))
      (λ e d z i. rw z.index (ended-nodes f back cut i.0 all i.1))
