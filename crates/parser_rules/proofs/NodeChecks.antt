-- Each node's rule, checked by computing: the one place where a wrong rule fails. What is refused there is named with
-- its node.
use Rattle.std.proofs.Common.{◌≡◌, ℕ, ◌*◌, zero, suc, Bool, true, false, cond, List, [], ◌∷◌, refl}
use Rattle.document_grammar.proofs.Nested.{weight}
use Rattle.document_grammar.specs.Booleans.{◌and◌, ◌or◌}
use Rattle.document_grammar.specs.Kinds.{DOCUMENT}
use Rattle.document_grammar.specs.Pattern.{member}
use Rattle.document_grammar.specs.Rows.{Row}
use Rattle.document_grammar.specs.declared.kind.SyntaxKind.TheVariants as kind
use Rattle.grammar_machine.proofs.Checks.{exits, row_of}
use Rattle.grammar_machine.proofs.Patterns.{label}
use Rattle.grammar_machine.proofs.Sound.{any}
use Rattle.grammar_machine.proofs.Steps.{goes, closes, sticks}
use Rattle.grammar_machine.proofs.generated.Labels.{labels}
use Rattle.grammar_machine.specs.Machine.{is_leaf, at, ends, exit, arcs, target, entries}
use Rattle.grammar_machine.specs.Table.{rows, firsts}
use Rattle.parser_rules.proofs.leaves.LeafCheck.{belongs, anything, leaf_check}
use Rattle.parser_rules.proofs.lookahead.FirstSets.{first_of, first_in, second_of, looks, inlined}
use Rattle.parser_rules.proofs.lookahead.Split.{split, divide}
use Rattle.parser_rules.proofs.nesting.LevelCheck.{at_first, level_check}
use Rattle.parser_rules.proofs.nesting.TokenCheck.{untaken, token_check}
use Rattle.parser_rules.proofs.recovery.RecoveryCheck.{pop_check, row_check, tidy_check, of_row, leaf_of_row, unknown}
use Rattle.parser_rules.proofs.recovery.RecoveryCheck.{any_token}
use Rattle.parser_rules.proofs.reports.LimitCheck.{unknown as unknown_token, limit_check}
use Rattle.parser_rules.proofs.runs.Fuel.{rules_deep, rules_deep_for_sizes}
use Rattle.parser_rules.proofs.runs.Progress.{consuming}
use Rattle.parser_rules.proofs.runs.Walk.{walk, checks, checks_with, always}
use Rattle.parser_rules.proofs.sizes.SizeCheck.{walk as size_walk, saved, pays_for_itself, root_pays, PaysForAll}
use Rattle.parser_rules.proofs.sizes.SizeCheck.{element_rates, report_rates}
use Rattle.parser_rules.proofs.soundness.TableCheck.{counts_itself, covered, turns, levels_agree, leaf_of}
use Rattle.parser_rules.proofs.soundness.TableCheck.{may_be_cut_off, may_lack_block, exit_is_right, takes_token}
use Rattle.parser_rules.proofs.soundness.TableCheck.{ends_at, after_inlined, child_begins, child_while_stuck, child_at}
use Rattle.parser_rules.proofs.soundness.TableCheck.{may_report_limit, enters_level, after_type, type_at, may_report}
use Rattle.parser_rules.proofs.soundness.TableCheck.{is_node, keeps_to_table, node_may_end, follows_table}
use Rattle.parser_rules.proofs.soundness.TableCheck.{document_may_end, part_may_end, document_follows, turns_follow}
use Rattle.parser_rules.specs.Nodes.{Node, Arguments, Argument, Directives, Directive, ListValue, ObjectValue}
use Rattle.parser_rules.specs.Nodes.{ObjectField, symbol, Document, Definition}
use Rattle.parser_rules.specs.RuleLanguage.{Rule, Seq, When, While, Nested, Typed, Call, Ready}
use Rattle.parser_rules.specs.Rules.{inside, body}
use Rattle.parser_rules.specs.declared.constness.Constness.TheVariants.{Const, NotConst}

-- what can be wrong with a rule
data Fault : Type 0 where
  -- the checks look no deeper than `rules_deep` rules that call one another, or `rules_deep_for_sizes`, and this one
  -- goes deeper
  TooManyRulesDeep : Fault
  -- it takes or reports a token where the machine does otherwise
  AgainstTheTable : Fault
  -- a token becomes a leaf of another kind
  WrongLeaf : Fault
  -- a level of nesting is not entered, or not left
  WrongLevel : Fault
  -- a level is entered where no token is certain
  UncertainToken : Fault
  -- a level is entered, and no token was taken inside the level around it
  LevelWithoutToken : Fault
  -- it makes an ERROR leaf of a token without a report, or of too many
  WrongErrorLeaf : Fault
  -- a symbol that is not of the node's row
  ForeignSymbol : Fault
  -- a token becomes an ignored leaf
  IgnoredToken : Fault
  -- it adds more elements than its items pay for
  TooManyElements : Fault
  -- it makes more reports than its items pay for
  TooManyReports : Fault

abbrev unless : Bool → Fault → List Fault → List Fault
unless b fault more = cond b more (fault ∷ more)

-- the faults that the checks find, with so much fuel, and so much for the check of sizes
unfoldable faults_with : ℕ → ℕ → Node → List Fault
faults_with fuel size_fuel node =
    unless (follows_table fuel node) AgainstTheTable
    (unless (checks_with fuel leaf_check node) WrongLeaf
    (unless (checks_with fuel level_check node) WrongLevel
    (unless (checks_with fuel limit_check node) UncertainToken
    (unless (checks_with fuel token_check node) LevelWithoutToken
    (unless (checks_with fuel pop_check node) WrongErrorLeaf
    (unless (checks_with fuel row_check node) ForeignSymbol
    (unless (checks_with fuel tidy_check node) IgnoredToken
    (unless (pays_for_itself size_fuel element_rates node) TooManyElements
    (unless (pays_for_itself size_fuel report_rates node) TooManyReports [])))))))))

-- The rules that this one calls, and that these call, are no deeper than this number. Children are not looked into.
unfoldable calls_end : ℕ → Rule → Bool
calls_end n (Seq rule other_rule) = calls_end n rule and calls_end n other_rule
calls_end n (When test rule other_rule) = calls_end n rule and calls_end n other_rule
calls_end n (While test rule) = calls_end n rule
calls_end n (Nested rule other_rule) = calls_end n rule and calls_end n other_rule
calls_end n (Typed rule) = calls_end n rule
calls_end zero (Call part) = false
calls_end (suc n) (Call part) = calls_end n (body part)
calls_end n _ = true

-- what is at fault, where some faults were found with the fuel that there is, and these with more
abbrev blamed : List Fault → Bool → List Fault → List Fault
blamed found true (fault ∷ more) = found
blamed found _ _ = TooManyRulesDeep ∷ []

-- The faults of a node's rule. A check fails too where its fuel runs out. So where faults are found, they are looked
-- for with twice as much.
unfoldable faults : Node → List Fault
faults node = elim (faults_with rules_deep rules_deep_for_sizes node) [
  | [] ↦ []
  | fault ∷ more ↦ blamed (fault ∷ more) (calls_end (2 * rules_deep) (inside node))
      (faults_with (2 * rules_deep) (2 * rules_deep_for_sizes) node)
]

-- all that the checks compute with
unfoldable pub computing : Unit {0}
unfolding ◌and◌ ◌or◌ is_leaf at ends exit arcs target entries rows firsts goes closes sticks label labels member Row
    symbol consuming split divide first_of
    first_in second_of looks inlined counts_itself covered turns levels_agree leaf_of may_be_cut_off may_lack_block
    exit_is_right exits row_of takes_token
    ends_at after_inlined child_begins child_while_stuck child_at may_report_limit enters_level after_type type_at
    may_report is_node keeps_to_table
    node_may_end document_may_end part_may_end belongs leaf_check weight walk pop_check row_check tidy_check of_row
    leaf_of_row follows_table level_check
    limit_check token_check document_follows turns_follow size_walk saved pays_for_itself root_pays
computing = tt

-- No node's rule is at fault. A node with a place is looked at in both.
no-faults : (node : Node) → faults node ≡ []
unfolding computing faults faults_with calls_end
no-faults (Arguments Const) = refl
no-faults (Arguments NotConst) = refl
no-faults (Argument Const) = refl
no-faults (Argument NotConst) = refl
no-faults (Directives Const) = refl
no-faults (Directives NotConst) = refl
no-faults (Directive Const) = refl
no-faults (Directive NotConst) = refl
no-faults (ListValue Const) = refl
no-faults (ListValue NotConst) = refl
no-faults (ObjectValue Const) = refl
no-faults (ObjectValue NotConst) = refl
no-faults (ObjectField Const) = refl
no-faults (ObjectField NotConst) = refl
no-faults _ = refl

-- ---- what that says, check by check

no-fault : (b : Bool) (fault : Fault) (more : List Fault) → unless b fault more ≡ [] → (b ≡ true) × (more ≡ [])
no-fault true fault more h = (refl, h)
no-fault false fault more h = absurd (cc)

pub record SoundRule (node : Node) : Type 0 where
  pub table : follows_table rules_deep node ≡ true
  pub leaves : checks leaf_check node ≡ true
  pub levels : checks level_check node ≡ true
  pub limits : checks limit_check node ≡ true
  pub tokens : checks token_check node ≡ true
  pub errors : checks pop_check node ≡ true
  pub row : checks row_check node ≡ true
  pub ignored : checks tidy_check node ≡ true
  pub elements : pays_for_itself rules_deep_for_sizes element_rates node ≡ true
  pub reports : pays_for_itself rules_deep_for_sizes report_rates node ≡ true

none-found : (found other : List Fault) (end : Bool)
    → ◌≡◌ {A = List Fault} (elim found [ [] ↦ [] | fault ∷ more ↦ blamed (fault ∷ more) end other ]) []
    → found ≡ []
none-found [] other end h = refl
none-found (fault ∷ more) [] true h = absurd cc
none-found (fault ∷ more) (x ∷ xs) true h = h
none-found (fault ∷ more) other false h = absurd cc

found-none : (node : Node) → faults_with rules_deep rules_deep_for_sizes node ≡ []
unfolding faults
found-none node = none-found (faults_with rules_deep rules_deep_for_sizes node)
    (faults_with (2 * rules_deep) (2 * rules_deep_for_sizes) node)
    (calls_end (2 * rules_deep) (inside node)) (no-faults node)

pub node-passes : (node : Node) → SoundRule node
unfolding faults_with
node-passes node =
    let a = no-fault _ _ _ (found-none node) in
    let b = no-fault _ _ _ a.1 in
    let d = no-fault _ _ _ b.1 in
    let e = no-fault _ _ _ d.1 in
    let f = no-fault _ _ _ e.1 in
    let g = no-fault _ _ _ f.1 in
    let h = no-fault _ _ _ g.1 in
    let i = no-fault _ _ _ h.1 in
    let j = no-fault _ _ _ i.1 in
    let k = no-fault _ _ _ j.1 in
    record {
      table = a.0;
      leaves = b.0;
      levels = d.0;
      limits = e.0;
      tokens = f.0;
      errors = g.0;
      row = h.0;
      ignored = i.0;
      elements = j.0;
      reports = k.0;
    }

document-elements : root_pays element_rates any (Call Document) ≡ true
unfolding computing
document-elements = refl

document-reports : root_pays report_rates any (Call Document) ≡ true
unfolding computing
document-reports = refl

-- The document's rule passes each check, and so does its loop from any turn on.
pub record DocumentRule : Type 0 where
  pub table : document_follows (Call Document) ≡ true
  pub turns : turns_follow (While Ready (Call Definition)) ≡ true
  pub leaves : walk leaf_check rules_deep (Call Document) anything always ≡ true
  pub levels : walk level_check rules_deep (Call Document) (at_first DOCUMENT) (level_check.ends kind.DOCUMENT) ≡ true
  pub limits : walk limit_check rules_deep (Call Document) unknown_token always ≡ true
  pub tokens : walk token_check rules_deep (Call Document) (untaken false) always ≡ true
  pub errors : walk pop_check rules_deep (Call Document) (unknown any_token) always ≡ true
  pub row : walk row_check rules_deep (Call Document) (record { own = DOCUMENT; later = DOCUMENT })
      (row_check.ends kind.DOCUMENT) ≡ true
  pub ignored : walk tidy_check rules_deep (Call Document) false always ≡ true
  pub sizes : PaysForAll any (Call Document)

pub document_passes : DocumentRule
unfolding computing
document_passes = record {
  table = refl;
  turns = refl;
  leaves = refl;
  levels = refl;
  limits = refl;
  tokens = refl;
  errors = refl;
  row = refl;
  ignored = refl;
  sizes = record { elements = document-elements; reports = document-reports };
}
