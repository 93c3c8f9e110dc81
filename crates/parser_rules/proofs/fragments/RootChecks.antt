-- The rules of the roots of fragment parses pass the checks.
use Rattle.std.proofs.Common.{◌≡◌, ◌^◌, true, false, eqb, leb, refl}
use Rattle.std.specs.Prelude.{ℕ}
use Rattle.lexical_grammar.specs.declared.TokenKind.TheVariants as token
use Rattle.document_grammar.proofs.Nested.{weight}
use Rattle.document_grammar.specs.Booleans.{◌and◌}
use Rattle.document_grammar.specs.Kinds.{DOCUMENT}
use Rattle.document_grammar.specs.Kinds.{SELECTION_SET}
use Rattle.document_grammar.specs.Numbers.{number}
use Rattle.document_grammar.specs.declared.kind.SyntaxKind.{SyntaxKind}
use Rattle.document_grammar.specs.declared.kind.SyntaxKind.TheVariants as kind
use Rattle.grammar_machine.proofs.Sound.{any}
use Rattle.grammar_machine.specs.Symbols.{TYPE, BARE_SELECTIONS}
use Rattle.parser_rules.proofs.NodeChecks.{computing}
use Rattle.parser_rules.proofs.leaves.LeafCheck.{anything, leaf_check}
use Rattle.parser_rules.proofs.lookahead.Split.{at_root_start}
use Rattle.parser_rules.proofs.lookahead.TokenSets.{kind_set, absent, present as a_token}
use Rattle.parser_rules.proofs.nesting.LevelCheck.{at_first, level_check}
use Rattle.parser_rules.proofs.nesting.TokenCheck.{untaken, token_check}
use Rattle.parser_rules.proofs.recovery.RecoveryCheck.{row_check, row_of}
use Rattle.parser_rules.proofs.reports.LimitCheck.{present, limit_check}
use Rattle.parser_rules.proofs.runs.Fuel.{rules_deep}
use Rattle.parser_rules.proofs.runs.Walk.{walk, always}
use Rattle.parser_rules.proofs.sizes.SizeCheck.{PaysForAll}
use Rattle.parser_rules.proofs.soundness.TableCheck.{Then, counts_itself, no_brace, part_may_end, keeps_to_table}
use Rattle.parser_rules.specs.Fragments.{field_set, list_root, named_root, non_null_root, no_type_root, IsTypeRoot}
use Rattle.parser_rules.specs.Fragments.{a_list, a_name, not_null, no_type}
use Rattle.parser_rules.specs.Open.{is_free}
use Rattle.parser_rules.specs.RuleLanguage.{Here, At, Ready, Bump, Rule, Skip, Do, When, While, ◌>◌}
use Rattle.parser_rules.specs.Rules.{type_start, nullable_type}
use Rattle.parser_rules.specs.State.{State}

-- a rule of an open root of the kind passes each check
pub record RootRule (this_kind : SyntaxKind) (rule : Rule) : Type 0 where
  pub leaves : walk leaf_check rules_deep rule anything always ≡ true
  pub levels : walk level_check rules_deep rule (at_first (number this_kind)) (level_check.ends this_kind) ≡ true
  -- the kind's own level is all that the root counts
  pub heavy : eqb (weight DOCUMENT (number this_kind)) (counts_itself (number this_kind))
      and leb (counts_itself (number this_kind)) 1 ≡ true
  pub limits : walk limit_check rules_deep rule present always ≡ true
  pub tokens : walk token_check rules_deep rule (record (untaken false) { spare = 1 }) always ≡ true
  pub row : walk row_check rules_deep rule (row_of this_kind) (row_check.ends this_kind) ≡ true

pub selections_pass : RootRule kind.SELECTION_SET field_set
unfolding computing
selections_pass = record { leaves = refl; levels = refl; heavy = refl; limits = refl; tokens = refl; row = refl }

pub list_passes : RootRule kind.LIST_TYPE list_root
unfolding computing
list_passes = record { leaves = refl; levels = refl; heavy = refl; limits = refl; tokens = refl; row = refl }

pub named_passes : RootRule kind.NAMED_TYPE named_root
unfolding computing
named_passes = record { leaves = refl; levels = refl; heavy = refl; limits = refl; tokens = refl; row = refl }

pub non_null_passes : RootRule kind.NON_NULL_TYPE non_null_root
unfolding computing
non_null_passes = record { leaves = refl; levels = refl; heavy = refl; limits = refl; tokens = refl; row = refl }

pub no_type_passes : RootRule kind.ERROR no_type_root
unfolding computing
no_type_passes = record { leaves = refl; levels = refl; heavy = refl; limits = refl; tokens = refl; row = refl }

pub type_passes : {state : State} {this_kind : SyntaxKind} {rule : Rule} → IsTypeRoot state this_kind rule
    → RootRule this_kind rule
type_passes (a_list e) = list_passes
type_passes (a_name e) = named_passes
type_passes (not_null e) = non_null_passes
type_passes (no_type e) = no_type_passes

pub type-free : {state : State} {this_kind : SyntaxKind} {rule : Rule} → IsTypeRoot state this_kind rule
    → is_free this_kind ≡ true
type-free (a_list e) = refl
type-free (a_name e) = refl
type-free (not_null e) = refl
type-free (no_type e) = refl

-- a rule of a root of the symbol keeps to the machine, where the class of the first token is in the set
abbrev pub follows_part : ℕ → ℕ → Rule → Type 0
follows_part s x rule = keeps_to_table rules_deep s at_root_start x any rule (part_may_end s) ≡ true

-- a type where no root is open
abbrev pub type_rule : Rule
type_rule = When (Here type_start) (nullable_type > When (At token.Bang) (Do (Bump kind.BANG)) Skip) no_type_root

-- what comes where there is no type: nothing follows the other branch, which does not end
abbrev pub absent_rule : Rule
absent_rule = When (Here type_start) (While Ready Skip) no_type_root

abbrev pub never : Then
never p x y = false

pub type_follows : follows_part TYPE any type_rule
    × (keeps_to_table rules_deep TYPE at_root_start any any absent_rule never ≡ true)
unfolding computing
type_follows = (refl, refl)

-- with braces and without
pub selections_follow : follows_part SELECTION_SET (kind_set token.LCurly) field_set
    × follows_part BARE_SELECTIONS no_brace field_set
unfolding computing
selections_follow = (refl, refl)

-- a root's rule pays for its elements and its reports, where no token is at first and where one is
pub record PaidRoot (rule : Rule) : Type 0 where
  pub none : PaysForAll (2 ^ absent) rule
  pub some : PaysForAll a_token rule

pub selections_paid : PaidRoot field_set
unfolding computing
selections_paid = record {
  none = record { elements = refl; reports = refl };
  some = record { elements = refl; reports = refl };
}

pub list_paid : PaidRoot list_root
unfolding computing
list_paid = record {
  none = record { elements = refl; reports = refl };
  some = record { elements = refl; reports = refl };
}

pub named_paid : PaidRoot named_root
unfolding computing
named_paid = record {
  none = record { elements = refl; reports = refl };
  some = record { elements = refl; reports = refl };
}

-- it runs only where a type starts
pub non_null_paid : PaidRoot (When (Here type_start) non_null_root Skip)
unfolding computing
non_null_paid = record {
  none = record { elements = refl; reports = refl };
  some = record { elements = refl; reports = refl };
}

pub no_type_paid : PaidRoot no_type_root
unfolding computing
no_type_paid = record {
  none = record { elements = refl; reports = refl };
  some = record { elements = refl; reports = refl };
}
