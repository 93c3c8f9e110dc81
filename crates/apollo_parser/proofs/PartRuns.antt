-- A part of a document that is parsed by itself: the rule of its root ran, and what waited at the end was left out.
use Rattle.std.proofs.Common.{◌≡◌, ◌∙◌, ℕ, ◌^◌, ◌<◌, ◌≤◌, true, List, length, take, sym, ap, subst}
use Rattle.std.specs.List.{AllZip}
use Rattle.std.specs.Str.{IsUtf8}
use Rattle.lexical_grammar.specs.Cut.{Cut}
use Rattle.lexical_grammar.specs.Reads.{items_of}
use Rattle.document_grammar.specs.Forests.{Forest, text, count}
use Rattle.document_grammar.specs.declared.kind.SyntaxKind.{SyntaxKind}
use Rattle.parser_rules.proofs.fragments.RootChecks.{RootRule}
use Rattle.parser_rules.proofs.fragments.RootRuns.{is-root}
use Rattle.parser_rules.specs.Fragments.{started, left_out}
use Rattle.parser_rules.specs.Open.{is_free, IsRoot}
use Rattle.parser_rules.specs.RuleLanguage.{Rule}
use Rattle.parser_rules.specs.Runs.{Runs}
use Rattle.parser_rules.specs.State.{State, finished}
use Rattle.parser_state.specs.Errors.{IsErrorOf}
use Rattle.apollo_parser.proofs.Allowances.{none}
use Rattle.apollo_parser.proofs.Parses.{answers}
use Rattle.apollo_parser.proofs.RootParses.{root-is, root-begins}
use Rattle.apollo_parser.specs.ByRules.{ByRootRule}
use Rattle.apollo_parser.specs.Parsed.{Parsed}
use Rattle.apollo_parser.specs.Roots.{root_kind}

module _ (j : SyntaxKind) {q : Rule} (k r : ℕ) (source : List ℕ) {last end : State}
    (run : Runs q (started (answers k source) r j) (none last)) (left : end ≡ left_out last) where
  pub source-begins : RootRule j q → Cut source (items_of source)
      → take (length (text (finished end))) source ≡ text (finished end)
  source-begins passes cut =
      subst (λ (s : State). take (length (text (finished s))) source ≡ text (finished s)) (sym left)
      (root-begins j k r source (none last) run passes cut)

  pub open-root : is_free j ≡ true → IsRoot end.tree
  open-root free = subst (λ (s : State). IsRoot s.tree) (sym left) (is-root (answers k source) r j run free)

  pub kind-is : {tree : Forest} → tree ≡ finished end → root_kind tree ≡ j
  kind-is e = ap root_kind (e ∙ ap finished left ∙ root-is j k r source (none last) run)

  -- its last state is looked at (`made` of `ByTypeRule`)
  abbrev pub by-root-rule : {t : Parsed} → Cut source (items_of source) → IsUtf8 source → length source < 2 ^ 63
      → t.tree ≡ finished end → count t.tree < 2 ^ 64 → AllZip IsErrorOf end.errors t.errors
      → t.recursion_limit ≡ record { current = end.depth; high = end.high; limit = end.limit }
      → (t.token_limit.current ≡ 0) × (t.token_limit.limit ≡ k) × (t.token_limit.high ≤ end.asked)
      → ByRootRule j q source r k t
  by-root-rule {t = t} cut characters short tree counted errors recursion_limit token_limit = record {
    last = none last;
    cut = cut;
    characters = characters;
    short = short;
    run = run;
    tree = tree ∙ ap finished left;
    counted = counted;
    errors = subst (λ (s : State). AllZip IsErrorOf s.errors t.errors) left errors;
    recursion_limit = recursion_limit
        ∙ ap (λ (s : State). record { current = s.depth; high = s.high; limit = s.limit }) left;
    token_limit = (
      token_limit.0,
      token_limit.1,
      subst (λ (n : ℕ). t.token_limit.high ≤ n) (ap (λ (s : State). s.asked) left) token_limit.2,
    );
  }
