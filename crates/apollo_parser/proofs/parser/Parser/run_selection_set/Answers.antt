use Rattle.std.proofs.Common.{refl, sym, ap, subst, ◌∙◌}
use Rattle.document_grammar.specs.Numbers.{is_kind}
use Rattle.document_grammar.specs.declared.kind.SyntaxKind.TheVariants as kind
use Rattle.parser_rules.proofs.fragments.RootChecks.{selections_pass}
use Rattle.parser_rules.specs.Fragments.{field_set}
use Rattle.parser_rules.specs.Runs.{Runs}
use Rattle.parser_rules.specs.State.{flush}
use Rattle.apollo_parser.proofs.Allowances.{from-started}
use Rattle.apollo_parser.proofs.Parses.{answers}
use Rattle.apollo_parser.proofs.PartRuns.{source-begins, open-root, kind-is, by-root-rule}
use Rattle.apollo_parser.proofs.parser.Parser.run_selection_set.Goals as goal
use Rattle.apollo_parser.specs.ByRules.{ByRootRule}

pub finish-requires : goal.finish-requires
finish-requires g c =
    let k = c.args.self.token_limit in
    let r = c.args.self.recursion_limit in
    let source = c.args.self.source.now in
    let first = c.in_ok-push_pending.ensures.step ∙ ap flush c.in_ok-open.ensures.step in
    let run = from-started (answers k source) r _ kind.SELECTION_SET c.start-p.ensures.unread
    (subst (λ s. Runs field_set s c.field_set.new.p) first c.in_ok-field_set.ensures.runs) in
    record {
      source = source-begins kind.SELECTION_SET k r source run c.drop_pending.ensures.step selections_pass
          c.start-p.ensures.cut;
      open_root = open-root kind.SELECTION_SET k r source run c.drop_pending.ensures.step refl;
    }

pub of-requires : goal.of-requires
of-requires g c =
    let k = c.args.self.token_limit in
    let r = c.args.self.recursion_limit in
    let source = c.args.self.source.now in
    let first = c.in_ok-push_pending.ensures.step ∙ ap flush c.in_ok-open.ensures.step in
    let run = from-started (answers k source) r _ kind.SELECTION_SET c.start-p.ensures.unread
    (subst (λ s. Runs field_set s c.field_set.new.p) first c.in_ok-field_set.ensures.runs) in
    ap (is_kind kind.SELECTION_SET)
    (kind-is kind.SELECTION_SET k r source run c.drop_pending.ensures.step c.in_ok-finished.ensures.tree)

pub returns : goal.returns
returns g c =
    let k = c.args.self.token_limit in
    let r = c.args.self.recursion_limit in
    let source = c.args.self.source.now in
    let first = c.in_ok-push_pending.ensures.step ∙ ap flush c.in_ok-open.ensures.step in
    let run = from-started (answers k source) r _ kind.SELECTION_SET c.start-p.ensures.unread
    (subst (λ s. Runs field_set s c.field_set.new.p) first c.in_ok-field_set.ensures.runs) in
    let start = c.start-p.ensures in
    let e = c.in_ok-finished.ensures in
    subst (ByRootRule kind.SELECTION_SET field_set source r k) (sym c.of.ensures)
    (by-root-rule kind.SELECTION_SET k r source run c.drop_pending.ensures.step start.cut start.characters start.short
    e.tree e.counted e.errors e.recursion_limit e.allowed)
