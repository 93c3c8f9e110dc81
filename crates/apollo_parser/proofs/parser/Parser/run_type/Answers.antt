use Rattle.std.proofs.Common.{◌||◌, ◌∙◌, refl, sym, ap, subst}
use Rattle.document_grammar.specs.Choices.{Types}
use Rattle.document_grammar.specs.Numbers.{is_kind}
use Rattle.document_grammar.specs.declared.kind.SyntaxKind.TheVariants as kind
use Rattle.parser_rules.proofs.fragments.RootChecks.{type_passes, type-free}
use Rattle.parser_rules.proofs.fragments.TypeRoots.{type-run, makes-unopened}
use Rattle.parser_rules.specs.Fragments.{RunsTypeRoot}
use Rattle.parser_rules.specs.State.{State, flush}
use Rattle.apollo_cst_core.specs.Cast.{one_of}
use Rattle.apollo_parser.proofs.Allowances.{from-unopened, not-open}
use Rattle.apollo_parser.proofs.Parses.{answers}
use Rattle.apollo_parser.proofs.PartRuns.{source-begins, open-root, kind-is, by-root-rule}
use Rattle.apollo_parser.proofs.TypeParses.{type-rooted}
use Rattle.apollo_parser.proofs.parser.Parser.run_type.Goals as goal
use Rattle.apollo_parser.specs.ByRules.{ByTypeRule}

pub type_root-requires : goal.type_root-requires
type_root-requires g c =
    record {
      first = c.in_ok-first.ensures.index;
      not_open = not-open _ _ _ c.start-p.ensures.unread c.in_ok-first.ensures.step;
    }

pub finish-requires : goal.finish-requires
finish-requires g c =
    let k = c.args.self.token_limit in
    let r = c.args.self.recursion_limit in
    let source = c.args.self.source.now in
    let made = subst (λ (s : State). RunsTypeRoot (flush s) c.type_root.new.p) c.in_ok-first.ensures.step
    c.in_ok-type_root.ensures.runs in
    let m = type-run (answers k source) r refl (from-unopened (answers k source) r _ c.start-p.ensures.unread made) in
    record {
      source = source-begins m.kind k r source m.run c.drop_pending.ensures.step (type_passes m.is)
          c.start-p.ensures.cut;
      open_root = open-root m.kind k r source m.run c.drop_pending.ensures.step (type-free m.is);
    }

pub of-requires : goal.of-requires
of-requires g c =
    let k = c.args.self.token_limit in
    let r = c.args.self.recursion_limit in
    let source = c.args.self.source.now in
    let made = subst (λ (s : State). RunsTypeRoot (flush s) c.type_root.new.p) c.in_ok-first.ensures.step
    c.in_ok-type_root.ensures.runs in
    let m = type-run (answers k source) r refl (from-unopened (answers k source) r _ c.start-p.ensures.unread made) in
    ap (λ j. one_of Types j || is_kind kind.ERROR j)
    (kind-is m.kind k r source m.run c.drop_pending.ensures.step c.in_ok-finished.ensures.tree) ∙ type-rooted m.is

pub returns : goal.returns
returns g c =
    let k = c.args.self.token_limit in
    let r = c.args.self.recursion_limit in
    let source = c.args.self.source.now in
    let made = subst (λ (s : State). RunsTypeRoot (flush s) c.type_root.new.p) c.in_ok-first.ensures.step
    c.in_ok-type_root.ensures.runs in
    let all = from-unopened (answers k source) r _ c.start-p.ensures.unread made in
    let m = type-run (answers k source) r refl all in
    let start = c.start-p.ensures in
    let e = c.in_ok-finished.ensures in
    subst (ByTypeRule source r k) (sym c.of.ensures) (record {
      kind = m.kind;
      rule = m.rule;
      is = m.is;
      root = by-root-rule m.kind k r source m.run c.drop_pending.ensures.step start.cut start.characters start.short
          e.tree e.counted e.errors e.recursion_limit e.allowed;
      made = makes-unopened (answers k source) r refl all;
    })
