use Rattle.std.proofs.Common.{refl, sym, ap, subst, ◌∙◌}
use Rattle.document_grammar.specs.Numbers.{is_kind}
use Rattle.document_grammar.specs.declared.kind.SyntaxKind.TheVariants as kind
use Rattle.parser_rules.proofs.runs.Frame.{root-kept, root-stays}
use Rattle.apollo_parser.proofs.Allowances.{none, from-root, twice}
use Rattle.apollo_parser.proofs.Parses.{answers, run-read, run-begins}
use Rattle.apollo_parser.proofs.Roots.{finished-node}
use Rattle.apollo_parser.proofs.parser.Parser.run_document.Goals as goal
use Rattle.apollo_parser.specs.ByRules.{ByRules}
use Rattle.apollo_parser.specs.Roots.{root_kind}

pub finish-requires : goal.finish-requires
finish-requires g c =
    let k = c.args.self.token_limit in
    let r = c.args.self.recursion_limit in
    let source = c.args.self.source.now in
    let run = from-root (answers k source) r _ kind.DOCUMENT c.start-p.ensures.unread
    (rw c.in_default.is at c.read_document.ensures.runs) in
    record {
      source = run-begins k r source (none c.read_document.new.p) c.start-p.ensures.cut run;
      open_root = root-kept (answers k source) r kind.DOCUMENT refl run;
    }

pub of-requires : goal.of-requires
of-requires g c =
    let k = c.args.self.token_limit in
    let r = c.args.self.recursion_limit in
    let source = c.args.self.source.now in
    let run = from-root (answers k source) r _ kind.DOCUMENT c.start-p.ensures.unread
    (rw c.in_default.is at c.read_document.ensures.runs) in
    let one = finished-node (none c.read_document.new.p) kind.DOCUMENT
    (root-stays (answers k source) r kind.DOCUMENT run) in
    ap (λ f. is_kind kind.DOCUMENT (root_kind f)) (c.in_ok-finished.ensures.tree ∙ one)

pub returns-clause-run : goal.returns-clause-run
returns-clause-run g c =
    let k = c.args.self.token_limit in
    let r = c.args.self.recursion_limit in
    let source = c.args.self.source.now in
    let run = from-root (answers k source) r _ kind.DOCUMENT c.start-p.ensures.unread
    (rw c.in_default.is at c.read_document.ensures.runs) in
    subst (ByRules source r k) (sym c.of.ensures) (record {
      last = none c.read_document.new.p;
      cut = c.start-p.ensures.cut;
      characters = c.start-p.ensures.characters;
      short = c.start-p.ensures.short;
      run = run;
      tree = c.in_ok-finished.ensures.tree;
      counted = c.in_ok-finished.ensures.counted;
      errors = c.in_ok-finished.ensures.errors;
      recursion_limit = c.in_ok-finished.ensures.recursion_limit;
      token_limit = c.in_ok-finished.ensures.token_limit
          (run-read k r source (none c.read_document.new.p) c.start-p.ensures.cut run);
    })

pub returns-in-Err-clause-lookahead : goal.returns-in-Err-clause-lookahead
returns-in-Err-clause-lookahead g c =
    twice _ _ _ (ap (λ s. s.value) c.replace-before.ensures.value) c.start-p.ensures.unread
    c.read_document.ensures.budget c.into_steps.ensures

pub returns-in_err-finished-clause-lookahead : goal.returns-in_err-finished-clause-lookahead
returns-in_err-finished-clause-lookahead g c =
    twice _ _ _ (ap (λ s. s.value) c.replace-before.ensures.value) c.start-p.ensures.unread
    c.read_document.ensures.budget c.finish.ensures.steps

pub returns-clause-lookahead : goal.returns-clause-lookahead
returns-clause-lookahead g c =
    twice _ _ _ (ap (λ s. s.value) c.replace-before.ensures.value) c.start-p.ensures.unread
    c.read_document.ensures.budget c.finish.ensures.steps
