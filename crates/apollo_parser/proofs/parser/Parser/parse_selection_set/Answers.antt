use Rattle.std.proofs.Common.{◌≡◌, subst, sym}
use Rattle.std.proofs.lemmas.Result.{IfOk-weaker}
use Rattle.document_grammar.specs.Derivation.{selections}
use Rattle.document_grammar.specs.Forests.{Forest, none, node}
use Rattle.document_grammar.specs.declared.kind.SyntaxKind.TheVariants as kind
use Rattle.parser_rules.proofs.fragments.PartTexts.{selections-sound, selections-accepted, selections-report}
use Rattle.parser_rules.proofs.fragments.RootChecks.{selections_pass, selections_paid}
use Rattle.parser_rules.proofs.fragments.RootSizes.{root-sized}
use Rattle.apollo_parser.proofs.RootParses.{one-root, promise}
use Rattle.apollo_parser.proofs.parser.Parser.parse_selection_set.Goals as goal
use Rattle.apollo_parser.specs.Parsed.{Parsed}
use Rattle.apollo_parser.specs.Promise.{PartPromise}

pub returns-clause-promise : goal.returns-clause-promise
returns-clause-promise g c =
    let p = c.in_ok-tree.ensures in
    let kept = promise p selections_pass (root-sized _ _ _ kind.SELECTION_SET selections_paid p.run) selections
    (selections-sound _ _ _ _ p.last p.cut p.run) (selections-accepted _ _ _ _ p.last p.cut p.run)
    (selections-report _ _ _ _ p.last p.cut p.run) in
    IfOk-weaker c.into_owned.result _ _
    (λ t same. subst (PartPromise selections c.args.self.source.now c.args.self.recursion_limit c.args.self.token_limit)
    (sym same) kept)
    c.into_owned.ensures

pub returns-clause-one_selection_set : goal.returns-clause-one_selection_set
returns-clause-one_selection_set g c =
    let one = one-root c.in_ok-tree.ensures in
    IfOk-weaker c.into_owned.result _ _
    (λ t same. subst (λ (t : Parsed). (kids : Forest) × (t.tree ≡ node kind.SELECTION_SET kids none)) (sym same) one)
    c.into_owned.ensures
