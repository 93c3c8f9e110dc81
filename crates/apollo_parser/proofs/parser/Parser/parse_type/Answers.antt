use Rattle.std.proofs.Common.{subst, sym}
use Rattle.std.proofs.lemmas.Result.{IfOk-weaker}
use Rattle.document_grammar.specs.Derivation.{type}
use Rattle.parser_rules.proofs.fragments.PartTexts.{types-sound, types-accepted, types-report}
use Rattle.parser_rules.proofs.fragments.RootChecks.{type_passes}
use Rattle.parser_rules.proofs.fragments.RootSizes.{type-sized}
use Rattle.apollo_parser.proofs.Parses.{answers}
use Rattle.apollo_parser.proofs.RootParses.{promise}
use Rattle.apollo_parser.proofs.TypeParses.{one-type}
use Rattle.apollo_parser.proofs.parser.Parser.parse_type.Goals as goal
use Rattle.apollo_parser.specs.Parsed.{Parsed}
use Rattle.apollo_parser.specs.Parts.{OneType, first_kind}
use Rattle.apollo_parser.specs.Promise.{PartPromise}

pub returns-clause-promise : goal.returns-clause-promise
returns-clause-promise g c =
    let p = c.in_ok-tree.ensures in
    let kept = promise p.root (type_passes p.is) (type-sized _ _ _ p.is p.root.run) type
    (types-sound _ _ _ _ p.root.last p.root.cut p.made)
    (types-accepted _ _ _ _ p.root.last p.root.cut p.made) (types-report _ _ _ _ p.root.last p.root.cut p.made) in
    IfOk-weaker c.into_owned.result _ _
    (λ t same. subst (PartPromise type c.args.self.source.now c.args.self.recursion_limit c.args.self.token_limit)
    (sym same) kept) c.into_owned.ensures

pub returns-clause-one_type : goal.returns-clause-one_type
returns-clause-one_type g c =
    let one = one-type c.in_ok-tree.ensures in
    IfOk-weaker c.into_owned.result _ _
    (λ t same. subst (λ (t : Parsed). OneType (first_kind (answers c.args.self.token_limit c.args.self.source.now))
    t.tree) (sym same) one)
    c.into_owned.ensures
