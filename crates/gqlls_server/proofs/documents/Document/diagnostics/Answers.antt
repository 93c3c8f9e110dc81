use Rattle.std.proofs.Common.{◌≡◌, true, false, subst, sym, arith}
use Rattle.std.proofs.lemmas.Bool.{MatchBool-at_false, MatchBool-at_true}
use Rattle.std.proofs.lemmas.Bool.Decides.{nat_tests}
use Rattle.formatter.specs.Comments.{HasNoDefinitions}
use Rattle.gqlls_server.proofs.documents.Document.diagnostics.Goals as goal

pub returns-then-has_no_definitions-clause-said : goal.returns-then-has_no_definitions-clause-said
returns-then-has_no_definitions-clause-said c = λ some.
    let none : c.has_no_definitions.result ≡ true = grind (arith, nat_tests) in
    absurd (some (subst HasNoDefinitions c.source.ensures (MatchBool-at_true _ _ none c.has_no_definitions.ensures)))

pub returns-clause-silent : goal.returns-clause-silent
returns-clause-silent c = λ none.
    let some : c.has_no_definitions.result ≡ false = grind (arith, nat_tests) in
    absurd (MatchBool-at_false _ _ some c.has_no_definitions.ensures
    (subst HasNoDefinitions (sym c.source.ensures) none))
