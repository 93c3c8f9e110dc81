use Rattle.std.proofs.Common.{◌<◌, ◌≤◌, arith, inl}
use Rattle.std.proofs.lemmas.Bool.Decides.{nat_tests}
use Rattle.lexical_grammar.proofs.TheCut.{is-cut}
use Rattle.apollo_lexer.proofs.Law.{few-from, answers-fit}
use Rattle.formatter.proofs.Items.{counted}
use Rattle.formatter.proofs.Parses.{formatted-within}
use Rattle.formatter.proofs.stays_within.Goals as goal

pub count-requires-clause-fits : goal.count-requires-clause-fits
count-requires-clause-fits c = inl (omega (arith, answers-fit c.new.result))

pub returns-then-text-token_limit-clause-yes : goal.returns-then-text-token_limit-clause-yes
returns-then-text-token_limit-clause-yes c = λ e source r formatted.
    formatted-within source c.args.text.now r c.args.token_limit (is-cut c.args.text.now c.utf8.text)
    (omega (arith, few-from 0 0 c.args.text.now)) formatted

pub returns-else-text-token_limit-clause-yes : goal.returns-else-text-token_limit-clause-yes
returns-else-text-token_limit-clause-yes c = λ e source r formatted.
    let n = counted c.new.result c.args.text.now c.count.result c.new.ensures.answers c.count.ensures.ran in
    let few : c.count.result ≤ c.args.token_limit = grind (arith, nat_tests) in
    formatted-within source c.args.text.now r c.args.token_limit c.new.ensures.cut (omega (arith, n, few)) formatted

pub returns-else-text-token_limit-clause-no : goal.returns-else-text-token_limit-clause-no
returns-else-text-token_limit-clause-no c = λ e.
    let n = counted c.new.result c.args.text.now c.count.result c.new.ensures.answers c.count.ensures.ran in
    let many : c.args.token_limit < c.count.result = grind (arith, nat_tests) in
    omega (arith, n, many)

pub returns-then-text-token_limit-clause-few : goal.returns-then-text-token_limit-clause-few
returns-then-text-token_limit-clause-few c = λ e. omega (arith, few-from 0 0 c.args.text.now)

pub returns-else-text-token_limit-clause-few : goal.returns-else-text-token_limit-clause-few
returns-else-text-token_limit-clause-few c = λ e.
    let n = counted c.new.result c.args.text.now c.count.result c.new.ensures.answers c.count.ensures.ran in
    let few : c.count.result ≤ c.args.token_limit = grind (arith, nat_tests) in
    omega (arith, n, few)
