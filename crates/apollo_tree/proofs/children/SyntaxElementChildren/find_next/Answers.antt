use Rattle.std.proofs.Common.{◌+◌, ◌∷◌, ◌∙◌, ap, sym, arith}
use Rattle.std.specs.List.{filter}
use Rattle.apollo_tree.proofs.Searches.{after, found-first, found-kind, found-taken, end-span, none-left, rest_from}
use Rattle.apollo_tree.proofs.children.SyntaxElementChildren.find_next.Goals as goal
use Rattle.apollo_tree.specs.Forms.{readable}
use Rattle.apollo_tree.specs.Order.{kind_at}
use Rattle.apollo_tree.specs.Taken.{takes_place}

pub overflow_add-self : goal.overflow_add-self
overflow_add-self g c =
    let now = c.args.self.now in
    omega (
      arith,
      (after (g.T.ElementTest.is_taken c.args.test) now.table now.next now.end c.in-Some.found
          c.in-Some.ensures).rest.order,
    )

pub invariant_of-self : goal.invariant_of-self
invariant_of-self g c =
    let now = c.args.self.now in
    record {
      span = (after (g.T.ElementTest.is_taken c.args.test) now.table now.next now.end c.in-Some.found
          c.in-Some.ensures).rest;
    }

pub returns-in-Some-clause-first : goal.returns-in-Some-clause-first
returns-in-Some-clause-first g c =
    let now = c.args.self.now in
    let takes = g.T.ElementTest.is_taken c.args.test in
    let found = c.in-Some.found in
    found-first takes now.table now.next now.end found c.in-Some.ensures
    ∙ ap (λ p. p ∷ filter (takes_place takes) (rest_from now.table (found.index + found.row.size) now.end))
    (sym c.at.ensures)

pub returns-in-Some-clause-kind : goal.returns-in-Some-clause-kind
returns-in-Some-clause-kind g c =
    let now = c.args.self.now in
    found-kind (g.T.ElementTest.is_taken c.args.test) now.table now.next now.end c.in-Some.found c.in-Some.ensures
    ∙ ap kind_at (sym c.at.ensures)

pub returns-in-Some-clause-taken : goal.returns-in-Some-clause-taken
returns-in-Some-clause-taken g c =
    let now = c.args.self.now in
    let takes = g.T.ElementTest.is_taken c.args.test in
    ap (takes_place takes) c.at.ensures ∙ found-taken takes now.table now.next now.end c.in-Some.found c.in-Some.ensures

pub invariant_of-self-in-None : goal.invariant_of-self-in-None
invariant_of-self-in-None g c =
    let now = c.args.self.now in
    record { span = end-span (readable now.table.records) now.next now.end now.span }

pub returns-in-None-clause-first : goal.returns-in-None-clause-first
returns-in-None-clause-first g c =
    let now = c.args.self.now in
    let takes = g.T.ElementTest.is_taken c.args.test in
    let left = none-left takes now.table now.end in
    (c.in-None.ensures now.table.text.now now.table.is_table ∙ left, left)
