use Rattle.std.proofs.Common.{map, arith}
use Rattle.std.proofs.lemmas.List.{length-map}
use Rattle.cost_figures.proofs.Steps.{undefined, cyclic, past_spread, entered, its_mark}
use Rattle.cost_figures.proofs.walk.OpenDefinitions.spread.Goals as goal
use Rattle.cost_figures.specs.declared.walk.Mark.TheVariants.{Untouched, Open, Done}

pub returns-then-fragment-definitions-clause-fault : goal.returns-then-fragment-definitions-clause-fault
returns-then-fragment-definitions-clause-fault g c =
    undefined (map (λ v. v.items) c.args.definitions.now) c.args.self.now c.args.enclosing c.args.fragment c.args.span
    c.requires.sound c.requires.is_there
    (omega (arith, length-map c.args.definitions.now (λ v. v.items)))

pub returns-in-Done-clause-goes : goal.returns-in-Done-clause-goes
returns-in-Done-clause-goes g c =
    let n = length-map c.args.definitions.now (λ v. v.items) in
    past_spread (map (λ v. v.items) c.args.definitions.now) c.args.self.now c.advance.new.self c.args.enclosing
    c.args.fragment c.args.span
    c.in-Done.figures c.within.result c.requires.sound c.requires.is_there (omega (arith, n))
    (its_mark c.args.self.now.marks.items c.args.fragment c.index.result.now (Done c.in-Done.figures) (omega
    (arith, n, c.requires.sound.noted.marked)) c.index.ensures c.in-Done.is)
    c.within.ensures c.advance.ensures.marks c.advance.ensures.waiting c.advance.ensures.current

pub returns-in-Open-clause-fault : goal.returns-in-Open-clause-fault
returns-in-Open-clause-fault g c =
    let n = length-map c.args.definitions.now (λ v. v.items) in
    cyclic (map (λ v. v.items) c.args.definitions.now) c.args.self.now c.args.enclosing c.args.fragment c.args.span
    c.requires.sound c.requires.is_there
    (its_mark c.args.self.now.marks.items c.args.fragment c.index.result.now Open (omega
    (arith, n, c.requires.sound.noted.marked)) c.index.ensures c.in-Open.is)

pub returns-in_ok-enter-in-Untouched-clause-goes : goal.returns-in_ok-enter-in-Untouched-clause-goes
returns-in_ok-enter-in-Untouched-clause-goes g c =
    let n = length-map c.args.definitions.now (λ v. v.items) in
    let e = c.in_ok-enter-in-Untouched.ensures in
    entered (map (λ v. v.items) c.args.definitions.now) c.args.self.now c.enter.new.self c.args.enclosing
    c.args.fragment c.args.span
    c.requires.sound c.requires.is_there (omega (arith, n))
    (its_mark c.args.self.now.marks.items c.args.fragment c.index.result.now Untouched (omega
    (arith, n, c.requires.sound.noted.marked)) c.index.ensures c.in-Untouched.is)
    e.marks e.waiting e.current
