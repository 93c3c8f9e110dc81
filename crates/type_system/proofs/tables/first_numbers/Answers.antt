use Rattle.std.proofs.Common.{◌≡◌, ◌+◌, ◌<◌, Option, ◌++◌, ◌∷◌, [], ℕ, List, map, take, length, arith, get_or}
use Rattle.std.proofs.lemmas.List.{take_more, map-append, length-map, length-take}
use Rattle.document_grammar.specs.declared.kind.SyntaxKind.{SyntaxKind}
use Rattle.validation_names.proofs.Numbers.{named_more, unnamed_more}
use Rattle.validation_names.specs.Names.{Name}
use Rattle.validation_names.specs.Sites.{as_located}
use Rattle.validation_names.specs.declared.sites.Site.{Site}
use Rattle.type_system.proofs.tables.first_numbers.Goals as goal
use Rattle.type_system.proofs.tables.first_numbers.Goals.{in-Some+in_ok-enter, in_default}
use Rattle.type_system.specs.Definitions.{named_as}

-- the names of the first n
names_of : List SyntaxKind → List Site → ℕ → List (Option Name)
names_of kinds ds n = map (named_as kinds) (map as_located (take n ds))

count_names : (kinds : List SyntaxKind) (ds : List Site) (n : ℕ) → n < length ds → n ≡ length (names_of kinds ds n)
unfolding names_of
count_names kinds ds n below = simp (length-map, length-take) (omega arith)

names_more :
    (kinds : List SyntaxKind) (ds : List Site) (n : ℕ) (d : Site) → n < length ds → d ≡ get_or ds n d
    → names_of kinds ds (n + 1) ≡ names_of kinds ds n ++ named_as kinds (as_located d) ∷ []
unfolding names_of
names_more kinds ds n d below is = rw (take_more ds n d below, map-append, map-append, ← is)

pub loop-number-preserved : goal.loop-number-preserved
unfolding names_of
loop-number-preserved c =
    let kinds = c.args.kinds.now in
    let ds = c.args.definitions.now in
    let n = c.loop-number.number in
    let old = c.loop-number.numbers in
    let inside = c.loop-number-test.true in
    let more = names_more kinds ds n c.index-definitions-number.result inside c.index-definitions-number.is in
    elim c.match-named_as.branch [
      | in-Some+in_ok-enter w ↦ λ q.
          rw (w.numbers-is, more, ← w.in-Some.ensures)
          (named_more old w.enter.new.entries (names_of kinds ds n) _ n c.loop-number.invariant
          (count_names kinds ds n inside) w.in_ok-enter.ensures.entered q)
      | in_default w ↦ λ q. rw (w.numbers-is, more, ← w.in_default.ensures)
          (unnamed_more old (names_of kinds ds n) c.loop-number.invariant q)
    ]
