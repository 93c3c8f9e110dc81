use Rattle.std.proofs.Common.{◌≡◌, ◌+◌, ◌<◌, Option, ◌++◌, ◌∷◌, [], ℕ, List, map, take, length, arith, get_or}
use Rattle.std.proofs.lemmas.List.{take_more, map-append, length-map, length-take}
use Rattle.validation_names.proofs.Numbers.{named_more, unnamed_more}
use Rattle.validation_names.proofs.executables.fragments.Goals as goal
use Rattle.validation_names.proofs.executables.fragments.Goals.{in-Some+in_ok-enter, in_default}
use Rattle.validation_names.specs.Definitions.{as_defined, fragment_name, fragment_names}
use Rattle.validation_names.specs.Names.{Name}
use Rattle.validation_names.specs.declared.executables.ExecutableDefinition.{ExecutableDefinition}

-- the names of the first n
names_of : List ExecutableDefinition → ℕ → List (Option Name)
names_of ds n = fragment_names (map as_defined (take n ds))

count_names : (ds : List ExecutableDefinition) (n : ℕ) → n < length ds → n ≡ length (names_of ds n)
unfolding names_of
count_names ds n below = simp (length-map, length-take) (omega arith)

names_more :
    (ds : List ExecutableDefinition) (n : ℕ) (d : ExecutableDefinition) → n < length ds → d ≡ get_or ds n d
    → names_of ds (n + 1) ≡ names_of ds n ++ fragment_name (as_defined d) ∷ []
unfolding names_of
names_more ds n d below is = rw (take_more ds n d below, map-append, map-append, ← is)

pub loop-number-preserved : goal.loop-number-preserved
unfolding names_of
loop-number-preserved g c =
    let ds = c.args.definitions.now in
    let n = c.loop-number.number in
    let old = c.loop-number.fragments in
    let inside = c.loop-number-test.true in
    let more = names_more ds n c.index-definitions-number.result inside c.index-definitions-number.is in
    elim c.match-fragment_name.branch [
      | in-Some+in_ok-enter w ↦ λ q.
          rw (w.fragments-is, more, ← w.in-Some.ensures)
          (named_more old w.enter.new.entries (names_of ds n) _ n c.loop-number.invariant (count_names ds n inside)
          w.in_ok-enter.ensures.entered q)
      | in_default w ↦ λ q. rw (w.fragments-is, more, ← w.in_default.ensures)
          (unnamed_more old (names_of ds n) c.loop-number.invariant q)
    ]
