use Rattle.std.proofs.Common.{◌≡◌, List, [], ◌∷◌, map, ap, refl, subst, sym, ◌∙◌}
use Rattle.directed_graph.specs.Graph.{IsClosed}
use Rattle.validation_names.specs.Definitions.{Defined, as_defined, fragment_names}
use Rattle.validation_names.specs.Names.{AreFirstNumbers}
use Rattle.validation_names.specs.declared.executables.ExecutableDefinition.{ExecutableDefinition}
use Rattle.validation_rules.specs.Parts.{as_parts, definitions, parts_of}
use Rattle.tests_variables.proofs.judged.judge.Goals as goal

read_definitions : (ds : List ExecutableDefinition)
    → definitions (map (λ d. parts_of (as_defined d)) ds) ≡ map as_defined ds
read_definitions [] = refl
read_definitions (d ∷ ds) = ap (λ rest. as_defined d ∷ rest) (read_definitions ds)

pub spread_graph-requires : goal.spread_graph-requires
spread_graph-requires c =
    let same =
    ap (λ parts. definitions (map as_parts parts)) c.deref-3.ensures.value ∙ ap definitions c.in_ok-parts.ensures
    ∙ read_definitions c.deref-2.result.now
    ∙ ap (map as_defined) (c.deref-2.ensures.value ∙ sym c.deref.ensures.value) in
    let P : List Defined → Type 0 = λ ds. AreFirstNumbers c.in_ok-fragments.fragments (fragment_names ds) in
    subst P (sym same) c.in_ok-fragments.ensures

pub add_variables-requires-clause-closed : goal.add_variables-requires-clause-closed
add_variables-requires-clause-closed c = rw c.deref-6.ensures.value c.in_ok-graph.ensures.closed
