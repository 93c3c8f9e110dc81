use Rattle.std.proofs.Common.{[], ◌∷◌, eq-eqb, eqb-true}
use Rattle.std.proofs.lemmas.Bool.Decides.{same_from_decides}
use Rattle.directed_graph.proofs.PartLemmas.{back_if_same, same_if_back}
use Rattle.directed_graph.proofs.ReachLemmas.{one_below, reaches_decides}
use Rattle.directed_graph.proofs.cycles.leads_back.Goals as goal

pub returns-then-are_sound-clause-back : goal.returns-then-are_sound-clause-back
returns-then-are_sound-clause-back c =
    let parts = c.args.parts.now in
    let sound = (c.requires.sound c.if-are_sound.true).each in
    same_from_decides _ _ (
      (λ is. back_if_same c.args.graph.now parts c.args.vertex c.args.other c.requires.closed sound
          c.requires.edge (eqb-true _ _ is)),
      (λ back. eq-eqb _ _ (same_if_back c.args.graph.now parts c.args.vertex c.args.other sound c.requires.edge back)),
    )
    (reaches_decides c.args.graph.now (c.args.other ∷ []) c.args.vertex c.requires.closed
    (one_below c.args.other _ c.requires.other))
