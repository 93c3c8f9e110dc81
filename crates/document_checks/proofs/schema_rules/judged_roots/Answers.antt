use Rattle.std.proofs.Common.{◌∙◌, Option, ap, map, sym, ℕ}
use Rattle.std.proofs.lemmas.List.{take-map}
use Rattle.apollo_tree.specs.References.{node_place}
use Rattle.document_checks.proofs.schema_rules.judged_roots.Goals as goal
use Rattle.document_checks.specs.Schemas.{judged_of}

pub returns-in-Some : goal.returns-in-Some
returns-in-Some c =
    ap (map node_place) c.first.ensures ∙ sym (take-map node_place c.in-Some.judged c.args.roots.now)
    ∙ ap (λ (j : Option ℕ). judged_of j (map node_place c.args.roots.now)) (sym c.in-Some.is)
