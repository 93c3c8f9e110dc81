use Rattle.std.proofs.Common.{◌≡◌, ◌++◌}
use Rattle.std.specs.List.{flat_map}
use Rattle.std.specs.Prelude.{string_bytes}
use Rattle.apollo_tree.specs.References.{node_place}
use Rattle.apollo_tree.specs.Yields.{rest_descendants}
use Rattle.query_validation.proofs.texts.push_type.Given as goal
use Rattle.query_validation.specs.Texts.{type_text, type_token}

abbrev pub invariant-loop-element : goal.invariant-loop-element
invariant-loop-element l =
    string_bytes l.text ++ flat_map type_token (rest_descendants l.element-iterator)
    ≡ string_bytes l.fn.text ++ type_text (node_place l.fn.reference)
