use Rattle.std.proofs.Common.{◌∙◌, ap, List, ℕ, Bool, false, Option}
use Rattle.std.specs.List.{list_any}
use Rattle.std.specs.Prelude.{option_map, unwrap_or}
use Rattle.apollo_tree.specs.Order.{Place}
use Rattle.apollo_tree.specs.References.{node_place}
use Rattle.schema_members.proofs.Found.{made, made_without}
use Rattle.schema_members.proofs.usage.Uses.is_shared.Goals as goal
use Rattle.schema_members.specs.Members.{has_interface_named, name_at}

pub returns-in-Some : goal.returns-in-Some
returns-in-Some c =
    let any : List ℕ → Bool =
    λ name. list_any (λ root. has_interface_named name (node_place root)) c.args.self.now.schema.roots.now in
    let shared : Option Place → Bool = λ found. unwrap_or (option_map (λ type. any (name_at type)) found) false in
    c.any_has_interface.ensures ∙ ap any c.name_in.ensures
    ∙ made node_place shared _ _ c.type_around.ensures _ c.in-Some.is

pub returns-in-None : goal.returns-in-None
returns-in-None c =
    let any : List ℕ → Bool =
    λ name. list_any (λ root. has_interface_named name (node_place root)) c.args.self.now.schema.roots.now in
    let shared : Option Place → Bool = λ found. unwrap_or (option_map (λ type. any (name_at type)) found) false in
    made_without node_place shared _ _ c.type_around.ensures c.in-None.is
