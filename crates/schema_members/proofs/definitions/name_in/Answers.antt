use Rattle.std.proofs.Common.{◌∙◌, List, [], ℕ, Option}
use Rattle.std.specs.Prelude.{option_map, unwrap_or}
use Rattle.apollo_tree.specs.Order.{Place, text_at}
use Rattle.apollo_tree.specs.References.{node_place}
use Rattle.schema_members.proofs.Found.{made, made_without}
use Rattle.schema_members.proofs.definitions.name_in.Goals as goal

text : Option Place → List ℕ
text found = unwrap_or (option_map text_at found) []

pub returns-in-Some : goal.returns-in-Some
unfolding text
returns-in-Some c = c.text.ensures.text ∙ made node_place text _ _ c.name_node.ensures _ c.in-Some.is

pub returns-in-None : goal.returns-in-None
unfolding text
returns-in-None c = made_without node_place text _ _ c.name_node.ensures c.in-None.is
