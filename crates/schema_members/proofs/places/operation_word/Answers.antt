use Rattle.std.proofs.Common.{◌∙◌, List, ℕ, Option}
use Rattle.std.specs.Prelude.{codes, option_map, unwrap_or}
use Rattle.apollo_tree.specs.Order.{Place, text_at}
use Rattle.apollo_tree.specs.References.{node_place}
use Rattle.schema_members.proofs.Found.{made, made_without}
use Rattle.schema_members.proofs.places.operation_word.Goals as goal

word : Option Place → List ℕ
word found = unwrap_or (option_map text_at found) (codes "query")

pub returns-in-Some : goal.returns-in-Some
unfolding word
returns-in-Some c = c.text.ensures.text ∙ made node_place word _ _ c.child_of.ensures _ c.in-Some.is

pub returns-in-None : goal.returns-in-None
unfolding word
returns-in-None c = made_without node_place word _ _ c.child_of.ensures c.in-None.is
