use Rattle.std.proofs.Common.{ap, map, string_bytes, sym, ◌∙◌}
use Rattle.std.specs.BTreeSet.{contains_text}
use Rattle.std.specs.List.{list_any}
use Rattle.std.specs.Prelude.{◌||◌}
use Rattle.gqlls_server.proofs.Own.{one_more}
use Rattle.gqlls_server.proofs.documents.own_files.Goals as goal
use Rattle.gqlls_server.specs.State.{is_of}

pub loop-name-preserved : goal.loop-name-preserved
loop-name-preserved c = λ name.
    one_more (is_of name) (contains_text c.loop-name.own name) (contains_text c.add_own-in-loop-name.new.own name)
    (string_bytes c.in-Some.name.now)
    (map string_bytes c.next.new.self) _
    (c.in_ok-add_own-2.ensures name
    ∙ ap (λ uri. is_of name uri || contains_text c.loop-name.own name) c.as_str.ensures.value)
    (ap (λ ks. contains_text c.loop-name.own name || list_any (is_of name) (map string_bytes ks))
    (sym c.in-Some.ensures.steps) ∙ c.loop-name.invariant name)
