use Rattle.std.proofs.Common.{Bool, ap, refl, ◌∙◌, subst}
use Rattle.std.specs.List.{flat_map}
use Rattle.json.specs.Value.{value_view}
use Rattle.rpc_messages.specs.Pieces.{tokens_of}
use Rattle.gqlls_server.proofs.Announced.{announced}
use Rattle.gqlls_server.proofs.capabilities.answer_initialize.Goals as goal
use Rattle.gqlls_server.specs.Announcement.{IsAnnounced}
use Rattle.gqlls_server.specs.declared.capabilities.TheConstants.{VERSION}

pub returns-clause-announces : goal.returns-clause-announces
returns-clause-announces c =
    subst (λ (asks_first : Bool). IsAnnounced (value_view c.args.id.now) c.args.encoding asks_first
    c.in_ok-body.body.items) c.asks_before_renaming.ensures
    (announced _ c.args.encoding c.asks_before_renaming.result VERSION.now
    (flat_map tokens_of c.extend_from_slice.new.self.items) _ _
    (rw (c.in_ok-extend_from_slice.ensures.items, c.new-pieces.ensures.items, c.encoding_name.ensures) refl)
    (ap (flat_map tokens_of) c.as_slice.ensures.value ∙ c.in_ok-push_served.ensures) c.in_ok-body.ensures.member)
