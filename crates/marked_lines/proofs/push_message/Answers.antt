use Rattle.std.proofs.Common.{List, ℕ, subst}
use Rattle.std.proofs.lemmas.Result.{IfOk-weaker}
use Rattle.std.specs.Prelude.{string_bytes}
use Rattle.marked_lines.proofs.Fronts.{begins_part}
use Rattle.marked_lines.proofs.push_message.Goals as goal
use Rattle.marked_lines.specs.Places.{BeginsWith}

-- all that follows the place is added
pub returns : goal.returns
returns g c = IfOk-weaker c.push_excerpt.result _ _ (λ x added.
    subst (λ (front : List ℕ). BeginsWith (string_bytes c.push_excerpt.new.report) front) c.in_ok-push_place.ensures
    (begins_part _ _ _ _ c.in_ok-push_escaped.ensures
    (begins_part _ _ _ _ c.in_ok-push_escaped-2.ensures
    (begins_part _ _ _ _ c.in_ok-push_escaped-3.ensures
    (begins_part _ _ _ _ c.in_ok-push_escaped-4.ensures
    (begins_part _ _ _ _ c.in_ok-push.ensures.bytes added)))))) c.push_excerpt.ensures
