use Rattle.validation_names.specs.Sites.{as_located}
use Rattle.cost_limits.proofs.Parts.{adds_field}
use Rattle.cost_limits.proofs.definition_walk.add.Goals as goal
use Rattle.cost_limits.specs.Collecting.{number_of}

pub returns-then-is : goal.returns-then-is
returns-then-is g c seen h =
    adds_field (number_of c.args.fragments.now) c.args.enclosing (as_located c.args.site.now) seen
    c.args.found.now.items c.add_field.new.found.items
    c.is_new.new.names _ c.in_ok-is_new.is_new (cc (c.if-is.true, c.is.ensures, c.kind.ensures)) c.response_name.ensures
    (c.in_ok-is_new.ensures seen h) c.in_ok-add_field.ensures
