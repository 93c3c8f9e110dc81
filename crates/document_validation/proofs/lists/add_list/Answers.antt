use Rattle.std.proofs.Common.{map, sym, ap, ◌∙◌}
use Rattle.validation_names.specs.Mentions.{as_named}
use Rattle.validation_names.specs.Sites.{as_located}
use Rattle.document_validation.proofs.ListLemmas.{judged}
use Rattle.document_validation.proofs.lists.add_list.Goals as goal

pub returns-in_ok-add_repeats : goal.returns-in_ok-add_repeats
returns-in_ok-add_repeats c =
    judged c.args.kind (as_located c.args.site.now) c.in-Some.list _ _ (sym c.judged_list.ensures ∙ c.in-Some.is)
    (rw (ap (map as_named) c.deref.ensures.value ∙ c.in_ok-items.ensures, c.rule_of.ensures) at
    c.in_ok-add_repeats.ensures)
