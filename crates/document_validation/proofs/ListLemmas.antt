-- A list by which documents of a kind are judged.
use Rattle.std.proofs.Common.{◌≡◌, Option, Some, subst, sym}
use Rattle.validation_names.specs.Sites.{Located}
use Rattle.validation_rules.specs.Broken.{repeats}
use Rattle.validation_rules.specs.Violations.{Adds}
use Rattle.validation_rules.specs.declared.violations.Violations.{Violations}
use Rattle.document_validation.specs.Breaches.{judged_list, repeats_as, repeats_at, rule_of}
use Rattle.document_validation.specs.Lists.{items_of}
use Rattle.document_validation.specs.declared.lists.DocumentKind.{DocumentKind}
use Rattle.document_validation.specs.declared.lists.NamedList.{NamedList}

pub judged : (kind : DocumentKind) (site : Located) (list : NamedList) (old new : Violations)
    → judged_list kind site.place ≡ Some list
    → Adds (repeats (rule_of list) (items_of site)) old new → Adds (repeats_at kind site) old new
judged kind site list old new is adds =
    let P : Option NamedList → Type 0 = λ o. Adds (repeats_as o site) old new in
    subst P (sym is) adds
