use Rattle.std.proofs.Common.{◌≡◌, List, length, min, rules, subst, sym}
use Rattle.editor_diagnostics.proofs.Groups.{about_first, capped}
use Rattle.editor_diagnostics.proofs.syntax.syntax_diagnostics.Goals as goal
use Rattle.editor_diagnostics.specs.Diagnostics.{Diagnosis}
use Rattle.editor_diagnostics.specs.Syntax.{IsAboutFirst}

diagnostics : goal.returns-clause-diagnostics
diagnostics c =
    let most : c.min-most.result ≡ min 100 (length c.as_slice-groups.result.now) = search rules in
    capped c.args.starts.now c.args.errors.now _ c.as_slice-groups.result.now c.min-most.result _ _
    c.in_ok-groups.ensures c.as_slice-groups.ensures.value most
    c.in_ok-found.ensures c.in_ok-push_more.ensures

pub returns-clause-diagnostics : goal.returns-clause-diagnostics
returns-clause-diagnostics c = diagnostics c

pub returns-clause-first : goal.returns-clause-first
returns-clause-first c =
    subst (λ (found : List Diagnosis). IsAboutFirst c.args.errors.now found) (sym (diagnostics c))
    (about_first c.args.starts.now c.args.errors.now)
