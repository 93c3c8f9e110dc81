use Rattle.std.proofs.Common.{◌∙◌, ℕ, List, ap, subst}
use Rattle.std.proofs.lemmas.Result.{err_from_is_err_and}
use Rattle.std.specs.Prelude.{option_map}
use denote.Ref.{Bor}
use Rattle.command_lines.specs.Words.{texts}
use Rattle.gqlcheck_run.proofs.RuleNames.{are_rules, unknown_allowed, unknown_warned}
use Rattle.gqlcheck_run.proofs.rules.Rules.of.Goals as goal
use Rattle.gqlcheck_run.specs.Rules.{AreRules, IsNotRead, IsUnknownRule, names_of}

-- ---- a name is no rule's

pub returns-in_err-left : goal.returns-in_err-left
returns-in_err-left g c =
    let p = err_from_is_err_and c.from_residual-in_err-left.result c.from_residual-in_err-left.ensures.1 in
    rw (p.1, p.2) (unknown_allowed (names_of (option_map (λ (t : Bor (List ℕ)). t.now) c.args.allow))
    (names_of (option_map (λ (t : Bor (List ℕ)). t.now) c.args.warn)) c.in_err-left.field-0.0
    (subst (λ (ns : List (List ℕ)). IsNotRead (IsUnknownRule ns) c.in_err-left.field-0.0)
    (ap texts c.as_slice-allowed.ensures.value ∙ c.in_ok-allowed.ensures) c.in_err-left.ensures.err))

pub returns-in_err-judged : goal.returns-in_err-judged
returns-in_err-judged g c =
    let p = err_from_is_err_and c.from_residual-in_err-judged.result c.from_residual-in_err-judged.ensures.1 in
    rw (p.1, p.2) (unknown_warned (names_of (option_map (λ (t : Bor (List ℕ)). t.now) c.args.allow))
    (names_of (option_map (λ (t : Bor (List ℕ)). t.now) c.args.warn)) c.in_err-judged.field-0.0
    (subst (λ (ns : List (List ℕ)). IsNotRead (IsUnknownRule ns) c.in_err-judged.field-0.0)
    (ap texts c.as_slice-warned.ensures.value ∙ c.in_ok-warned.ensures) c.in_err-judged.ensures.err))

pub returns-in_err-named : goal.returns-in_err-named
returns-in_err-named g c =
    let p = err_from_is_err_and c.from_residual-in_err-named.result c.from_residual-in_err-named.ensures.1 in
    rw (p.1, p.2) (unknown_warned (names_of (option_map (λ (t : Bor (List ℕ)). t.now) c.args.allow))
    (names_of (option_map (λ (t : Bor (List ℕ)). t.now) c.args.warn)) c.in_err-named.field-0.0
    (subst (λ (ns : List (List ℕ)). IsNotRead (IsUnknownRule ns) c.in_err-named.field-0.0)
    (ap texts c.as_slice-warned.ensures.value ∙ c.in_ok-warned.ensures) c.in_err-named.ensures.err))

pub returns-in_err-told : goal.returns-in_err-told
returns-in_err-told g c =
    let p = err_from_is_err_and c.from_residual-in_err-told.result c.from_residual-in_err-told.ensures.1 in
    rw (p.1, p.2) (unknown_allowed (names_of (option_map (λ (t : Bor (List ℕ)). t.now) c.args.allow))
    (names_of (option_map (λ (t : Bor (List ℕ)). t.now) c.args.warn)) c.in_err-told.field-0.0
    (subst (λ (ns : List (List ℕ)). IsNotRead (IsUnknownRule ns) c.in_err-told.field-0.0)
    (ap texts c.as_slice-allowed.ensures.value ∙ c.in_ok-allowed.ensures) c.in_err-told.ensures.err))

-- ---- all are

pub returns : goal.returns
returns g c =
    let allowed = texts c.as_slice-allowed.result.now in
    let warned = texts c.as_slice-warned.result.now in
    let judged = c.in_ok-judged.judged in
    let told = c.in_ok-told.told in
    subst
    (λ (ns : List (List ℕ)). AreRules ns (names_of (option_map (λ (t : Bor (List ℕ)). t.now) c.args.warn)) judged told)
    (ap texts c.as_slice-allowed.ensures.value ∙ c.in_ok-allowed.ensures)
    (subst (λ (ns : List (List ℕ)). AreRules allowed ns judged told)
    (ap texts c.as_slice-warned.ensures.value ∙ c.in_ok-warned.ensures)
    (are_rules allowed warned c.all.result c.in_ok-left.left judged c.none.result c.in_ok-named.named told c.all.ensures
    c.in_ok-left.ensures.has c.in_ok-judged.ensures.has c.none.ensures c.in_ok-named.ensures.has
    c.in_ok-told.ensures.has c.in_ok-left.ensures.known c.in_ok-judged.ensures.known))
