use Rattle.std.proofs.Common.{◌∙◌, List, ℕ, ap, ap₂, inl, refl}
use Rattle.document_checks.specs.Checking.{as_asked}
use Rattle.command_lines.specs.Reading.{as_given}
use Rattle.command_lines.specs.Words.{texts}
use Rattle.gqlcheck_run.proofs.Plans.{by_plan, unknown}
use Rattle.gqlcheck_run.proofs.program.check_by.Goals as goal
use Rattle.gqlcheck_run.specs.Program.{Paths, as_paths, asked_by, paths_of, printing_of}

abbrev paths : List (List ℕ) → List (List ℕ) → List (List ℕ) → Paths
paths judged known schema = record { judged = judged; known = known; schema = schema }

pub returns-in-Ok : goal.returns-in-Ok
returns-in-Ok g c =
    let given = as_given c.args.plan.now in
    let named = c.in-Ok.named in
    let rules = named.rules in
    let job = c.of-job.result in
    let same =
    c.paths-paths.ensures
    ∙ ap (λ files. paths (texts files) (texts named.known.items) (texts named.schema.items)) c.as_slice.ensures.value
    ∙ ap₂ (paths given.files) c.in-Ok.ensures.known c.in-Ok.ensures.schema in
    inl (inl (
      rules.judged,
      rules.told,
      c.in-Ok.ensures.rules,
      by_plan g.F.Files.lists g.F.Files.omits g.F.Files.reads (as_asked job.checks)
          (asked_by given rules.judged rules.told) job.printing (printing_of given)
          (as_paths c.paths-paths.result) (paths_of given) c.check_all.result _ _
          c.of-job.ensures.asked c.of-job.ensures.printing same c.check_all.ensures,
    ))

pub returns-in-Err : goal.returns-in-Err
returns-in-Err g c =
    unknown g.F.Files.lists g.F.Files.omits g.F.Files.reads (as_given c.args.plan.now) c.in-Err.error c.refuse.result _
    _ c.in-Err.ensures.err c.refuse.ensures refl refl refl
