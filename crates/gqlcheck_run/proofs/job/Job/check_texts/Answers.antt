use Rattle.std.proofs.Common.{◌≡◌, ◌∙◌, ℕ, List, Option, ap, ap₂, length, map, max, refl, subst, sym}
use Rattle.std.proofs.lemmas.List.{length-map}
use Rattle.document_checks.specs.Checking.{as_asked}
use Rattle.named_files.specs.Handling.{InTurn}
use Rattle.gqlcheck_run.proofs.Plans.{judges_by}
use Rattle.gqlcheck_run.proofs.job.Job.check_texts.Goals as goal
use Rattle.gqlcheck_run.specs.Inputs.{Input, Texts, as_input, as_texts}
use Rattle.gqlcheck_run.specs.Program.{as_paths, asked_of, schema_texts}
use Rattle.gqlcheck_run.specs.Reading.{ReadsPath}

pub returns-clause-checks : goal.returns-clause-checks
returns-clause-checks g c =
    let asked = as_asked c.args.self.now.checks in
    let schema = c.read_paths-defined.new.kept in
    let first = c.read_texts-read.new.kept in
    let all = c.read_paths-added.new.kept in
    let paths = (as_paths c.args.paths).schema in
    let texts : c.len.result ≡ length (map as_input schema.inputs.items) =
    c.len.ensures ∙ schema.inputs.ok.0 ∙ sym (length-map schema.inputs.items as_input) in
    let count : c.len-judged.result ≡ length (map as_input first.inputs.items) =
    c.len-judged.ensures ∙ first.inputs.ok.0 ∙ sym (length-map first.inputs.items as_input) in
    let of_schema = schema_texts paths c.read_paths-defined.result (length (map as_input schema.inputs.items)) in
    record {
      schema = record {
        files = c.read_paths-defined.new.files;
        complaints = g.E.Sink.account c.read_paths-defined.new.complaints;
        texts = as_texts schema;
      };
      defined = c.read_paths-defined.result;
      reads_schema =
          subst
          (λ (before : Texts). InTurn (ReadsPath g.F.Files.lists g.F.Files.omits g.F.Files.reads) paths
          c.read_paths-defined.result
          (record {
            files = c.args.files.now;
            complaints = g.E.Sink.account c.args.complaints.now;
            texts = before;
          })
          (record {
            files = c.read_paths-defined.new.files;
            complaints = g.E.Sink.account c.read_paths-defined.new.complaints;
            texts = as_texts schema;
          })) c.new-kept.ensures c.read_paths-defined.ensures;
      first = record {
        files = c.read_texts-read.new.files;
        complaints = g.E.Sink.account c.read_texts-read.new.complaints;
        texts = as_texts first;
      };
      read = c.read_texts-read.result;
      reads_all = c.read_texts-read.ensures;
      all = record {
        files = c.read_paths-added.new.files;
        complaints = g.E.Sink.account c.read_paths-added.new.complaints;
        texts = as_texts all;
      };
      added = c.read_paths-added.result;
      reads_known = c.read_paths-added.ensures;
      files = refl;
      found = c.check_inputs-found.result;
      judges =
          judges_by (as_asked c.for_texts-job.result.checks)
          (asked_of asked of_schema (length (map as_input first.inputs.items)) (map as_input all.inputs.items))
          c.for_texts-job.result.printing c.args.self.now.printing (map as_input c.as_slice-2.result.now)
          (map as_input all.inputs.items) c.check_inputs-found.result _ _
          (c.for_texts-job.ensures.asked
          ∙ ap (λ (s : Option ℕ). asked_of asked s c.len-judged.result (map as_input c.as_slice.result.now))
          (c.schema_texts-schema.ensures
          ∙ ap (λ (n : ℕ). schema_texts paths c.read_paths-defined.result n) texts)
          ∙ ap₂ (λ (n : ℕ) (xs : List Input). asked_of asked of_schema n xs) count
          (ap (map as_input) c.as_slice.ensures.value))
          c.for_texts-job.ensures.printing (ap (map as_input) c.as_slice-2.ensures.value)
          c.check_inputs-found.ensures.judges;
      greatest =
          c.max-3.ensures
          ∙ ap (λ n. max n c.check_inputs-found.result)
          (c.max-2.ensures ∙ ap (λ n. max n c.read_paths-added.result) c.max.ensures);
    }
