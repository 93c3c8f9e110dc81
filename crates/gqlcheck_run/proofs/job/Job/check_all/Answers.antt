use Rattle.std.proofs.Common.{refl}
use Rattle.document_checks.specs.Checking.{as_asked}
use Rattle.gqlcheck_run.proofs.Openings.{stopped, went_on}
use Rattle.gqlcheck_run.proofs.job.Job.check_all.Goals as goal
use Rattle.gqlcheck_run.specs.Program.{as_paths}

pub returns-then-opened-ne0 : goal.returns-then-opened-ne0
returns-then-opened-ne0 g c = record {
  opened = record {
    input = g.R.Source.account c.args.reader.now;
    output = g.W.Sink.account c.print-opened.new.writer;
    complaints = g.E.Sink.account c.print-opened.new.complaints;
    files = c.args.files.now;
  };
  printed = c.print-opened.result;
  opens = (rw c.opening.ensures at c.print-opened.ensures, refl);
  files = refl;
  continues =
      stopped g.F.Files.lists g.F.Files.omits g.F.Files.reads (as_asked c.args.self.now.checks) c.args.self.now.printing
      (as_paths c.args.paths) c.print-opened.result _
      c.if-opened-ne0.true;
}

pub returns : goal.returns
returns g c = record {
  opened = record {
    input = g.R.Source.account c.args.reader.now;
    output = g.W.Sink.account c.print-opened.new.writer;
    complaints = g.E.Sink.account c.print-opened.new.complaints;
    files = c.args.files.now;
  };
  printed = c.print-opened.result;
  opens = (rw c.opening.ensures at c.print-opened.ensures, refl);
  files = refl;
  continues =
      went_on g.F.Files.lists g.F.Files.omits g.F.Files.reads (as_asked c.args.self.now.checks) c.args.self.now.printing
      (as_paths c.args.paths) c.print-opened.result
      c.close.result _ _ c.if-opened-ne0.false (record {
        checked = record {
          input = g.R.Source.account c.check_texts-status.new.reader;
          output = g.W.Sink.account c.check_texts-status.new.writer;
          complaints = g.E.Sink.account c.check_texts-status.new.complaints;
          files = c.check_texts-status.new.files;
        };
        texts = c.check_texts-status.result;
        checks = c.check_texts-status.ensures.checks;
        closes = c.close.ensures;
        input = refl;
        files = refl;
      });
}
