-- What each mode puts.
use Rattle.std.proofs.Common.{◌≡◌, ℕ, List, sym, subst}
use Rattle.apollo_parser.specs.Answers.{Answer, limited}
use Rattle.apollo_parser.specs.Cut.{Cut}
use Rattle.apollo_parser.specs.Diagnostics.{Diagnostic}
use Rattle.apollo_parser.specs.Reads.{items_of}
use Rattle.apollo_parser.specs.declared.Limits.{Limits}
use Rattle.command_lines.specs.declared.gqlcst.Mode.{Mode}
use Rattle.command_lines.specs.declared.gqlcst.Mode.TheVariants.{Check, Tokens, Tree}
use Rattle.gqlcst_run.specs.Buffering.{Buffered, PutsSome, PutsAny}
use Rattle.gqlcst_run.specs.Parsing.{finding_of, IsFound}
use Rattle.gqlcst_run.specs.Program.{IsOutput}
use Rattle.gqlcst_run.specs.Rendering.{AreLines, IsAnswerForm, IsVerdict, error_count}
use Rattle.gqlcst_run.specs.declared.finding.Finding.{Finding}

pub check_put : (mode : Mode) (limits : Limits) (text : List ℕ) (finding : Finding) (errors shown : List Diagnostic)
    (s t : Buffered) → mode ≡ Check
    → IsFound limits text errors finding
    → shown ≡ errors → PutsSome (IsVerdict shown) s t → PutsSome (IsOutput mode limits text finding) s t
check_put mode limits text finding errors shown s t is found all p =
    subst (λ (m : Mode). PutsSome (IsOutput m limits text finding) s t) (sym is)
    (record {
      output = p.output;
      made = record {
        errors = shown;
        found = subst (λ (es : List Diagnostic). IsFound limits text es finding) (sym all) found;
        verdict = p.made;
      };
      puts = p.puts;
    })

pub tree_put : (mode : Mode) (limits : Limits) (text : List ℕ) (finding : Finding) (errors : List Diagnostic)
    (s t : Buffered) → mode ≡ Tree
    → IsFound limits text errors finding
    → PutsAny s t → PutsSome (IsOutput mode limits text finding) s t
tree_put mode limits text finding errors s t is found p =
    subst (λ (m : Mode). PutsSome (IsOutput m limits text finding) s t) (sym is)
    (record { output = p.output; made = record { errors = errors; found = found }; puts = p.puts })

pub tokens_put : (mode : Mode) (limits : Limits) (text : List ℕ) (finding : Finding) (answers : List Answer)
    (s t : Buffered) → mode ≡ Tokens
    → Cut text (items_of text)
    → answers ≡ limited limits.tokens (items_of text) → finding ≡ finding_of (error_count answers)
    → PutsSome (AreLines IsAnswerForm answers) s t
    → PutsSome (IsOutput mode limits text finding) s t
tokens_put mode limits text finding answers s t is cut limit counted p =
    subst (λ (m : Mode). PutsSome (IsOutput m limits text finding) s t) (sym is)
    (record {
      output = p.output;
      made = record { cut = cut; lines = rw limit at p.made; counted = rw limit at counted };
      puts = p.puts;
    })
