-- What mode check puts, with errors and without.
use Rattle.std.proofs.Common.{◌≡◌, ℕ, ◌<◌, List, [], ◌∷◌, ◌++◌, length, codes, map, refl, ap, arith, ◌∙◌, sym}
use Rattle.std.proofs.lemmas.List.{length-map}
use Rattle.std.specs.List.{AllZip}
use Rattle.std.specs.Prelude.{decimal}
use Rattle.apollo_parser.specs.Errors.{error_of}
use Rattle.apollo_parser.specs.declared.BorrowedError.{BorrowedError}
use Rattle.gqlcst_run.proofs.Buffers.{puts_then}
use Rattle.gqlcst_run.specs.Buffering.{Buffered, Puts, PutsSome}
use Rattle.gqlcst_run.specs.Rendering.{line, AreLines, IsErrorForm, IsReport, IsVerdict}

pub clean_put : (errors : List BorrowedError) (s t : Buffered) → length errors ≡ 0 → Puts s (codes "clean\n") t
    → PutsSome (IsVerdict (map error_of errors)) s t
clean_put [] s t none p = record { output = codes "clean\n"; made = refl; puts = p }
clean_put (error ∷ errors) s t none p = absurd (omega arith)

verdict-report : (errors : List BorrowedError) (output : List ℕ) → 0 < length errors
    → IsReport (map error_of errors) output
    → IsVerdict (map error_of errors) output
verdict-report [] output some report = absurd (omega arith)
verdict-report (error ∷ errors) output some report = report

zip-mapped : (errors : List BorrowedError) (forms : List (List ℕ)) → AllZip (λ e. IsErrorForm (error_of e)) errors forms
    → AllZip IsErrorForm (map error_of errors) forms
zip-mapped [] [] all = all
zip-mapped [] (form ∷ forms) all = absurd all
zip-mapped (error ∷ errors) [] all = absurd all
zip-mapped (error ∷ errors) (form ∷ forms) all = (all.0, zip-mapped errors forms all.1)

lines-mapped : (errors : List BorrowedError) (output : List ℕ) → AreLines (λ e. IsErrorForm (error_of e)) errors output
    → AreLines IsErrorForm (map error_of errors) output
lines-mapped errors output lines =
    record { forms = lines.forms; each = zip-mapped errors lines.forms lines.each; joined = lines.joined }

pub report_put : (errors : List BorrowedError) (count : ℕ) (s t u v w : Buffered) → 0 < length errors
    → PutsSome (AreLines (λ e. IsErrorForm (error_of e)) errors) s t
    → Puts t (codes "errors: ") u → count ≡ length errors
    → Puts u (decimal count) v → Puts v (codes "\n") w → PutsSome (IsVerdict (map error_of errors)) s w
report_put errors count s t u v w some lines p counts q r =
    let output : List ℕ = lines.output ++ (codes "errors: " ++ (decimal count ++ codes "\n")) in
    let joined : output ≡ lines.output ++ line (codes "errors: " ++ decimal (length (map error_of errors))) = ap
    (λ (n : ℕ). lines.output ++ (codes "errors: " ++ (decimal n ++ codes "\n")))
    (counts ∙ sym (length-map errors error_of)) in
    record {
      output = output;
      made =
          verdict-report errors output some
          (record { lines = lines.output; each = lines-mapped errors lines.output lines.made; joined = joined });
      puts =
          puts_then s t w lines.output (codes "errors: " ++ (decimal count ++ codes "\n")) lines.puts
          (puts_then t u w (codes "errors: ") (decimal count ++ codes "\n") p
          (puts_then u v w (decimal count) (codes "\n") q r));
    }
