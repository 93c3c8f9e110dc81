use Rattle.std.proofs.Common.{◌≡◌, [], ◌∷◌, ◌++◌, ◌∙◌, ℕ, List, Some, refl, sym, ap, arith}
use Rattle.std.proofs.lemmas.List.Elements.{All-from_get_or}
use Rattle.std.specs.Prelude.{codes}
use Rattle.percent_encoding.proofs.PercentLemmas.{round_trip, IsByte}
use Rattle.percent_encoding.specs.AsciiSet.{should_percent_encode}
use Rattle.percent_encoding.specs.Percent.{percent_decode, percent_encode}
use Rattle.file_uris.proofs.uri_of.Goals as goal
use Rattle.file_uris.specs.Uris.{path_of, uri_of}
use Rattle.file_uris.specs.declared.TheConstants.{ESCAPED}

slash : (rest : List ℕ) → percent_encode ESCAPED (47 ∷ rest) ≡ 47 ∷ percent_encode ESCAPED rest
unfolding percent_encode should_percent_encode
slash rest = refl

spelled : (rest : List ℕ) → path_of (codes "file://" ++ (47 ∷ rest)) ≡ Some (percent_decode (47 ∷ rest))
spelled rest = refl

names : (path rest : List ℕ) → path ≡ 47 ∷ rest → percent_decode (percent_encode ESCAPED path) ≡ path
    → path_of (uri_of path) ≡ Some path
names path rest begins decoded =
    let begun : percent_encode ESCAPED path ≡ 47 ∷ percent_encode ESCAPED rest =
    ap (percent_encode ESCAPED) begins ∙ slash rest in
    ap (λ (x : List ℕ). path_of (codes "file://" ++ x)) begun ∙ spelled (percent_encode ESCAPED rest)
    ∙ ap (λ (x : List ℕ). Some (percent_decode x)) (sym begun) ∙ ap (λ (x : List ℕ). Some x) decoded

pub returns-clause-names : goal.returns-clause-names
returns-clause-names c = λ rest begins.
    ap path_of c.in_ok-uri.ensures ∙ ap (λ (x : List ℕ). path_of (uri_of x)) c.as_bytes.ensures.value
    ∙ names _ rest begins (round_trip _ _ refl
    (All-from_get_or IsByte c.args.path.now 0 (λ i within. omega (arith, c.type_inv.path i))))
