-- A parse with errors is one of no document.
use Rattle.std.proofs.Common.{◌≡◌, ◌∙◌, ap, sym, ℕ, true, false, List, [], ◌∷◌, length, eqb, suc, arith}
use Rattle.std.proofs.lemmas.Bool.{eqb-true}
use Rattle.apollo_parser.specs.Diagnostics.{Diagnostic}
use Rattle.apollo_parser.specs.Parsed.{Parsed}
use Rattle.apollo_parser.specs.Promise.{Promise}
use Rattle.formatter.specs.Formatted.{IsDocument}

pub has-errors : (source : List ℕ) (r k : ℕ) (t : Parsed) (errors : List Diagnostic) → errors ≡ t.errors
    → eqb (length errors) 0 ≡ false
    → Promise source r k t → ¬ IsDocument source r k
has-errors source r k t errors same some promise document =
    let none : errors ≡ [] = same ∙ promise.accepts document.tree document.sentence document.within in
    let no : true ≡ false = sym (ap (λ (l : List Diagnostic). eqb (length l) 0) none) ∙ some in (cc)

pub no-errors : (t : Parsed) (errors : List Diagnostic) → errors ≡ t.errors
    → eqb (length errors) 0 ≡ true → t.errors ≡ []
no-errors t [] same none = sym same
no-errors t (error ∷ errors) same none =
    let zero : suc (length errors) ≡ 0 = eqb-true (length (error ∷ errors)) 0 none in let never : ⊥ =
    omega (arith, zero) in absurd never
