-- The root of the finished tree.
use Rattle.std.proofs.Common.{◌≡◌, ◌∙◌, sym, ap, [], ◌∷◌, Bool, true, Option, Some, None, refl}
use Rattle.std.specs.Option.{IsSome}
use Rattle.document_grammar.specs.Builds.{close}
use Rattle.document_grammar.specs.Forests.{none, node}
use Rattle.document_grammar.specs.declared.kind.SyntaxKind.{SyntaxKind}
use Rattle.parser_rules.proofs.runs.Frame.{add_all-above}
use Rattle.parser_rules.specs.State.{State, add_all, finished}
use Rattle.apollo_cst_core.specs.Cast.{CastsTo}

-- the finished tree is one node, of the kind of the node that was open first
pub finished-node : (s : State) (k : SyntaxKind) → s.tree.above ≡ record { before = none; kind = k } ∷ []
    → finished s ≡ node k (add_all s.pending s.tree).here none
finished-node s k e = ap (λ above. (close (add_all s.pending s.tree).here above).here)
    (add_all-above s.pending s.tree ∙ e)

-- what can be cast is cast
pub cast-is-some : {T S : Type 0} (can : Bool) (syntax : T → S) (n : S) (r : Option T) → CastsTo can syntax n r
    → can ≡ true → IsSome r
cast-is-some can syntax n (Some x) h e = refl
cast-is-some can syntax n None h e = absurd cc

-- a cast of the root, in words of its place
pub cast-place : {T S P : Type 0} {can may : Bool} {n : S} {m : P} (syntax : T → S) (place : S → P) → can ≡ may
    → place n ≡ m → (r : Option T)
    → CastsTo can syntax n r → CastsTo may (λ x. place (syntax x)) m r
cast-place syntax place e is (Some x) h = (sym e ∙ h.0, ap place h.1 ∙ is)
cast-place syntax place e is None h = sym e ∙ h
