-- What the builder asks where a node is closed.
use Rattle.std.proofs.Common.{◌≡◌, ◌∙◌, ap, sym, subst, true, ℕ, List, [], ◌∷◌, ◌++◌, length, take}
use Rattle.document_grammar.specs.Builds.{Building, Open, finish, close, built_text, open_text}
use Rattle.document_grammar.specs.Forests.{Forest, text}
use Rattle.document_grammar.specs.declared.kind.SyntaxKind.{SyntaxKind}
use Rattle.document_grammar.specs.declared.kind.SyntaxKind.TheVariants as kind
use Rattle.parser_rules.proofs.runs.Frame.{add_all-above}
use Rattle.parser_rules.specs.Open.{is_free, is_free_in, IsOpen, IsRoot}
use Rattle.parser_rules.specs.State.{PendingToken, add_all}
use Rattle.apollo_tree.specs.Open.{IsComplete, one_node}
use Rattle.apollo_tree.specs.Sound.{Fits, FitsInnermost, CanFinish}

fits-free : (k : SyntaxKind) (kids : Forest) → is_free k ≡ true → Fits k kids
fits-free kind.NAME kids e = absurd cc
fits-free kind.INT_VALUE kids e = absurd cc
fits-free kind.STRING_VALUE kids e = absurd cc
fits-free kind.BOOLEAN_VALUE kids e = absurd cc
fits-free _ kids e = tt

fits-in : (here : Forest) (above : List Open) → is_free_in above ≡ true → FitsInnermost here above
fits-in here [] e = absurd cc
fits-in here (o ∷ above) e = fits-free o.kind here e

pub free-fits : (b : Building) → IsOpen b → CanFinish b
unfolding IsOpen
free-fits b h = fits-in b.here b.above h

pub root-closes : (b : Building) → IsRoot b → IsComplete (finish b)
root-closes b h = record {
  closed = ap (λ above. (close b.here above).above) h.2;
  root = ap (λ above. one_node (close b.here above).here) h.2;
}

pub root-flushed : (ps : List PendingToken) (b : Building) → IsRoot b → IsRoot (add_all ps b)
root-flushed ps b h = (h.0, h.1, add_all-above ps b ∙ h.2)

pub root-is-open : (b : Building) → IsRoot b → IsOpen b
unfolding IsOpen
root-is-open b h = subst (λ above. is_free_in above ≡ true) (sym h.2) h.1

-- the text that was built is the finished tree's
pub begins-with : (b : Building) (f : Forest) (source : List ℕ) → IsComplete b → b.here ≡ f
    → take (length (text f)) source ≡ text f
    → take (length (built_text b)) source ≡ built_text b
begins-with b f source complete here h =
    let e : built_text b ≡ text f = ap (λ above. open_text above ++ text b.here) complete.closed ∙ ap text here in
    ap (λ s. take (length s) source) e ∙ h ∙ sym e
