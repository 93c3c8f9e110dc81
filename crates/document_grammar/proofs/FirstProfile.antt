-- What is a sentence by the rows of the first profile is one.
use Rattle.std.proofs.Common.{ℕ, eqb, List, [], refl, inl, inr, eqb-true}
use Rattle.document_grammar.proofs.Booleans.{either}
use Rattle.document_grammar.specs.Beginnings.{FirstSpells}
use Rattle.document_grammar.specs.Derivation.{FitsBy, AllFitBy, BareBy, Sort, document, selections, type, DerivationBy}
use Rattle.document_grammar.specs.Derivation.{Derivation, Spells}
use Rattle.document_grammar.specs.Kinds.{OPERATION_DEFINITION, FRAGMENT_DEFINITION, VARIABLE_DEFINITION}
use Rattle.document_grammar.specs.Pattern.{Matches}
use Rattle.document_grammar.specs.Rows.{Row, FirstRow, first_operation, first_fragment, first_variable}
use Rattle.document_grammar.specs.Tree.{Token, Tree, leaf, node, Forest, none, ◌▸◌}

-- The three rows that differ may have a description first, and need not.
row-kept : (k : ℕ) (w : List ℕ) → Matches (FirstRow k) w → Matches (Row k) w
unfolding FirstRow Row
row-kept k w m = elim (either (eqb k OPERATION_DEFINITION)) [
  | inl p ↦ (let m' : Matches first_operation w = rw p at m in
      rw (eqb-true _ _ p) (elim m' [ inl a ↦ inl a | inr b ↦ inr ([], w, refl, inr refl, b) ]))
  | inr p ↦ elim (either (eqb k FRAGMENT_DEFINITION)) [
    | inl q ↦ (let m' : Matches first_fragment w = rw (p, q) at m in rw (eqb-true _ _ q) ([], w, refl, inr refl, m'))
    | inr q ↦ elim (either (eqb k VARIABLE_DEFINITION)) [
      | inl r ↦ (let m' : Matches first_variable w = rw (p, q, r) at m in
          rw (eqb-true _ _ r) ([], w, refl, inr refl, m'))
      | inr r ↦ (rw (p, q, r) at m)
    ]
  ]
]

mutual
  fits-kept : (t : Tree) → FitsBy FirstRow t → FitsBy Row t
  fits-kept (leaf k x) h = h
  fits-kept (node k f) h = (row-kept k _ h.0, h.1, h.2, h.3, all-kept f h.4)

  all-kept : (f : Forest) → AllFitBy FirstRow f → AllFitBy Row f
  all-kept none h = tt
  all-kept (t ▸ f) h = (fits-kept t h.0, all-kept f h.1)

bare-kept : (t : Tree) → BareBy FirstRow t → BareBy Row t
bare-kept (leaf k x) h = h
bare-kept (node k f) h = (h.0, all-kept f h.1)

pub derivation-kept : (sort : Sort) (t : Tree) → DerivationBy FirstRow t sort → Derivation t sort
derivation-kept document t h = (h.0, fits-kept t h.1)
derivation-kept selections t h = (h.0, elim h.1 [ inl a ↦ inl (fits-kept t a) | inr b ↦ inr (bare-kept t b) ])
derivation-kept type t h = (h.0, fits-kept t h.1)

pub first-profile : (sort : Sort) (w : List Token) (t : Tree) → FirstSpells w t sort → Spells w t sort
first-profile sort w t h = (derivation-kept sort t h.0, h.1)
