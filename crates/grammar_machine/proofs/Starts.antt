-- Lists of terminals, and the start symbol that the first token chooses.
use Rattle.std.proofs.Common.{◌≡◌, ℕ, true, false, eqb, List, [], ◌∷◌, ◌++◌, refl, ap₂, subst, inl, inr, eqb-true}
use Rattle.std.proofs.lemmas.Bool.{eqb-false, true_from_ne_false, false_from_ne_true}
use Rattle.document_grammar.proofs.Booleans.{either}
use Rattle.document_grammar.specs.Booleans.{◌and◌, ◌or◌}
use Rattle.document_grammar.specs.Derivation.{Sort, document, selections, type, Terminal, word, end, terminals}
use Rattle.document_grammar.specs.Kinds.{SELECTION_SET, L_CURLY}
use Rattle.document_grammar.specs.Tree.{Token, Tree, none}
use Rattle.grammar_machine.proofs.Classes.{holds-but, only, but}
use Rattle.grammar_machine.proofs.MachineTheorems.{begins_parse, Parse, document-begins, fragments-begin, never-stuck}
use Rattle.grammar_machine.proofs.Sound.{any, first-any, second-any}
use Rattle.grammar_machine.proofs.Steps.{sticks, sticks-move}
use Rattle.grammar_machine.proofs.TableLemmas.{tail-same}
use Rattle.grammar_machine.proofs.ToMachineTree.{Opens}
use Rattle.grammar_machine.specs.Machine.{holds, is_leaf, at, ends, arcs, entries, first, second, opening, start}
use Rattle.grammar_machine.specs.Symbols.{BARE_SELECTIONS}
use Rattle.grammar_machine.specs.Table.{rows, firsts}

-- Each start symbol begins a parse.
pub opens : (sort : Sort) (a : ℕ) → begins_parse (opening sort a) ≡ true
opens document a = document-begins
opens selections a = elim (either (eqb a L_CURLY)) [ inl p ↦ rw p fragments-begin.0 | inr p ↦ rw p fragments-begin.1 ]
opens type a = fragments-begin.2

-- A selection set's first token is `{`; without braces it is not.
tests : (sticks SELECTION_SET 0 (but (L_CURLY ∷ [])) any ≡ true)
    × (sticks BARE_SELECTIONS 0 (only (L_CURLY ∷ [])) any ≡ true)
    × (holds L_CURLY (only (L_CURLY ∷ [])) ≡ true)
unfolding ◌and◌ ◌or◌ holds is_leaf at ends arcs entries rows firsts sticks
tests = (refl, refl, refl)

begins-selection_set : (tree : Tree) (tokens : List Token) → Parse SELECTION_SET tree tokens
    → eqb (first tokens) L_CURLY ≡ true
begins-selection_set tree tokens parse = true_from_ne_false _ (λ e.
    let h : holds (first tokens) (but (L_CURLY ∷ [])) ≡ true =
    holds-but (first tokens) L_CURLY any (but (L_CURLY ∷ [])) (first-any tokens)
    (eqb-false _ _ e) refl in
    never-stuck SELECTION_SET fragments-begin.0 tree tokens SELECTION_SET 0 none [] tokens parse start
    (sticks-move SELECTION_SET 0 (but (L_CURLY ∷ [])) any (first tokens) (second tokens) tests.0 h (second-any tokens)))

begins-bare_selections : (tree : Tree) (tokens : List Token) → Parse BARE_SELECTIONS tree tokens
    → eqb (first tokens) L_CURLY ≡ false
begins-bare_selections tree tokens parse = false_from_ne_true _ (λ e.
    let h : holds (first tokens) (only (L_CURLY ∷ [])) ≡ true = rw (eqb-true (first tokens) L_CURLY e) tests.2 in
    never-stuck BARE_SELECTIONS fragments-begin.1 tree tokens BARE_SELECTIONS 0 none [] tokens parse start
    (sticks-move BARE_SELECTIONS 0 (only (L_CURLY ∷ [])) any (first tokens) (second tokens) tests.1
    h (second-any tokens)))

pub opens-by : (sort : Sort) (child : ℕ) (tree : Tree) (tokens : List Token) → Opens sort child
    → Parse child tree tokens → child ≡ opening sort (first tokens)
opens-by document child tree tokens e parse = e
opens-by selections child tree tokens e parse = elim e [
  | inl c ↦ rw (begins-selection_set tree tokens (subst (λ (n : ℕ). Parse n tree tokens) c parse)) c
  | inr c ↦ rw (begins-bare_selections tree tokens (subst (λ (n : ℕ). Parse n tree tokens) c parse)) c
]
opens-by type child tree tokens e parse = e

pub first-same : (tokens rest more : List Token) → first rest ≡ first more
    → first (tokens ++ rest) ≡ first (tokens ++ more)
unfolding first
first-same [] rest more e = e
first-same (token ∷ tokens) rest more e = refl

-- The tokens read as terminals; the next two terminals; the next one.
abbrev pub read : List Token → List Terminal
read [] = []
read (token ∷ tokens) = word token ∷ read tokens

abbrev pub next_two : List Token → List Terminal
next_two [] = end ∷ []
next_two (token ∷ []) = word token ∷ end ∷ []
next_two (token ∷ (next_token ∷ rest)) = word token ∷ word next_token ∷ []

abbrev pub next_one : List Token → List Terminal
next_one [] = end ∷ []
next_one (token ∷ rest) = word token ∷ []

two-from : (rest tokens : List Token) (these_terminals : List Terminal)
    → terminals tokens ≡ next_two rest ++ these_terminals
    → (first rest ≡ first tokens) × (second rest ≡ second tokens)
unfolding first second
two-from [] [] these_terminals e = (refl, refl)
two-from (token ∷ []) (next_token ∷ []) these_terminals e = (cc, refl)
two-from (token ∷ (next_token ∷ rest)) (second_token ∷ (d ∷ tokens)) these_terminals e = (cc, cc)
two-from _ _ these_terminals e = absurd (cc)

one-from : (rest tokens : List Token) (these_terminals : List Terminal)
    → terminals tokens ≡ next_one rest ++ these_terminals → first rest ≡ first tokens
unfolding first
one-from [] [] these_terminals e = refl
one-from (token ∷ rest) (next_token ∷ tokens) these_terminals e = cc
one-from _ _ these_terminals e = absurd (cc)

-- What begins with the tokens read goes on with the rest.
pub after-read : (tokens : List Token) (these_terminals : List Terminal) (more : List Token)
    (more_terminals : List Terminal)
    → terminals more ≡ (read tokens ++ these_terminals) ++ more_terminals
    → (others : List Token) × (more ≡ tokens ++ others) × (terminals others ≡ these_terminals ++ more_terminals)
after-read [] these_terminals more more_terminals e = (more, refl, e)
after-read (token ∷ tokens) these_terminals [] more_terminals e = absurd (cc)
after-read (token ∷ tokens) these_terminals (next_token ∷ more) more_terminals e =
    let r = after-read tokens these_terminals more more_terminals (tail-same e) in let h : next_token ≡ token = cc in
    (r.0, ap₂ (λ (x : Token) (others : List Token). x ∷ others) h r.1, r.2)

pub after-two : (tokens rest more : List Token) (these_terminals : List Terminal)
    → terminals more ≡ (read tokens ++ next_two rest) ++ these_terminals
    → (others : List Token) × (more ≡ tokens ++ others) × (first rest ≡ first others) × (second rest ≡ second others)
after-two tokens rest more these_terminals e = let h = after-read tokens (next_two rest) more these_terminals e in
    let t = two-from rest h.0 these_terminals h.2 in (h.0, h.1, t.0, t.1)

pub after-one : (tokens rest more : List Token) (these_terminals : List Terminal)
    → terminals more ≡ (read tokens ++ next_one rest) ++ these_terminals
    → (others : List Token) × (more ≡ tokens ++ others) × (first rest ≡ first others)
after-one tokens rest more these_terminals e = let h = after-read tokens (next_one rest) more these_terminals e in
    (h.0, h.1, one-from rest h.0 these_terminals h.2)
