-- The machine's classes of the next two tokens, where the rules' sets hold the current one and the one after it.
use Rattle.std.proofs.Common.{◌≡◌, ℕ, ◌^◌, Bool, true, false, cond, ap, ◌∙◌, List, [], ◌++◌, Option, Some, None, refl}
use Rattle.std.proofs.Common.{sym, subst, inl, inr}
use Rattle.lexical_grammar.specs.Answers.{Answer, is_end}
use Rattle.lexical_grammar.specs.declared.TokenKind.{TokenKind}
use Rattle.document_grammar.proofs.Booleans.{either, false-true}
use Rattle.document_grammar.specs.Sentence.{leaf_number}
use Rattle.document_grammar.specs.Tree.{Token}
use Rattle.grammar_machine.proofs.Checks.{disjoint}
use Rattle.grammar_machine.proofs.TableLemmas.{holds-disjoint, holds-or}
use Rattle.grammar_machine.specs.Machine.{holds as within, class, first as first_class, second as second_class}
use Rattle.parser_rules.proofs.lookahead.FirstSets.{without}
use Rattle.parser_rules.proofs.lookahead.TokenSets.{edges, absent, lexeme_class, class_of, ready, not-zero, holds-minus}
use Rattle.parser_rules.proofs.lookahead.TokenSets.{Seen}
use Rattle.parser_rules.proofs.reports.NoReport.{EndsWell, Now, rest, answers_tokens, current_tokens, ignored-tokens}
use Rattle.parser_rules.proofs.reports.NoReport.{ignored-end, end-kind, significant, end-or-token}
use Rattle.parser_rules.proofs.runs.Reading.{Reading, stops, cuts, bad_text, waits, shows, reading-none, looks}
use Rattle.parser_rules.proofs.soundness.TableCheck.{absent_as_end}
use Rattle.parser_rules.specs.State.{State, Lexeme, second}

-- ---- the end, where no token is

pub absent-is-end : (y : ℕ) → within absent y ≡ true → within 0 (absent_as_end y) ≡ true
absent-is-end y h = elim (either (disjoint y (2 ^ absent))) [
  | inl d ↦ false-true (holds-disjoint absent y (2 ^ absent) d h) edges.none_one
  | inr d ↦ rw d (holds-or 0 (without y (2 ^ absent)) 1 (inr edges.end_one))
]

pub present-stays : (a y : ℕ) → within a (2 ^ absent) ≡ false → within a y ≡ true → within a (absent_as_end y) ≡ true
present-stays a y n h = elim (either (disjoint y (2 ^ absent))) [
  | inl d ↦ rw d h
  | inr d ↦ rw d (holds-or a (without y (2 ^ absent)) 1 (inl (holds-minus a y (2 ^ absent) h n)))
]

ready-shown : disjoint ready (2 ^ absent) ≡ true
ready-shown = refl

class-shown : (token : Token) → within (class token) (2 ^ absent) ≡ false
class-shown token = holds-disjoint (class token) ready (2 ^ absent) ready-shown (not-zero token)

-- ---- the first of some answers

-- the first class is in a set of the machine's, where the class of the token that is read next is in the rules' set
sees : {xs : List Answer} {state after : State} → Reading xs state after → (y : ℕ) → EndsWell xs
    → within (class_of after.current) y ≡ true
    → within (first_class (answers_tokens xs)) (absent_as_end y) ≡ true
unfolding first_class
sees stops y ends_well h = absurd ends_well
sees (cuts reading) y ends_well h =
    rw ends_well (absent-is-end y
    (subst (λ (o : Option Lexeme). within (class_of o) y ≡ true) (reading-none reading ends_well) h))
sees (bad_text i reading) y ends_well h = rw i (sees reading y (rw i at ends_well) h)
sees (waits {item = item} {this_token_kind = this_token_kind} {own = own} i j reading) y ends_well h =
    rw (i, ignored-tokens this_token_kind own item.text j)
    (sees reading y (rw (i, ignored-end this_token_kind own j) at ends_well) h)
sees (shows {item = item} {this_token_kind = this_token_kind} {xs = xs} i j) y ends_well h =
    elim (either (is_end this_token_kind)) [
      | inl z ↦ (let n : xs ≡ [] = rw (i, z) at ends_well in
          rw (i, n, end-kind this_token_kind z) (present-stays 0 y edges.end_none (rw z at h)))
      | inr z ↦ (let token : Token = (leaf_number this_token_kind, item.text) in
          rw (i, significant this_token_kind item.text z j)
          (present-stays (class token) y (class-shown token) (rw z at h)))
    ]

-- the current token's class is the machine's class of the first token that is left
pub current-class : (found : Option Lexeme) (items : List Answer) → Now found items
    → class_of found ≡ first_class (current_tokens found ++ answers_tokens items)
unfolding first_class
current-class None items now = absurd now
current-class (Some t) items now = elim (end-or-token t items now) [
  | inl a ↦ ap (λ (k : TokenKind). lexeme_class k t.text) a.kind ∙ sym (ap first_class a.nothing)
  | inr a ↦ ap (λ (b : Bool). cond b 0 (class (leaf_number t.kind, t.text))) a.is_end ∙ sym (ap first_class a.first)
]

-- ---- the next two

pub record Next (x y : ℕ) (remaining : List Token) : Type 0 where
  pub near : within (first_class remaining) x ≡ true
  pub far : within (second_class remaining) (absent_as_end y) ≡ true

pub sees-next : (x y : ℕ) (st : State) → Now st.current st.items → Seen x y st → Next x y (rest st)
unfolding first_class second_class second
sees-next x y st now seen = at st.current now seen.near
  where
    far : EndsWell st.items → within (first_class (answers_tokens st.items)) (absent_as_end y) ≡ true
    far ends_well = let l = looks st.items in sees l.2 y ends_well (rw l.3 seen.far)

    at : (found : Option Lexeme) → Now found st.items → within (class_of found) x ≡ true
        → Next x y (current_tokens found ++ answers_tokens st.items)
    at None now h = absurd now
    at (Some t) now h = elim (end-or-token t st.items now) [
      | inl a ↦ subst (Next x y) (sym a.nothing)
          (record { near = rw a.kind at h; far = absent-is-end y (rw a.none at seen.far) })
      | inr a ↦ subst (Next x y) (sym a.first) (record { near = rw a.is_end at h; far = far (rw a.is_end at now.1) })
    ]
