-- Choices for the tokens of a text, said of the tokens that a derivation spells.
use Rattle.std.proofs.Common.{◌≡◌, ℕ, inl, inr, Bool, true, false, cond, eqb, List, [], ◌∷◌, ◌++◌, refl, sym, ap, ◌∙◌}
use Rattle.std.proofs.Common.{subst, true≢false}
use Rattle.std.proofs.lemmas.Bool.{cases_Bool}
use Rattle.std.specs.Prelude.{map, ◌||◌}
use Rattle.lexical_grammar.specs.Cut.{Word, is_significant_kind}
use Rattle.lexical_grammar.specs.declared.TokenKind.{TokenKind}
use Rattle.lexical_grammar.specs.declared.TokenKind.TheVariants as token
use Rattle.document_grammar.specs.Kinds.{BANG, AMP, COLON, EQ, R_BRACK, PIPE, IDENT}
use Rattle.document_grammar.specs.Sentence.{leaf_number, token_of}
use Rattle.document_grammar.specs.Tree.{Text, Token}
use Rattle.format_layout.proofs.Significant.{significant}
use Rattle.format_layout.specs.Chosen.{Choice, stays, goes, signed, chosen, pipe_word, IsAllowed, AreAllowed}
use Rattle.format_layout.specs.Leads.{after_equals, after_name, lead_after, may_come, may_go}
use Rattle.format_layout.specs.Signs.{without_marked}
use Rattle.format_layout.specs.declared.lead.Lead.{Lead}
use Rattle.format_layout.specs.declared.lead.Lead.TheVariants.{Colon, Typed, Members, Pipe, Amp, Implements, On, Other}

abbrev pub pipe_token : Token
pipe_token = (PIPE, 124 ∷ [])

-- the lead after a token, by the number of its leaf
abbrev pub step : Lead → ℕ → Text → Lead
step lead k x =
    cond (eqb k IDENT) (after_name lead x)
    (cond (eqb k COLON) Colon
    (cond (eqb k BANG || eqb k R_BRACK) Typed
    (cond (eqb k EQ) (after_equals lead)
    (cond (eqb k PIPE) Pipe
    (cond (eqb k AMP) Amp Other)))))

abbrev pub goes_at : Lead → ℕ → Bool
goes_at Members k = eqb k PIPE
goes_at On k = eqb k PIPE
goes_at Implements k = eqb k AMP
goes_at _ k = false

abbrev pub comes_at : Lead → ℕ → Bool
comes_at Members k = eqb k IDENT
comes_at _ k = false

abbrev pub Permits : Lead → Choice → ℕ → Type 0
Permits lead stays k = Unit {0}
Permits lead goes k = goes_at lead k ≡ true
Permits lead signed k = comes_at lead k ≡ true

-- from a lead on, each choice may be made
abbrev pub Fit : Lead → List Choice → List Token → Type 0
Fit lead [] [] = Unit {0}
Fit lead [] (a ∷ ts) = ⊥
Fit lead (c ∷ cs) [] = ⊥
Fit lead (c ∷ cs) (a ∷ ts) = Permits lead c a.0 × Fit (step lead a.0 a.1) cs ts

-- as many choices as elements
abbrev pub Along : {A : Type 0} → List Choice → List A → Type 0
Along [] [] = Unit {0}
Along [] (x ∷ xs) = ⊥
Along (c ∷ cs) [] = ⊥
Along (c ∷ cs) (x ∷ xs) = Along cs xs

-- as many choices as marks, and only what is marked goes
abbrev pub AtMarks : List Choice → List Bool → Type 0
AtMarks [] [] = Unit {0}
AtMarks [] (m ∷ ms) = ⊥
AtMarks (c ∷ cs) [] = ⊥
AtMarks (stays ∷ cs) (m ∷ ms) = AtMarks cs ms
AtMarks (goes ∷ cs) (m ∷ ms) = (m ≡ true) × AtMarks cs ms
AtMarks (signed ∷ cs) (m ∷ ms) = AtMarks cs ms

-- ---- lists

pub chosen-append : {A : Type 0} (sign : A) (cs ds : List Choice) (xs ys : List A) → Along cs xs
    → chosen sign (cs ++ ds) (xs ++ ys) ≡ chosen sign cs xs ++ chosen sign ds ys
chosen-append sign [] ds [] ys l = refl
chosen-append sign [] ds (x ∷ xs) ys l = absurd l
chosen-append sign (c ∷ cs) ds [] ys l = absurd l
chosen-append sign (stays ∷ cs) ds (x ∷ xs) ys l = ap (λ r. x ∷ r) (chosen-append sign cs ds xs ys l)
chosen-append sign (goes ∷ cs) ds (x ∷ xs) ys l = chosen-append sign cs ds xs ys l
chosen-append sign (signed ∷ cs) ds (x ∷ xs) ys l = ap (λ r. sign ∷ x ∷ r) (chosen-append sign cs ds xs ys l)

pub along-append : {A : Type 0} (cs ds : List Choice) (xs ys : List A) → Along cs xs → Along ds ys
    → Along (cs ++ ds) (xs ++ ys)
along-append [] ds [] ys l m = m
along-append [] ds (x ∷ xs) ys l m = absurd l
along-append (c ∷ cs) ds [] ys l m = absurd l
along-append (c ∷ cs) ds (x ∷ xs) ys l m = along-append cs ds xs ys l m

pub at-append : (cs ds : List Choice) (ms ns : List Bool) → AtMarks cs ms → AtMarks ds ns
    → AtMarks (cs ++ ds) (ms ++ ns)
at-append [] ds [] ns l m = m
at-append [] ds (x ∷ xs) ns l m = absurd l
at-append (c ∷ cs) ds [] ns l m = absurd l
at-append (stays ∷ cs) ds (x ∷ xs) ns l m = at-append cs ds xs ns l m
at-append (goes ∷ cs) ds (x ∷ xs) ns l m = (l.0, at-append cs ds xs ns l.1 m)
at-append (signed ∷ cs) ds (x ∷ xs) ns l m = at-append cs ds xs ns l m

pub at-along : (cs : List Choice) (ms : List Bool) → AtMarks cs ms → Along cs ms
at-along [] [] l = tt
at-along [] (m ∷ ms) l = l
at-along (c ∷ cs) [] l = l
at-along (stays ∷ cs) (m ∷ ms) l = at-along cs ms l
at-along (goes ∷ cs) (m ∷ ms) l = at-along cs ms l.1
at-along (signed ∷ cs) (m ∷ ms) l = at-along cs ms l

-- ---- from words to tokens

pub significant-goes : (lead : Lead) (kind : TokenKind) → may_go lead kind ≡ true
    → (is_significant_kind kind ≡ true) × (goes_at lead (leaf_number kind) ≡ true)
significant-goes Members token.Pipe h = (refl, refl)
significant-goes On token.Pipe h = (refl, refl)
significant-goes Implements token.Amp h = (refl, refl)
significant-goes _ _ h = absurd (cc)

pub significant-comes : (lead : Lead) (kind : TokenKind) → may_come lead kind ≡ true
    → (is_significant_kind kind ≡ true) × (comes_at lead (leaf_number kind) ≡ true)
significant-comes Members token.Name h = (refl, refl)
significant-comes _ _ h = absurd (cc)

step-is : (lead : Lead) (kind : TokenKind) (text : Text) → is_significant_kind kind ≡ true
    → step lead (leaf_number kind) text ≡ lead_after lead kind text
step-is lead token.Whitespace text h = absurd (cc)
step-is lead token.Comment text h = absurd (cc)
step-is lead token.Comma text h = absurd (cc)
step-is lead token.Eof text h = absurd (cc)
step-is lead _ text h = refl

ignored-lead : (lead : Lead) (kind : TokenKind) (text : Text) → is_significant_kind kind ≡ false
    → lead_after lead kind text ≡ lead
ignored-lead lead token.Whitespace text h = refl
ignored-lead lead token.Comment text h = refl
ignored-lead lead token.Comma text h = refl
ignored-lead lead token.Eof text h = refl
ignored-lead lead _ text h = absurd (cc)

abbrev pub tokens : List Word → List Token
tokens words = map token_of (significant words)

-- the choices for the tokens of some words
pub record Tokens (lead : Lead) (cs : List Choice) (words : List Word) : Type 0 where
  pub choices : List Choice
  pub fit : Fit lead choices (tokens words)
  pub same : tokens (chosen pipe_word cs words) ≡ chosen pipe_token choices (tokens words)
  pub marks : (ms : List Bool) → AtMarks choices ms
      → without_marked ms words ≡ without_marked (chosen true choices ms) (chosen pipe_word cs words)

significant-one : (word : Word) (words : List Word) → is_significant_kind word.kind ≡ true
    → significant (word ∷ words) ≡ word ∷ significant words
significant-one word words h = rw h refl

ignored-one : (word : Word) (words : List Word) → is_significant_kind word.kind ≡ false
    → significant (word ∷ words) ≡ significant words
ignored-one word words h = rw h refl

kept-marks : (word : Word) (words : List Word) (m : Bool) (ms : List Bool) → is_significant_kind word.kind ≡ true
    → without_marked (m ∷ ms) (word ∷ words) ≡ cond m (without_marked ms words) (word ∷ without_marked ms words)
kept-marks word words m ms h = rw h refl

ignored-marks : (word : Word) (words : List Word) (ms : List Bool) → is_significant_kind word.kind ≡ false
    → without_marked ms (word ∷ words) ≡ word ∷ without_marked ms words
ignored-marks word words [] h = refl
ignored-marks word words (m ∷ ms) h = rw h refl

permitted : (lead : Lead) (c : Choice) (word : Word) → IsAllowed lead c word → Permits lead c (leaf_number word.kind)
permitted lead stays word h = tt
permitted lead goes word h = (significant-goes lead word.kind h).1
permitted lead signed word h = (significant-comes lead word.kind h).1

same-one : (c : Choice) (cs ds : List Choice) (word : Word) (words : List Word) → is_significant_kind word.kind ≡ true
    → tokens (chosen pipe_word cs words) ≡ chosen pipe_token ds (tokens words)
    → tokens (chosen pipe_word (c ∷ cs) (word ∷ words)) ≡ chosen pipe_token (c ∷ ds) (token_of word ∷ tokens words)
same-one stays cs ds word words h e =
    ap (map token_of) (significant-one word (chosen pipe_word cs words) h) ∙ ap (λ l. token_of word ∷ l) e
same-one goes cs ds word words h e = e
same-one signed cs ds word words h e =
    ap (λ l. pipe_token ∷ map token_of l) (significant-one word (chosen pipe_word cs words) h)
    ∙ ap (λ l. pipe_token ∷ token_of word ∷ l) e

marks-one : (c : Choice) (cs ds : List Choice) (word : Word) (words : List Word) → is_significant_kind word.kind ≡ true
    → ((ms : List Bool) → AtMarks ds ms
    → without_marked ms words ≡ without_marked (chosen true ds ms) (chosen pipe_word cs words))
    → (ms : List Bool) → AtMarks (c ∷ ds) ms
    → without_marked ms (word ∷ words)
    ≡ without_marked (chosen true (c ∷ ds) ms) (chosen pipe_word (c ∷ cs) (word ∷ words))
marks-one c cs ds word words h r [] a = absurd a
marks-one stays cs ds word words h r (m ∷ ms) a =
    kept-marks word words m ms h ∙ ap (λ l. cond m l (word ∷ l)) (r ms a)
    ∙ sym (kept-marks word (chosen pipe_word cs words) m (chosen true ds ms) h)
marks-one goes cs ds word words h r (m ∷ ms) a =
    kept-marks word words m ms h ∙ ap (λ b. cond b (without_marked ms words) (word ∷ without_marked ms words)) a.0
    ∙ r ms a.1
marks-one signed cs ds word words h r (m ∷ ms) a =
    kept-marks word words m ms h ∙ ap (λ l. cond m l (word ∷ l)) (r ms a)
    ∙ sym (kept-marks word (chosen pipe_word cs words) m (chosen true ds ms) h)

one-significant : (lead : Lead) (c : Choice) (cs : List Choice) (word : Word) (words : List Word)
    → is_significant_kind word.kind ≡ true → IsAllowed lead c word
    → Tokens (lead_after lead word.kind word.text) cs words → Tokens lead (c ∷ cs) (word ∷ words)
one-significant lead c cs word words h allowed r =
    let e : tokens (word ∷ words) ≡ token_of word ∷ tokens words = ap (map token_of) (significant-one word words h) in
    record {
      choices = c ∷ r.choices;
      fit = subst (λ l. Fit lead (c ∷ r.choices) l) (sym e) (
        permitted lead c word allowed,
        subst (λ l. Fit l r.choices (tokens words)) (sym (step-is lead word.kind word.text h)) r.fit,
      );
      same = same-one c cs r.choices word words h r.same ∙ ap (λ l. chosen pipe_token (c ∷ r.choices) l) (sym e);
      marks = marks-one c cs r.choices word words h r.marks;
    }

one-ignored : (lead : Lead) (c : Choice) (cs : List Choice) (word : Word) (words : List Word)
    → is_significant_kind word.kind ≡ false → IsAllowed lead c word
    → Tokens (lead_after lead word.kind word.text) cs words → Tokens lead (c ∷ cs) (word ∷ words)
one-ignored lead goes cs word words h allowed r =
    absurd (true≢false (sym (significant-goes lead word.kind allowed).0 ∙ h))
one-ignored lead signed cs word words h allowed r =
    absurd (true≢false (sym (significant-comes lead word.kind allowed).0 ∙ h))
one-ignored lead stays cs word words h allowed r =
    let e : tokens (word ∷ words) ≡ tokens words = ap (map token_of) (ignored-one word words h) in
    record {
      choices = r.choices;
      fit = subst (λ l. Fit lead r.choices l) (sym e)
          (subst (λ l. Fit l r.choices (tokens words)) (ignored-lead lead word.kind word.text h) r.fit);
      same = ap (map token_of) (ignored-one word (chosen pipe_word cs words) h) ∙ r.same
          ∙ ap (λ l. chosen pipe_token r.choices l) (sym e);
      marks = λ ms a. ignored-marks word words ms h ∙ ap (λ l. word ∷ l) (r.marks ms a)
          ∙ sym (ignored-marks word (chosen pipe_word cs words) (chosen true r.choices ms) h);
    }

-- the choices for the significant tokens of some words alone
pub to-tokens : (lead last : Lead) (cs : List Choice) (words : List Word) → AreAllowed lead cs words last
    → Tokens lead cs words
to-tokens lead last [] [] h = record { choices = []; fit = tt; same = refl; marks = λ ms a. refl }
to-tokens lead last [] (word ∷ words) h = absurd h
to-tokens lead last (c ∷ cs) [] h = absurd h
to-tokens lead last (c ∷ cs) (word ∷ words) h =
    let rest = to-tokens (lead_after lead word.kind word.text) last cs words h.1 in
    elim (cases_Bool (is_significant_kind word.kind)) [
      | inl p ↦ one-significant lead c cs word words p h.0 rest
      | inr p ↦ one-ignored lead c cs word words p h.0 rest
    ]
