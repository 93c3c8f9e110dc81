-- A text is one string exactly when its first item is a string that is as long as the text.
use Rattle.std.proofs.Common.{◌≡◌, ◌∙◌, ◌<◌, ℕ, suc, List, [], ◌∷◌, ◌++◌, Bool, true, false, not, ◌&&◌, length, ap}
use Rattle.std.proofs.Common.{refl, sym, subst, arith, Option, Some, None}
use Rattle.std.proofs.lemmas.List.{append-nil, length-append, take_at, take_all}
use Rattle.std.specs.Prelude.{⊤, bytes_eq, take}
use Rattle.lexical_grammar.proofs.Cuts.{tok-some}
use Rattle.lexical_grammar.proofs.Standing.{one_token}
use Rattle.lexical_grammar.specs.Answers.{Answer, gives, limit_at, limited, answer_text}
use Rattle.lexical_grammar.specs.Cut.{Item, Cut, IsItem, Stands, texts, end_at}
use Rattle.lexical_grammar.specs.Tokens.{IsString}
use Rattle.lexical_grammar.specs.declared.TokenKind.{TokenKind}
use Rattle.lexical_grammar.specs.declared.TokenKind.TheVariants.{StringValue}
use Rattle.apollo_parser.specs.LexerAnswers.{error_answer}

front : List Answer → Item
front [] = end_at 0
front (gives item ∷ answers) = item
front (limit_at index ∷ answers) = end_at index

abbrev IsStringKind : Option TokenKind → Type 0
IsStringKind (Some StringValue) = ⊤
IsStringKind _ = ⊥

-- ---- such a text is a string

of-length : (source : List ℕ) (k : ℕ) (items : List Item) (t : List ℕ) (i : ℕ) (rest : List Answer) → Cut source items
    → limited (suc k) items ≡ gives (record { kind = Some StringValue; text = t; index = i }) ∷ rest
    → length t ≡ length source → IsString source
unfolding front
of-length source k [] t i rest c e l = absurd c.each
of-length source k (item ∷ []) t i rest c e l =
    absurd (subst (λ (x : Item). IsStringKind x.kind) (sym (ap front e) ∙ c.each) tt)
of-length source k (item ∷ next ∷ more) t i rest c e l =
    let after : List ℕ = texts (next ∷ more) in
    let stands : IsItem (Some StringValue) t after =
    subst (λ (x : Item). IsItem x.kind x.text after) (ap front e) c.each.1 in
    let joined : t ++ after ≡ source = ap (λ (x : Item). x.text ++ after) (sym (ap front e)) ∙ c.joined in
    let whole : t ≡ source =
    sym (take_at t after (length source) l) ∙ ap (take (length source)) joined
    ∙ take_all (length source) source (omega arith) in
    subst IsString whole stands.token

pub is-string : (source : List ℕ) (k : ℕ) (items : List Item) (kind : TokenKind) (t : List ℕ) (i : ℕ)
    (rest : List Answer) → Cut source items
    → StringValue ≡ kind
    → limited (suc k) items ≡ gives (record { kind = Some kind; text = t; index = i }) ∷ rest
    → length t ≡ length source → IsString source
is-string source k items kind t i rest c is e l =
    of-length source k items t i rest c
    (subst (λ (x : TokenKind). limited (suc k) items ≡ gives (record { kind = Some x; text = t; index = i }) ∷ rest)
    (sym is) e) l

-- ---- the first item of a string is the string

no-quote-follows : (b : Bool) → not (b && false) ≡ true
no-quote-follows true = refl
no-quote-follows false = refl

stands-alone : (source : List ℕ) → IsString source → Stands StringValue source []
stands-alone source s = record {
  token = s;
  follows = no-quote-follows (bytes_eq source (34 ∷ 34 ∷ []));
  longest = λ other longer rest e t f. omega (arith, simp length-append at (ap length e));
}

string-item : (kind : Option TokenKind) (text after source : List ℕ) → IsItem kind text after
    → text ++ after ≡ source → IsString source
    → (kind ≡ Some StringValue) × (text ≡ source)
string-item None text after source h e s =
    absurd (h.0 StringValue source [] (append-nil source ∙ sym e) (stands-alone source s))
string-item (Some kind) text after source h e s =
    let one = one_token kind StringValue text after source [] h (stands-alone source s) (e ∙ sym (append-nil source)) in
    (ap (λ (k : TokenKind). Some k) one.0, one.1)

same-item : (item : Item) (kind : Option TokenKind) (text : List ℕ) (index : ℕ) → item.kind ≡ kind
    → item.text ≡ text → item.index ≡ index
    → item ≡ record { kind = kind; text = text; index = index }
same-item item kind text index k t i = rw (← k, ← t, ← i) refl

pub string-first : (source : List ℕ) (k : ℕ) (items : List Item) → Cut source items → IsString source
    → (rest : List Answer) × (limited (suc k) items
    ≡ gives (record { kind = Some StringValue; text = source; index = 0 }) ∷ rest)
string-first source k [] c s = absurd c.each
string-first source k (item ∷ []) c s =
    let some : 0 < length source = tok-some StringValue source s in
    let none : item.text ≡ [] = ap (λ (x : Item). x.text) c.each in
    absurd (omega (arith, some, simp length-append at (ap length c.joined), ap length none))
string-first source k (item ∷ next ∷ more) c s =
    let is : (item.kind ≡ Some StringValue) × (item.text ≡ source) =
    string-item item.kind item.text (texts (next ∷ more)) source c.each.1 c.joined s in (
      limited k (next ∷ more),
      ap (λ (x : Item). gives x ∷ limited k (next ∷ more))
          (same-item item (Some StringValue) source 0 is.0 is.1 c.each.0),
    )

first : List Answer → Answer
first [] = limit_at 0
first (answer ∷ answers) = answer

-- so the first answer of a string's lexer is the string
pub first-answer : (source : List ℕ) (k : ℕ) (items : List Item) (answer : Answer) (rest : List Answer)
    → Cut source items
    → limited (suc k) items ≡ answer ∷ rest → IsString source
    → answer ≡ gives (record { kind = Some StringValue; text = source; index = 0 })
unfolding first
first-answer source k items answer rest c e s = ap first (sym e ∙ (string-first source k items c s).1)

pub some-answer : (source : List ℕ) (k : ℕ) (items : List Item) → Cut source items
    → limited (suc k) items ≡ [] → IsString source → ⊥
some-answer source k items c e s =
    let found = string-first source k items c s in
    let none : ◌≡◌ {A = List Answer} []
    (gives (record { kind = Some StringValue; text = source; index = 0 }) ∷ found.0) = sym e ∙ found.1 in
    (cc)

answer_kind : Answer → Option TokenKind
answer_kind (gives item) = item.kind
answer_kind (limit_at index) = None

pub string-token : (kind : TokenKind) (text source : List ℕ) (index : ℕ)
    → gives (record { kind = Some kind; text = text; index = index })
    ≡ gives (record { kind = Some StringValue; text = source; index = 0 })
    → (kind ≡ StringValue) × (text ≡ source)
unfolding answer_kind
string-token kind text source index e =
    let kinds : ◌≡◌ {A = Option TokenKind} (Some kind) (Some StringValue) = ap answer_kind e in
    let same : kind ≡ StringValue = (cc) in
    (same, ap answer_text e)

pub no-error : (limit : Bool) (text source : List ℕ) (index : ℕ) → error_answer limit text index
    ≡ gives (record { kind = Some StringValue; text = source; index = 0 }) → ⊥
unfolding answer_kind
no-error true text source index e = let none : ◌≡◌ {A = Option TokenKind} None (Some StringValue) = ap answer_kind e in
    (cc)
no-error false text source index e = let none : ◌≡◌ {A = Option TokenKind} None (Some StringValue) = ap answer_kind e in
    (cc)
