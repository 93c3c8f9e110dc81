-- What the keyword of a definition says of the rules: their tests, one after the other, choose the definition that it
-- begins.
use Rattle.std.proofs.Common.{◌≡◌, ◌∙◌, ℕ, Bool, true, false, ◌&&◌, ◌||◌, eqb, cond, List, [], ◌∷◌, Option, Some, None}
use Rattle.std.proofs.Common.{refl, sym, ap, subst, inl, inr}
use Rattle.std.proofs.lemmas.Bool.{eqb-true, and_parts, and_right, or_left, or_right}
use Rattle.std.proofs.lemmas.Slice.Eq.{bytes_eq-Decides}
use Rattle.std.specs.Prelude.{codes}
use Rattle.std.specs.Str.{bytes_eq}
use Rattle.lexical_grammar.specs.declared.TokenKind.{TokenKind}
use Rattle.lexical_grammar.specs.declared.TokenKind.TheVariants as token
use Rattle.document_grammar.proofs.Booleans.{either}
use Rattle.document_grammar.specs.Choices.{is_keyword, keyword_word}
use Rattle.document_grammar.specs.Kinds.{words}
use Rattle.document_grammar.specs.Numbers.{number}
use Rattle.document_grammar.specs.declared.kind.SyntaxKind.{SyntaxKind}
use Rattle.document_grammar.specs.declared.kind.SyntaxKind.TheVariants as kind
use Rattle.parser_rules.proofs.runs.Running.{sequence}
use Rattle.parser_rules.specs.Nodes as rule
use Rattle.parser_rules.specs.Nodes.{Definition, DescribedDefinition, Extensions}
use Rattle.parser_rules.specs.RuleLanguage.{TokenTest, Kind, Keyword, Test, Here, At, Word, Next, fits, holds, Rule}
use Rattle.parser_rules.specs.RuleLanguage.{When, Child, Call, refuse}
use Rattle.parser_rules.specs.Rules.{operation_type, no_definition, no_described, body}
use Rattle.parser_rules.specs.Runs.{Runs, yes, no, call}
use Rattle.parser_rules.specs.State.{State, Text, Lexeme, same_kind, is_word, is_at, second}
use Rattle.parser_rules.specs.declared.message.Message.TheVariants as message
use Rattle.apollo_lexer.specs.declared.token.Token.{Token}
use Rattle.parser_state.proofs.Keywords.{name-is-word}
use Rattle.parser_state.specs.View.{current_of, lexeme_of}
use Rattle.apollo_document.specs.Keywords.{kind_of, IsKeyword, definition_of, extension_of}
use Rattle.apollo_document.specs.declared.grammar.keyword.DefinitionKeyword.{DefinitionKeyword}
use Rattle.apollo_document.specs.declared.grammar.keyword.DefinitionKeyword.TheVariants.{Query, Mutation, Subscription}
use Rattle.apollo_document.specs.declared.grammar.keyword.DefinitionKeyword.TheVariants.{Fragment, Schema, Directive}
use Rattle.apollo_document.specs.declared.grammar.keyword.DefinitionKeyword.TheVariants.{Scalar, Object, Interface}
use Rattle.apollo_document.specs.declared.grammar.keyword.DefinitionKeyword.TheVariants.{Union, Enum, InputObject}

-- ---- the text of a keyword

abbrev pub word_of : DefinitionKeyword → Text
word_of Query = codes "query"
word_of Mutation = codes "mutation"
word_of Subscription = codes "subscription"
word_of Fragment = codes "fragment"
word_of Schema = codes "schema"
word_of Directive = codes "directive"
word_of Scalar = codes "scalar"
word_of Object = codes "type"
word_of Interface = codes "interface"
word_of Union = codes "union"
word_of Enum = codes "enum"
word_of InputObject = codes "input"

words-are : (k : DefinitionKeyword) → keyword_word (number (kind_of k)) ≡ Some (word_of k)
unfolding keyword_word words
words-are Query = refl
words-are _ = refl

are-keywords : (k : DefinitionKeyword) → is_keyword (number (kind_of k)) ≡ true
are-keywords Query = refl
are-keywords _ = refl

-- a name with this text
module _ {o : Option Token} {t : Token} {text : Text} (is : o ≡ Some t) (name : true ≡ is_at token.Name (current_of o))
    (text-is : text ≡ t.text.now) where
  same-text : (k : DefinitionKeyword) → bytes_eq text (word_of k) ≡ is_word (kind_of k) (current_of o)
  same-text k =
      let named : true ≡ is_at token.Name (current_of (Some t)) =
      subst (λ p. true ≡ is_at token.Name (current_of p)) is name in
      name-is-word (kind_of k) (lexeme_of t) text (word_of k) (are-keywords k) (words-are k) named text-is
      ∙ sym (ap (λ p. is_word (kind_of k) (current_of p)) is)

  pub spelled : (k : DefinitionKeyword) → text ≡ word_of k → is_word (kind_of k) (current_of o) ≡ true
  spelled k e = sym (same-text k) ∙ (bytes_eq-Decides text (word_of k)).1 e

  pub misspelled : ((k : DefinitionKeyword) → text ≡ word_of k → ⊥) → (k : DefinitionKeyword)
      → is_word (kind_of k) (current_of o) ≡ false
  misspelled h k = sym (same-text k) ∙ elim (either (bytes_eq text (word_of k))) [
    | inl e ↦ absurd (h k ((bytes_eq-Decides text (word_of k)).0 e))
    | inr e ↦ e
  ]

-- ---- a token that is one keyword is nothing else

other-word : (k j : SyntaxKind) (o : Option Lexeme) → is_word k o ≡ true
    → eqb (number k) (number j) ≡ false → is_word j o ≡ false
other-word k j None h n = refl
other-word k j (Some x) h n =
    and_right (same_kind x.kind token.Name) _
    (subst (λ class. eqb class (number j) ≡ false) (sym (eqb-true _ _ (and_parts _ _ h).1)) n)

equal-class : (b : Bool) (class m n : ℕ) → (b && eqb class m) ≡ true → eqb m n ≡ true → (b && eqb class n) ≡ true
equal-class b class m n h e = subst (λ l. (b && eqb class l) ≡ true) (eqb-true m n e) h

same-word : (k j : SyntaxKind) (o : Option Lexeme) → is_word k o ≡ true
    → eqb (number k) (number j) ≡ true → is_word j o ≡ true
same-word k j None h e = h
same-word k j (Some x) h e = equal-class (same_kind x.kind token.Name) _ (number k) (number j) h e

name-no-brace : (k : TokenKind) → same_kind k token.Name ≡ true → same_kind k token.LCurly ≡ false
unfolding same_kind
name-no-brace token.LCurly e = absurd cc
name-no-brace _ e = refl

word-no-brace : (k : SyntaxKind) (o : Option Lexeme) → is_word k o ≡ true → is_at token.LCurly o ≡ false
word-no-brace k None h = refl
word-no-brace k (Some x) h = name-no-brace x.kind (and_parts _ _ h).0

none-of-three : (a b c : Bool) → a ≡ false → b ≡ false → c ≡ false → (a || (b || c)) ≡ false
none-of-three a b c e f g = rw (e, f, g) refl

no-operation : (k : SyntaxKind) (o : Option Lexeme) → is_word k o ≡ true
    → eqb (number k) (number kind.query_KW) ≡ false → eqb (number k) (number kind.mutation_KW) ≡ false
    → eqb (number k) (number kind.subscription_KW) ≡ false
    → fits operation_type o ≡ false
no-operation k o h l m n =
    none-of-three _ _ _ (other-word k kind.query_KW o h l) (other-word k kind.mutation_KW o h m)
    (other-word k kind.subscription_KW o h n)

-- ---- tests of keywords, one after the other

abbrev ladder : (TokenTest → Test) → List (SyntaxKind × Rule) → Rule → Rule
ladder at [] none = none
ladder at (w ∷ more) none = When (at (Keyword w.0)) w.1 (ladder at more none)

-- their choice where the token is the keyword with the number
abbrev choice : ℕ → List (SyntaxKind × Rule) → Rule → Rule
choice n [] none = none
choice n (w ∷ more) none = cond (eqb n (number w.0)) w.1 (choice n more none)

module _ (at : TokenTest → Test) (o : Option Lexeme) {s : State}
    (is : (q : TokenTest) → holds (at q) s ≡ fits q o) where
  there : {q : TokenTest} {a b : Rule} {t : State} → fits q o ≡ true → Runs a s t → Runs (When (at q) a b) s t
  there {q = q} e r = yes (sym (is q ∙ e)) r

  missing : {q : TokenTest} {a b : Rule} {t : State} → fits q o ≡ false → Runs b s t → Runs (When (at q) a b) s t
  missing {q = q} e r = no (sym (is q ∙ e)) r

  chosen : (k : SyntaxKind) (ws : List (SyntaxKind × Rule)) (none : Rule) {t : State}
      → is_word k o ≡ true → Runs (choice (number k) ws none) s t → Runs (ladder at ws none) s t
  chosen k [] none h r = r
  chosen k (w ∷ more) none h r = elim (either (eqb (number k) (number w.0))) [
    | inl e ↦ there {q = Keyword w.0} (same-word k w.0 o h e) (rw e at r)
    | inr e ↦ missing {q = Keyword w.0} (other-word k w.0 o h e) (chosen k more none h (rw e at r))
  ]

-- ---- a definition: its tests, of the current token or of the next one

abbrev type_system : List (SyntaxKind × Rule)
type_system =
    (kind.schema_KW, Child rule.SchemaDefinition)
    ∷ (kind.directive_KW, Child rule.DirectiveDefinition)
    ∷ (kind.scalar_KW, Child rule.ScalarTypeDefinition)
    ∷ (kind.type_KW, Child rule.ObjectTypeDefinition)
    ∷ (kind.interface_KW, Child rule.InterfaceTypeDefinition)
    ∷ (kind.union_KW, Child rule.UnionTypeDefinition)
    ∷ (kind.enum_KW, Child rule.EnumTypeDefinition)
    ∷ (kind.input_KW, Child rule.InputObjectTypeDefinition)
    ∷ []

abbrev definition_at : (TokenTest → Test) → Rule → Rule → Rule → Rule
definition_at at brace extension none =
    When (at operation_type) (Child rule.OperationDefinition)
    (When (at (Keyword kind.fragment_KW)) (Child rule.FragmentDefinition)
    (When (at (Kind token.LCurly)) brace
    (ladder at ((kind.extend_KW, extension) ∷ type_system) none)))

module _ (at : TokenTest → Test) (o : Option Lexeme) {s : State} (is : (q : TokenTest) → holds (at q) s ≡ fits q o)
    {brace extension none : Rule} {t : State} where
  found : (k : DefinitionKeyword) → is_word (kind_of k) o ≡ true → Runs (Child (definition_of k)) s t
      → Runs (definition_at at brace extension none) s t
  found Query h r = there at o is (or_left _ _ h) r
  found Mutation h r = there at o is (or_right (is_word kind.query_KW o) _ (or_left _ _ h)) r
  found Subscription h r =
      there at o is (or_right (is_word kind.query_KW o) _ (or_right (is_word kind.mutation_KW o) _ h)) r
  found Fragment h r = missing at o is (no-operation kind.fragment_KW o h refl refl refl) (there at o is h r)
  found k h r =
      missing at o is (no-operation (kind_of k) o h refl refl refl)
      (missing at o is (other-word (kind_of k) kind.fragment_KW o h refl)
      (missing at o is (word-no-brace (kind_of k) o h)
      (chosen at o is (kind_of k) ((kind.extend_KW, extension) ∷ type_system) none h r)))

  not-found : ((k : DefinitionKeyword) → is_word (kind_of k) o ≡ false)
      → Runs (When (at (Kind token.LCurly)) brace (When (at (Keyword kind.extend_KW)) extension none)) s t
      → Runs (definition_at at brace extension none) s t
  not-found h r = missing at o is (none-of-three _ _ _ (h Query) (h Mutation) (h Subscription))
      (missing at o is (h Fragment) (after r))
    where
      rest : Runs none s t → Runs (ladder at type_system none) s t
      rest r =
          missing at o is (h Schema)
          (missing at o is (h Directive) (missing at o is (h Scalar) (missing at o is (h Object)
          (missing at o is (h Interface)
          (missing at o is (h Union) (missing at o is (h Enum) (missing at o is (h InputObject) r)))))))

      after : Runs (When (at (Kind token.LCurly)) brace (When (at (Keyword kind.extend_KW)) extension none)) s t
          → Runs (When (at (Kind token.LCurly)) brace (ladder at ((kind.extend_KW, extension) ∷ type_system) none)) s t
      after (yes e r) = yes e r
      after (no e (yes f r)) = no e (yes f r)
      after (no e (no f r)) = no e (no f (rest r))

pub by_keyword : (k : DefinitionKeyword) {o : Option Lexeme} {s t : State}
    → is_word (kind_of k) o ≡ true → o ≡ s.current
    → Runs (Child (definition_of k)) s t → Runs (Call Definition) s t
unfolding holds body
by_keyword k {o = o} h e r = call {part = Definition} (found Here o (λ q. sym (ap (fits q) e)) k h r)

pub without_keyword : {o : Option Lexeme} {s t : State}
    → ((k : DefinitionKeyword) → is_word (kind_of k) o ≡ false) → o ≡ s.current
    → Runs (When (At token.LCurly) (Child rule.QueryShorthand)
    (When (Word kind.extend_KW) (Call Extensions) no_definition)) s t → Runs (Call Definition) s t
unfolding holds body
without_keyword {o = o} h e r = call {part = Definition} (not-found Here o (λ q. sym (ap (fits q) e)) h r)

pub described_by_keyword : (k : DefinitionKeyword) {o : Option Lexeme} {s t : State}
    → is_word (kind_of k) o ≡ true → o ≡ second s.items
    → Runs (Child (definition_of k)) s t → Runs (Call DescribedDefinition) s t
unfolding holds body
described_by_keyword k {o = o} h e r = call {part = DescribedDefinition} (found Next o (λ q. sym (ap (fits q) e)) k h r)

pub described_without_keyword : {o : Option Lexeme} {s t : State}
    → ((k : DefinitionKeyword) → is_word (kind_of k) o ≡ false) → o ≡ second s.items
    → Runs (When (Next (Kind token.LCurly)) (refuse message.ExpectedOperation)
    (When (Next (Keyword kind.extend_KW)) (refuse message.InvalidExtension) no_described)) s t
    → Runs (Call DescribedDefinition) s t
unfolding holds body
described_without_keyword {o = o} h e r =
    call {part = DescribedDefinition} (not-found Next o (λ q. sym (ap (fits q) e)) h r)

-- ---- an extension

abbrev extensions : List (SyntaxKind × Rule)
extensions =
    (kind.schema_KW, Child rule.SchemaExtension)
    ∷ (kind.scalar_KW, Child rule.ScalarTypeExtension)
    ∷ (kind.type_KW, Child rule.ObjectTypeExtension)
    ∷ (kind.interface_KW, Child rule.InterfaceTypeExtension)
    ∷ (kind.union_KW, Child rule.UnionTypeExtension)
    ∷ (kind.enum_KW, Child rule.EnumTypeExtension)
    ∷ (kind.input_KW, Child rule.InputObjectTypeExtension)
    ∷ []

module _ (o : Option Lexeme) {s t : State} (is : (q : TokenTest) → holds (Next q) s ≡ fits q o) where
  extended : (k : Option DefinitionKeyword) → IsKeyword o k
      → Runs (extension_of k) s t → Runs (ladder Next extensions (refuse message.InvalidExtension)) s t
  extended (Some Query) h r = chosen Next o is kind.query_KW extensions _ h r
  extended (Some k) h r = chosen Next o is (kind_of k) extensions _ h r
  extended None h r =
      missing Next o is (h Schema)
      (missing Next o is (h Scalar) (missing Next o is (h Object) (missing Next o is (h Interface)
      (missing Next o is (h Union) (missing Next o is (h Enum) (missing Next o is (h InputObject) r))))))

pub extended_by_keyword : (k : Option DefinitionKeyword) {o : Option Lexeme} {s t : State}
    → IsKeyword o k
    → o ≡ second s.items → Runs (extension_of k) s t → Runs (Call Extensions) s t
unfolding holds body
extended_by_keyword k {o = o} h e r = call {part = Extensions} (extended o (λ q. sym (ap (fits q) e)) k h r)

-- what the functions are proved by that choose by a keyword
pub ruleset defining = (sequence, by_keyword)

pub ruleset describing = (sequence, described_by_keyword)

pub ruleset extending = (sequence, extended_by_keyword)
