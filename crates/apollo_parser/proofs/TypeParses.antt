-- The root of a type that is parsed by itself, by the first token of the text.
use Rattle.std.proofs.Common.{◌≡◌, ℕ, true, ◌||◌, List, Option, Some, None, refl, sym, ap, ◌∙◌, subst, true≢false}
use Rattle.lexical_grammar.specs.Answers.{Answer}
use Rattle.lexical_grammar.specs.declared.TokenKind.{TokenKind}
use Rattle.lexical_grammar.specs.declared.TokenKind.TheVariants as token
use Rattle.document_grammar.specs.Builds.{nothing}
use Rattle.document_grammar.specs.Choices.{Types}
use Rattle.document_grammar.specs.Numbers.{is_kind}
use Rattle.document_grammar.specs.declared.kind.SyntaxKind.{SyntaxKind}
use Rattle.document_grammar.specs.declared.kind.SyntaxKind.TheVariants as kind
use Rattle.parser_rules.proofs.runs.Reading.{Reading, stops, cuts, bad_text, waits, shows, reading}
use Rattle.parser_rules.specs.Fragments.{unopened, IsTypeRoot, a_list, a_name, not_null, no_type}
use Rattle.parser_rules.specs.RuleLanguage.{Rule, fits, holds}
use Rattle.parser_rules.specs.Rules.{type_start}
use Rattle.parser_rules.specs.State.{State, Lexeme, same_kind, is_at, flush, fresh}
use Rattle.apollo_cst_core.specs.Cast.{one_of}
use Rattle.apollo_parser.proofs.Parses.{answers}
use Rattle.apollo_parser.proofs.RootParses.{one-root}
use Rattle.apollo_parser.specs.ByRules.{ByTypeRule}
use Rattle.apollo_parser.specs.Parsed.{Parsed}
use Rattle.apollo_parser.specs.Parts.{first_kind, starts_type, IsTypeKind, of_name, of_bracket, with_bang, no_start}
use Rattle.apollo_parser.specs.Parts.{OneType}

-- ---- the first token

abbrev kind_now : Option Lexeme → Option TokenKind
kind_now None = None
kind_now (Some t) = Some t.kind

first-read : {xs : List Answer} {s t : State} → Reading xs s t → kind_now t.current ≡ first_kind xs
first-read stops = refl
first-read (cuts h) = first-read h
first-read (bad_text e h) = rw e (first-read h)
first-read (waits e i h) = rw (e, i) (first-read h)
first-read (shows e i) = rw (e, i) refl

first-is : (xs : List Answer) (r : ℕ) → kind_now (unopened xs r).current ≡ first_kind xs
unfolding flush
first-is xs r = first-read (reading xs (record (fresh xs r kind.ERROR) { tree = nothing }))

-- ---- what a test says of it

name-kind : (k : TokenKind) → true ≡ same_kind k token.Name → k ≡ token.Name
unfolding same_kind
name-kind token.Name e = refl
name-kind _ e = absurd cc

bracket-kind : (k : TokenKind) → true ≡ same_kind k token.LBracket → k ≡ token.LBracket
unfolding same_kind
bracket-kind token.LBracket e = refl
bracket-kind _ e = absurd cc

starting-kind : (k : TokenKind) → (same_kind k token.Name || same_kind k token.LBracket) ≡ starts_type (Some k)
unfolding same_kind
starting-kind token.Name = refl
starting-kind token.LBracket = refl
starting-kind _ = refl

name-there : (o : Option Lexeme) → true ≡ is_at token.Name o → kind_now o ≡ Some token.Name
name-there None e = absurd (true≢false e)
name-there (Some t) e = ap Some (name-kind t.kind e)

bracket-there : (o : Option Lexeme) → true ≡ is_at token.LBracket o → kind_now o ≡ Some token.LBracket
bracket-there None e = absurd (true≢false e)
bracket-there (Some t) e = ap Some (bracket-kind t.kind e)

start-there : (o : Option Lexeme) → fits type_start o ≡ starts_type (kind_now o)
start-there None = refl
start-there (Some t) = starting-kind t.kind

-- ---- the root

type-kind : {s : State} {k : SyntaxKind} {q : Rule} → IsTypeRoot s k q → IsTypeKind (kind_now s.current) k
unfolding holds
type-kind {s = s} (a_list e) =
    subst (λ (first : Option TokenKind). IsTypeKind first kind.LIST_TYPE) (sym (bracket-there s.current e)) of_bracket
type-kind {s = s} (a_name e) =
    subst (λ (first : Option TokenKind). IsTypeKind first kind.NAMED_TYPE) (sym (name-there s.current e)) of_name
type-kind {s = s} (not_null e) = with_bang (sym (start-there s.current) ∙ sym e)
type-kind {s = s} (no_type e) = no_start (sym (start-there s.current) ∙ sym e)

pub type-rooted : {s : State} {k : SyntaxKind} {q : Rule} → IsTypeRoot s k q
    → (one_of Types k || is_kind kind.ERROR k) ≡ true
type-rooted (a_list e) = refl
type-rooted (a_name e) = refl
type-rooted (not_null e) = refl
type-rooted (no_type e) = refl

pub one-type : {source : List ℕ} {r k : ℕ} {t : Parsed} → ByTypeRule source r k t
    → OneType (first_kind (answers k source)) t.tree
one-type {source = source} {r = r} {k = k} p =
    let (kids, is) = one-root p.root in
    record {
      kind = p.kind;
      kids = kids;
      is = is;
      starts = subst (λ (first : Option TokenKind). IsTypeKind first p.kind) (first-is (answers k source) r)
          (type-kind p.is);
    }
