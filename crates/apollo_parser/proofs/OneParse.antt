-- A parse is a function of the text and of both limits: what the rules make of them, they make alone.
use Rattle.std.proofs.Common.{◌≡◌, ℕ, Option, Some, None, List, [], ◌∷◌, refl, sym, ap, ap₂, ◌∙◌, subst}
use Rattle.std.specs.List.{AllZip}
use Rattle.parser_rules.proofs.runs.OneResult.{one-result}
use Rattle.parser_rules.specs.Messages.{Text, Found, at_text, at_end, at_limit}
use Rattle.parser_rules.specs.State.{State, Report, finished}
use Rattle.apollo_lexer.specs.Diagnostics.{Subject, Diagnostic, of_text, of_end, of_limit}
use Rattle.parser_state.specs.Errors.{IsWorded, IsErrorOf}
use Rattle.parser_state.specs.Found.{found_of}
use Rattle.apollo_parser.specs.ByRules.{ByRules}
use Rattle.apollo_parser.specs.Parsed.{Parsed}

-- ---- a report is said by one error

same-subject : (s t : Subject) → found_of s ≡ found_of t → s ≡ t
same-subject (of_text a) (of_text b) e = ap of_text cc
same-subject of_end of_end e = refl
same-subject of_limit of_limit e = refl
same-subject (of_text a) of_end e = absurd cc
same-subject (of_text a) of_limit e = absurd cc
same-subject of_end (of_text b) e = absurd cc
same-subject of_end of_limit e = absurd cc
same-subject of_limit (of_text b) e = absurd cc
same-subject of_limit of_end e = absurd cc

same-words : (found : Found) (said : Option Text) (a b : Text) → IsWorded found said a → IsWorded found said b → a ≡ b
same-words found (Some words) a b h k = h ∙ sym k
same-words (at_text text) None a b h k = h ∙ sym k
same-words at_end None a b h k = absurd h
same-words at_limit None a b h k = h ∙ sym k

one-error : (r : Report) (d e : Diagnostic) → IsErrorOf r d → IsErrorOf r e → d ≡ e
one-error r d e h k =
    let message = same-words r.found r.message d.message e.message h.message k.message in
    let subject = same-subject d.subject e.subject (h.subject ∙ sym k.subject) in
    let index = h.index ∙ sym k.index in
    λ i. record { message = message i; subject = subject i; index = index i }

one-list : (rs : List Report) (ds es : List Diagnostic) → AllZip IsErrorOf rs ds → AllZip IsErrorOf rs es → ds ≡ es
one-list [] [] [] h k = refl
one-list [] (d ∷ ds) es h k = absurd h
one-list [] [] (e ∷ es) h k = absurd k
one-list (r ∷ rs) [] es h k = absurd h
one-list (r ∷ rs) (d ∷ ds) [] h k = absurd k
one-list (r ∷ rs) (d ∷ ds) (e ∷ es) h k =
    ap₂ (λ (x : Diagnostic) (xs : List Diagnostic). x ∷ xs) (one-error r d e h.0 k.0) (one-list rs ds es h.1 k.1)

-- ---- a text has one parse

pub one-parse : {source : List ℕ} {r k : ℕ} (a b : Parsed) → ByRules source r k a → ByRules source r k b → a ≡ b
one-parse {k = k} a b p q =
    let last : p.last ≡ q.last = one-result refl p.run q.run in
    let tree : a.tree ≡ b.tree = p.tree ∙ ap finished last ∙ sym q.tree in
    let errors : a.errors ≡ b.errors = one-list q.last.errors a.errors b.errors
    (subst (λ (s : State). AllZip IsErrorOf s.errors a.errors) last p.errors) q.errors in
    let recursion : a.recursion_limit ≡ b.recursion_limit =
    p.recursion_limit ∙ ap (λ (s : State). record { current = s.depth; high = s.high; limit = s.limit }) last
    ∙ sym q.recursion_limit in
    let tokens : a.token_limit ≡ b.token_limit =
    p.token_limit ∙ ap (λ (s : State). record { current = 0; high = s.asked; limit = k }) last
    ∙ sym q.token_limit in
    λ i. record { tree = tree i; errors = errors i; recursion_limit = recursion i; token_limit = tokens i }
