-- Steps of reading on.
use Rattle.std.proofs.Common.{◌≡◌, ℕ, ◌+◌, ◌<◌, Option, Some, None, is_some, List, ◌∷◌, map, length, get_or, drop, refl}
use Rattle.std.proofs.Common.{sym, ◌∙◌, ap, subst, true, false, Bool, suc, add-one, [], arith}
use Rattle.std.proofs.Math.Seq.{drop-cons}
use Rattle.lexical_grammar.specs.Answers.{Answer, gives, limit_at, AreAnswers}
use Rattle.lexical_grammar.specs.Cut.{Item}
use Rattle.lexical_grammar.specs.declared.TokenKind.{TokenKind}
use Rattle.document_grammar.proofs.Booleans.{not-some}
use Rattle.document_grammar.specs.Builds.{Building, add_leaf}
use Rattle.document_grammar.specs.declared.kind.SyntaxKind.{SyntaxKind}
use Rattle.parser_rules.proofs.runs.Reading.{Reading, stops, cuts, bad_text, waits, shows, reading, found, on_kind}
use Rattle.parser_rules.specs.State.{State, Text, Lexeme, ignored, bad, met, wait, lexeme, read_on, second, add_all}
use Rattle.parser_rules.specs.State.{flush, bump, moved}
use Rattle.apollo_lexer.specs.Answers.{error_answer}
use Rattle.parser_state.specs.Reading.{Taken, IsAnswerText, refused, added}
use Rattle.parser_state.specs.View.{pending_of}
use Rattle.parser_state.specs.declared.state.PendingToken.{PendingToken}

on-is : (rest : List Answer) (s : State) (text : Text) (index : ℕ) (k : TokenKind)
    → read_on (gives (record { kind = Some k; text = text; index = index }) ∷ rest) s
    ≡ on_kind rest s (record { kind = Some k; text = text; index = index }) k (ignored k)
unfolding read_on
on-is rest s text index k = refl

-- bad text, or the limit
pub read_bad : (s t u : State) (limit : Bool) (text : Text) (index : ℕ)
    → Taken (Some (error_answer limit text index)) s t → u ≡ refused limit text index t
    → read_on s.items s ≡ read_on u.items u
unfolding read_on
read_bad s t u true text index h e =
    ap (λ xs. read_on xs s) h.0 ∙ ap (λ w. read_on t.items (met index w)) (sym h.1)
    ∙ sym (ap (λ w. read_on w.items w) e)
read_bad s t u false text index h e =
    ap (λ xs. read_on xs s) h.0 ∙ ap (λ w. read_on t.items (bad text index w)) (sym h.1)
    ∙ sym (ap (λ w. read_on w.items w) e)

pub read-ignored : (s t u : State) (k : TokenKind) (text : Text) (index : ℕ) (kind : SyntaxKind)
    → Taken (Some (gives (record { kind = Some k; text = text; index = index }))) s t
    → Some kind ≡ ignored k → u ≡ wait kind text t → read_on s.items s ≡ read_on u.items u
read-ignored s t u k text index kind h i e =
    let item : Item = record { kind = Some k; text = text; index = index } in
    ap (λ xs. read_on xs s) h.0 ∙ on-is t.items s text index k ∙ sym (ap (on_kind t.items s item k) i)
    ∙ ap (λ w. read_on t.items (wait kind text w)) (sym h.1)
    ∙ sym (ap (λ w. read_on w.items w) e)

pub read-token : (s t : State) (k : TokenKind) (text : Text) (index : ℕ)
    → Taken (Some (gives (record { kind = Some k; text = text; index = index }))) s t
    → None ≡ ignored k → read_on s.items s
    ≡ record t { current = Some (record { kind = k; text = text; index = index }) }
read-token s t k text index h i =
    let item : Item = record { kind = Some k; text = text; index = index } in
    ap (λ xs. read_on xs s) h.0 ∙ on-is t.items s text index k ∙ sym (ap (on_kind t.items s item k) i)
    ∙ sym (ap {A = State} (λ w. record w { current = Some (record { kind = k; text = text; index = index }) }) h.1)

pub read_end : (s t : State) → Taken None s t → read_on s.items s ≡ record t { current = None }
unfolding read_on
read_end s t h = ap (λ xs. read_on xs s) h.0 ∙ sym (ap {A = State} (λ w. record w { current = None }) h.1)

-- reading on does not depend on the token that was current before
forgets : {xs : List Answer} {s t : State} (o : Option Lexeme) → Reading xs s t
    → Reading xs (record s { current = o }) t
forgets o stops = stops
forgets o (cuts h) = cuts (forgets o h)
forgets o (bad_text e h) = bad_text e (forgets o h)
forgets o (waits e i h) = waits e i (forgets o h)
forgets o (shows e i) = shows e i

pub read-anew : (xs : List Answer) (s : State) (o : Option Lexeme)
    → read_on xs (record s { current = o }) ≡ read_on xs s
read-anew xs s o = (found (forgets o (reading xs s))).is

-- the current token becomes a leaf, and the next one is read
pub bumped : (leaf : SyntaxKind) (s f n t : State) (x : Lexeme) (text : Text) → s.current ≡ Some x → text ≡ x.text
    → f ≡ flush s → n ≡ added leaf text f
    → t ≡ read_on n.items n → t ≡ bump leaf s
unfolding bump
bumped leaf s f n t x text c w a b e =
    e ∙ ap (λ (m : State). read_on m.items m) (b ∙ ap (added leaf text) a)
    ∙ read-anew (flush s).items (record (flush s) { tree = add_leaf leaf text (flush s).tree }) None
    ∙ ap (λ (y : Text). read_on (flush s).items (record (flush s) { tree = add_leaf leaf y (flush s).tree })) w
    ∙ ap (moved leaf s) (sym c)

-- an answer that was taken has a text of its kind
first-text : (answer : Answer) (rest items : List Answer) → items ≡ answer ∷ rest → AreAnswers items
    → IsAnswerText (Some answer)
first-text (limit_at index) rest items e h = tt
first-text (gives item) rest items e h = (subst AreAnswers e h).0

pub taken-text : (r : Option Answer) (s t : State) → Taken r s t → AreAnswers s.items → IsAnswerText r
taken-text None s t h k = tt
taken-text (Some answer) s t h k = first-text answer t.items s.items h.0 k

-- one leaf more
pub one_more : (leaves : List PendingToken) (i : ℕ) (d : PendingToken) (b c : Building) → i < length leaves
    → c ≡ add_leaf (get_or leaves i d).kind (get_or leaves i d).text.now b
    → add_all (map pending_of (drop i leaves)) b ≡ add_all (map pending_of (drop (i + 1) leaves)) c
one_more leaves i d b c h e =
    rw add-one (ap {A = List PendingToken} (λ ys. add_all (map pending_of ys) b) (drop-cons leaves i d h)
    ∙ ap (λ x. add_all (map pending_of (drop (suc i) leaves)) x) (sym e))

-- ---- looking past the current token

pub one-less : (answer : Answer) (xs ys : List Answer) → xs ≡ answer ∷ ys → length ys < length xs
one-less answer xs ys e = let n = ap length e in omega (arith, n)

pub second-end : (xs : List Answer) → xs ≡ [] → second xs ≡ None
unfolding second
second-end xs e = ap second e

on_second : List Answer → TokenKind → Item → Option SyntaxKind → Option Lexeme
on_second rest k item found = elim found [ Some leaf ↦ second rest | None ↦ Some (lexeme k item) ]

second-is : (rest : List Answer) (text : Text) (index : ℕ) (k : TokenKind)
    → second (gives (record { kind = Some k; text = text; index = index }) ∷ rest)
    ≡ on_second rest k (record { kind = Some k; text = text; index = index }) (ignored k)
unfolding second on_second
second-is rest text index k = refl

some-leaf : (rest : List Answer) (k : TokenKind) (item : Item) (o : Option SyntaxKind) → is_some o ≡ true
    → on_second rest k item o ≡ second rest
unfolding on_second
some-leaf rest k item None e = absurd cc
some-leaf rest k item (Some leaf) e = refl

pub second-found : (xs rest : List Answer) (k : TokenKind) (text : Text) (index : ℕ) (found : Option SyntaxKind)
    → xs ≡ gives (record { kind = Some k; text = text; index = index }) ∷ rest
    → found ≡ ignored k → is_some found ≡ false → second xs ≡ Some (record { kind = k; text = text; index = index })
unfolding on_second
second-found xs rest k text index found e f i =
    ap second e ∙ second-is rest text index k
    ∙ ap (on_second rest k (record { kind = Some k; text = text; index = index })) (sym f ∙ not-some found i)

pub second-ignored : (xs rest : List Answer) (k : TokenKind) (text : Text) (index : ℕ) (found : Option SyntaxKind)
    → xs ≡ gives (record { kind = Some k; text = text; index = index }) ∷ rest
    → found ≡ ignored k → is_some found ≡ true → second xs ≡ second rest
second-ignored xs rest k text index found e f i =
    ap second e ∙ second-is rest text index k
    ∙ ap (on_second rest k (record { kind = Some k; text = text; index = index })) (sym f)
    ∙ some-leaf rest k (record { kind = Some k; text = text; index = index }) found i

pub second-bad : (xs rest : List Answer) (limit : Bool) (text : Text) (index : ℕ)
    → xs ≡ error_answer limit text index ∷ rest → second xs ≡ second rest
unfolding second
second-bad xs rest true text index e = ap second e
second-bad xs rest false text index e = ap second e
