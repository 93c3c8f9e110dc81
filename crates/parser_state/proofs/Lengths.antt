-- The text that a parser has is a part of the source, so its length fits.
use Rattle.std.proofs.Common.{◌≡◌, ℕ, zero, suc, ◌+◌, ◌-◌, ◌<◌, ◌≤◌, ◌^◌, Bool, true, false, List, [], ◌∷◌, ◌++◌}
use Rattle.std.proofs.Common.{length, take, drop, get_or, map, Option, Some, None, ◌⊎◌, inl, inr, refl, sym, ap, ◌∙◌}
use Rattle.std.proofs.Common.{subst, add-one, arith}
use Rattle.std.proofs.Math.Seq.{drop-cons}
use Rattle.std.proofs.lemmas.Bool.Decides.{nat_tests}
use Rattle.std.proofs.lemmas.List.{append-nil, length-append, length-take, map-append}
use Rattle.std.specs.Iterator.{YieldsFirstBy}
use Rattle.std.specs.Prelude.{if◌then◌else◌}
use Rattle.lexical_grammar.proofs.Limited.{limited-text}
use Rattle.lexical_grammar.specs.Answers.{Answer, answer_text, answers_text, limited}
use Rattle.lexical_grammar.specs.Cut.{Item, texts}
use Rattle.lexical_grammar.specs.Reads.{first_item, items_from}
use Rattle.document_grammar.specs.Builds.{Building, built_text, open_text, start, add_leaf, finish, wrap, nothing}
use Rattle.document_grammar.specs.Forests.{text, none, leaf}
use Rattle.document_grammar.specs.declared.kind.SyntaxKind.{SyntaxKind}
use Rattle.parser_rules.specs.State.{State, Text, Lexeme, PendingToken, add_all, flush}
use Rattle.apollo_lexer.specs.Answers.{answers_left, items_left}
use Rattle.apollo_lexer.specs.declared.lexer.Lexer.{Lexer}
use Rattle.apollo_tree.proofs.Steps.{leaf_text, wrap-text, finish-text}
use Rattle.apollo_tree.specs.Sound.{Fits, CanFinish}
use Rattle.parser_state.specs.Lengths.{pending_length, current_length, answer_length, text_length, length_of}
use Rattle.parser_state.specs.Reading.{Taken}
use Rattle.parser_state.specs.Sorted.{sorted_answer}
use Rattle.parser_state.specs.View.{pending_of}
use Rattle.parser_state.specs.declared.state.PendingToken.{PendingToken as Waiting}
use Rattle.parser_state.specs.declared.state.reader.Sorted.{Sorted}

-- ---- what is built

start-text : (k : SyntaxKind) (b : Building) → built_text (start k b) ≡ built_text b
start-text k b = append-nil (open_text b.above ++ text b.here)

leaf-length : (k : SyntaxKind) (t : Text) (b : Building)
    → length (built_text (add_leaf k t b)) ≡ length (built_text b) + length t
leaf-length k t b = ap length (leaf_text k t b) ∙ length-append (built_text b) t

all-length : (parts : List PendingToken) (b : Building)
    → length (built_text (add_all parts b)) ≡ length (built_text b) + pending_length parts
all-length [] b = omega arith
all-length (part ∷ parts) b =
    omega (arith, all-length parts (add_leaf part.kind part.text b), leaf-length part.kind part.text b)

-- ---- what waits

waiting-more : (parts : List PendingToken) (part : PendingToken)
    → pending_length (parts ++ part ∷ []) ≡ pending_length parts + length part.text
waiting-more [] part = omega arith
waiting-more (q ∷ parts) part = omega (arith, waiting-more parts part)

-- ---- what is left

-- no more than the text that is left, of which the first bytes may be the rest of an item
items-length : (offset inside : ℕ) (source : List ℕ)
    → length (texts (items_from offset inside source)) ≤ length source - inside
unfolding items_from
items-length offset inside [] = omega arith
items-length offset (suc inside) (b ∷ bs) = omega (arith, items-length (1 + offset) inside bs)
items-length offset zero (b ∷ bs) =
    let n = (first_item (b ∷ bs)).1 in
    let t = take n (b ∷ bs) in
    let rest = items_from (1 + offset) (n - 1) bs in
    let e = length-append t (texts rest) in
    let m = length-take n (b ∷ bs) in
    let i = items-length (1 + offset) (n - 1) bs in
    grind (arith, nat_tests, e, m, i)

first-length : (n : ℕ) (items : List Item) → length (texts (take n items)) ≤ length (texts items)
first-length zero items = omega arith
first-length (suc n) [] = omega arith
first-length (suc n) (item ∷ items) =
    omega (
      arith,
      length-append item.text (texts (take n items)),
      length-append item.text (texts items),
      first-length n items,
    )

left-length : (done : Bool) (n offset : ℕ) (source : List ℕ)
    → length (answers_text (limited n (if done then [] else items_from offset 0 source))) ≤ length source
left-length true n offset source = let e = ap length (limited-text n []) in omega (arith, e, first-length n [])
left-length false n offset source =
    let items = items_from offset 0 source in
    let e = ap length (limited-text n items) in
    omega (arith, e, first-length n items, items-length offset 0 source)

lexer-length : (l : Lexer) → length (answers_text (answers_left l)) ≤ length l.rest.now
unfolding answers_left items_left
lexer-length l = left-length l.is_finished (l.limit_tracker.limit - l.limit_tracker.current) l.index l.rest.now

-- ---- all of it
length-start : (k : SyntaxKind) (b : Building) (ps : List PendingToken) (o : Option Lexeme) (xs : List Answer)
    → text_length (start k b) ps o xs ≡ text_length b ps o xs
unfolding text_length
length-start k b ps o xs =
    ap (λ t. length t + pending_length ps + current_length o + length (answers_text xs)) (start-text k b)

length-wrap : (index : ℕ) (k : SyntaxKind) (b : Building) (ps : List PendingToken)
    (o : Option Lexeme) (xs : List Answer)
    → text_length (wrap index k b) ps o xs ≡ text_length b ps o xs
unfolding text_length
length-wrap index k b ps o xs =
    ap (λ t. length t + pending_length ps + current_length o + length (answers_text xs)) (wrap-text index k b)

length-finish : (b : Building) (ps : List PendingToken) (o : Option Lexeme) (xs : List Answer) → CanFinish b
    → text_length (finish b) ps o xs ≡ text_length b ps o xs
unfolding text_length
length-finish b ps o xs h =
    ap (λ t. length t + pending_length ps + current_length o + length (answers_text xs)) (finish-text b h)

length-leaf : (k : SyntaxKind) (t : Text) (b : Building) (ps : List PendingToken) (o : Option Lexeme) (xs : List Answer)
    → text_length (add_leaf k t b) ps o xs ≡ length t + text_length b ps o xs
unfolding text_length
length-leaf k t b ps o xs = omega (arith, leaf-length k t b)

-- one token more waits
length-wait : (b : Building) (ps : List PendingToken) (part : PendingToken) (o : Option Lexeme) (xs : List Answer)
    → text_length b (ps ++ part ∷ []) o xs ≡ length part.text + text_length b ps o xs
unfolding text_length
length-wait b ps part o xs = omega (arith, waiting-more ps part)

-- what waits is taken in, or a part of it
length-flush : (b c : Building) (ps : List PendingToken) (o : Option Lexeme) (xs : List Answer)
    → length (built_text c) ≤ length (built_text b) + pending_length ps → text_length c [] o xs ≤ text_length b ps o xs
unfolding text_length
length-flush b c ps o xs le = omega (arith, le)

length-drop : (b : Building) (ps : List PendingToken) (o : Option Lexeme) (xs : List Answer)
    → text_length b [] o xs ≤ text_length b ps o xs
unfolding text_length
length-drop b ps o xs = omega arith

length-all : (b : Building) (ps : List PendingToken) (o : Option Lexeme) (xs : List Answer)
    → text_length (add_all ps b) [] o xs ≡ text_length b ps o xs
unfolding text_length
length-all b ps o xs = omega (arith, all-length ps b)

-- the current token is a part of it
length-current : (b : Building) (ps : List PendingToken) (o : Option Lexeme) (xs : List Answer)
    → text_length b ps o xs ≡ current_length o + text_length b ps None xs
unfolding text_length
length-current b ps o xs = omega arith

-- so is each answer that is left
length-answer : (b : Building) (ps : List PendingToken) (o : Option Lexeme) (xs rest : List Answer) (answer : Answer)
    → xs ≡ answer ∷ rest
    → text_length b ps o xs ≡ length (answer_text answer) + text_length b ps o rest
unfolding text_length
length-answer b ps o xs rest answer e = let n = ap (λ ys. length (answers_text ys)) e in
    omega (arith, n, length-append (answer_text answer) (answers_text rest))

-- the tree so far, with the waiting text, is a part of it
length-built : (b : Building) (ps : List PendingToken) (o : Option Lexeme) (xs : List Answer)
    → length (built_text b) + pending_length ps ≤ text_length b ps o xs
unfolding text_length
length-built b ps o xs = omega arith

-- ---- what each step leaves fits

pub after-start : (k : SyntaxKind) (b c : Building) (ps : List PendingToken) (o : Option Lexeme) (xs : List Answer)
    → c ≡ start k b
    → text_length b ps o xs < 2 ^ 64 → text_length c ps o xs < 2 ^ 64
after-start k b c ps o xs e n = let m = ap (λ d. text_length d ps o xs) e in
    omega (arith, m, length-start k b ps o xs, n)

pub after-wrap : (index : ℕ) (k : SyntaxKind) (b c : Building) (ps : List PendingToken) (o : Option Lexeme)
    (xs : List Answer) → c ≡ wrap index k b
    → text_length b ps o xs < 2 ^ 64 → text_length c ps o xs < 2 ^ 64
after-wrap index k b c ps o xs e n = let m = ap (λ d. text_length d ps o xs) e in
    omega (arith, m, length-wrap index k b ps o xs, n)

pub after-finish : (b c : Building) (ps : List PendingToken) (o : Option Lexeme) (xs : List Answer)
    → c ≡ finish b → CanFinish b
    → text_length b ps o xs < 2 ^ 64 → text_length c ps o xs < 2 ^ 64
after-finish b c ps o xs e h n = let m = ap (λ d. text_length d ps o xs) e in
    omega (arith, m, length-finish b ps o xs h, n)

pub after-leaf : (k : SyntaxKind) (t : Text) (b c : Building) (ps : List PendingToken) (o : Option Lexeme)
    (xs : List Answer) → c ≡ add_leaf k t b
    → length t + text_length b ps o xs < 2 ^ 64 → text_length c ps o xs < 2 ^ 64
after-leaf k t b c ps o xs e n = let m = ap (λ d. text_length d ps o xs) e in
    omega (arith, m, length-leaf k t b ps o xs, n)

pub after-leaf_node : (k l : SyntaxKind) (t : Text) (b c : Building) (ps : List PendingToken) (o : Option Lexeme)
    (xs : List Answer) → Fits k (leaf l t none)
    → c ≡ finish (add_leaf l t (start k b)) → length t + text_length b ps o xs < 2 ^ 64 → text_length c ps o xs < 2 ^ 64
after-leaf_node k l t b c ps o xs f e n =
    let m = length-start k b ps o xs in
    after-finish (add_leaf l t (start k b)) c ps o xs e f
    (after-leaf l t (start k b) (add_leaf l t (start k b)) ps o xs refl (omega (arith, m, n)))

pub after-failed_node : (k : SyntaxKind) (b c : Building) (ps : List PendingToken) (o : Option Lexeme)
    (xs : List Answer) → (c ≡ b) ⊎ (c ≡ start k b)
    → text_length b ps o xs < 2 ^ 64 → text_length c ps o xs < 2 ^ 64
after-failed_node k b c ps o xs (inl e) n = subst (λ d. text_length d ps o xs < 2 ^ 64) (sym e) n
after-failed_node k b c ps o xs (inr e) n = after-start k b c ps o xs e n

pub after-wait : (b : Building) (ps qs : List Waiting) (x : Waiting) (o : Option Lexeme) (xs : List Answer)
    → qs ≡ ps ++ x ∷ []
    → length x.text.now + text_length b (map pending_of ps) o xs < 2 ^ 64
    → text_length b (map pending_of qs) o xs < 2 ^ 64
after-wait b ps qs x o xs e n =
    let m = ap (λ ys. text_length b ys o xs) (ap (map pending_of) e ∙ map-append pending_of ps (x ∷ [])) in
    omega (arith, m, length-wait b (map pending_of ps) (pending_of x) o xs, n)

pub after-drop : (b : Building) (ps : List PendingToken) (qs : List Waiting) (o : Option Lexeme) (xs : List Answer)
    → qs ≡ [] → text_length b ps o xs < 2 ^ 64
    → text_length b (map pending_of qs) o xs < 2 ^ 64
after-drop b ps qs o xs e n = let m = ap (λ ys. text_length b (map pending_of ys) o xs) e in
    omega (arith, m, length-drop b ps o xs, n)

pub after-all : (b c : Building) (ps : List PendingToken) (qs : List Waiting) (o : Option Lexeme) (xs : List Answer)
    → length (built_text c) ≤ length (built_text b) + pending_length ps → qs ≡ []
    → text_length b ps o xs < 2 ^ 64 → text_length c (map pending_of qs) o xs < 2 ^ 64
after-all b c ps qs o xs le e n = let m = ap (λ ys. text_length c (map pending_of ys) o xs) e in
    omega (arith, m, length-flush b c ps o xs le, n)

pub with-current : (b : Building) (ps : List PendingToken) (o : Option Lexeme) (xs : List Answer)
    → current_length o + text_length b ps None xs < 2 ^ 64
    → text_length b ps o xs < 2 ^ 64
with-current b ps o xs n = omega (arith, length-current b ps o xs, n)

pub without-current : (n : ℕ) (s : State) → n + length_of s < 2 ^ 64
    → n + text_length s.tree s.pending None s.items < 2 ^ 64
without-current n s m = omega (arith, length-current s.tree s.pending s.current s.items, m)

pub room-built : (n : ℕ) (b : Building) (ps : List PendingToken) (o : Option Lexeme) (xs : List Answer)
    → n + text_length b ps o xs < 2 ^ 64
    → length (built_text b) + n < 2 ^ 64
room-built n b ps o xs m = omega (arith, length-built b ps o xs, m)

pub room-all : (b : Building) (ps : List PendingToken) (o : Option Lexeme) (xs : List Answer)
    → text_length b ps o xs < 2 ^ 64
    → length (built_text b) + pending_length ps < 2 ^ 64
room-all b ps o xs m = omega (arith, length-built b ps o xs, m)

-- a token that waits alone fits
pub alone-fits : (qs ps : List Waiting) (d : Waiting) (b : Building) (o : Option Lexeme) (xs : List Answer) → qs ≡ ps
    → 1 ≤ length qs → length qs < 2
    → text_length b (map pending_of ps) o xs < 2 ^ 64 → length (get_or qs 0 d).text.now + text_length b [] o xs < 2 ^ 64
unfolding text_length
alone-fits [] ps d b o xs e m n h = omega (arith, m)
alone-fits (q ∷ []) ps d b o xs e m n h = let l = ap (λ ys. pending_length (map pending_of ys)) e in omega (arith, l, h)
alone-fits (q ∷ r ∷ qs) ps d b o xs e m n h = omega (arith, n)

-- the current token fits where what waits was taken in
pub room-bumped : (s f : State) (x : Lexeme) (t : Text) → f ≡ flush s → s.current ≡ Some x → t ≡ x.text
    → length_of s < 2 ^ 64
    → length t + text_length f.tree f.pending None f.items < 2 ^ 64
unfolding flush
room-bumped s f x t e c w n =
    let m = ap current_length c in
    let l = ap length w in
    subst (λ (g : State). length t + text_length g.tree g.pending None g.items < 2 ^ 64) (sym e)
    (omega (
      arith,
      length-all s.tree s.pending None s.items,
      length-current s.tree s.pending s.current s.items,
      m,
      l,
      n,
    ))

-- an answer fits that was left
pub taken-length : (r : Option Answer) (s t : State) → Taken r s t → answer_length r + length_of t ≡ length_of s
taken-length None s t h = let m = ap length_of h.1 in omega (arith, m)
taken-length (Some answer) s t h =
    let m = ap length_of h.1 in
    let l = length-answer s.tree s.pending s.current s.items t.items answer h.0 in
    omega (arith, m, l)

pub after-taken : (b : Building) (ps : List PendingToken) (o : Option Lexeme) (l m : Lexer) (r : Option Sorted)
    → YieldsFirstBy sorted_answer answers_left l r m
    → text_length b ps o (answers_left l) < 2 ^ 64 → text_length b ps o (answers_left m) < 2 ^ 64
after-taken b ps o l m None h n = subst (λ (xs : List Answer). text_length b ps o xs < 2 ^ 64) (h.0 ∙ sym h.1) n
after-taken b ps o l m (Some x) h n =
    let e = length-answer b ps o (answers_left l) (answers_left m) (sorted_answer x) h in omega (arith, e, n)

-- at the beginning, all that the lexer gives is left
pub begun-length : (l m : Lexer) (b : Building) (ps : List Waiting) → m ≡ l → b ≡ nothing → ps ≡ []
    → text_length b (map pending_of ps) None (answers_left m) < 2 ^ 64
unfolding text_length
begun-length l m b ps e f g =
    let x = ap (λ (k : Lexer). length (answers_text (answers_left k))) e in
    let y = ap (λ (d : Building). length (built_text d)) f in
    let z = ap (λ (qs : List Waiting). pending_length (map pending_of qs)) g in
    omega (arith, x, y, z, lexer-length l, l.in_range)

-- ---- what waits is taken in, token by token

pub next-fits : (leaves : List Waiting) (i n : ℕ) (d : Waiting) (b : Building) → i < length leaves
    → length (built_text b) + pending_length (map pending_of (drop i leaves)) ≡ n → n < 2 ^ 64
    → length (built_text b) + length (get_or leaves i d).text.now < 2 ^ 64
next-fits leaves i n d b h m f = let l = ap (λ ys. pending_length (map pending_of ys)) (drop-cons leaves i d h) in
    omega (arith, l, m, f)

pub next-taken : (leaves : List Waiting) (i n : ℕ) (d : Waiting) (b c : Building) → i < length leaves
    → c ≡ add_leaf (get_or leaves i d).kind (get_or leaves i d).text.now b
    → length (built_text b) + pending_length (map pending_of (drop i leaves)) ≡ n
    → length (built_text c) + pending_length (map pending_of (drop (i + 1) leaves)) ≡ n
next-taken leaves i n d b c h e m =
    let l = ap (λ ys. pending_length (map pending_of ys)) (drop-cons leaves i d h) in
    let t = ap (λ x. length (built_text x)) e in
    let k = leaf-length (get_or leaves i d).kind (get_or leaves i d).text.now b in
    rw add-one (omega (arith, l, t, k, m))
