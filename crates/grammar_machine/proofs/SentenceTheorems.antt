-- The theorems on sentences, for each sort of them.
use Rattle.std.proofs.Common.{◌≡◌, ℕ, List, [], ◌∷◌, ◌++◌, map, sym, ap, ◌∙◌, subst, take, refl, ap₂}
use Rattle.std.proofs.lemmas.List.{append_cancel_right}
use Rattle.lexical_grammar.specs.Cut.{Item, Significant}
use Rattle.document_grammar.proofs.Texts.{one-cut}
use Rattle.document_grammar.specs.Beginnings.{Starts}
use Rattle.document_grammar.specs.Derivation.{Sort, Spells, Yield, Terminal, word, terminals}
use Rattle.document_grammar.specs.Sentence.{token_of, Sentence}
use Rattle.document_grammar.specs.Tree.{Token, Tree, node, Forest}
use Rattle.grammar_machine.proofs.FromMachineTree.{show}
use Rattle.grammar_machine.proofs.MachineTheorems.{Parse, one-tree, done, done-all, Fault, no-fault, no-leaf, can-end}
use Rattle.grammar_machine.proofs.MachineTheorems.{fault}
use Rattle.grammar_machine.proofs.Run.{next}
use Rattle.grammar_machine.proofs.ShownDerivation.{show-yield, parse-sentence}
use Rattle.grammar_machine.proofs.Sound.{AllSpelt, viable, spent, reach-spent}
use Rattle.grammar_machine.proofs.Starts.{opens, opens-by, first-same, read, next_two, after-two}
use Rattle.grammar_machine.proofs.ToMachineTree.{derivation-read}
use Rattle.grammar_machine.specs.Machine.{first, yield, yields, opening, close, Frame, frame, Reach, Reached, IsStuck}

-- The start symbol for the tokens.
abbrev pub start_symbol : Sort → List Token → ℕ
start_symbol sort tokens = opening sort (first tokens)

-- A fault at the tokens `rest` of `tokens`.
abbrev pub FaultIn : Sort → List Token → List Token → Type 0
FaultIn sort tokens rest = Fault (start_symbol sort tokens) (opens sort (first tokens)) tokens rest

-- The machine has ended the root's node, with the children `forest`, before the tokens `rest`.
abbrev pub Ended : Sort → List Token → Forest → List Token → Type 0
Ended sort tokens forest rest =
    (state : ℕ) × Reach (start_symbol sort tokens) tokens (frame (start_symbol sort tokens) state forest ∷ []) rest
    × (next (start_symbol sort tokens) state rest ≡ close)

-- A sentence's tree is shown by a tree of the tables.
abbrev Shown : Sort → List Token → Tree → Type 0
Shown sort tokens tree =
    (other_tree : Tree) × Parse (start_symbol sort tokens) other_tree tokens × (show other_tree ≡ tree)

pub sentence-parse : (sort : Sort) (tokens : List Token) (tree : Tree) → Spells tokens tree sort
    → Shown sort tokens tree
sentence-parse sort tokens tree spells =
    let d = derivation-read sort tree spells.0 in
    let r = d.2 in
    let y : yield r.0 ≡ tokens = sym (show-yield r.0 r.1) ∙ (ap Yield r.3 ∙ spells.1) in
    (r.0, (r.1, r.2 ∙ opens-by sort d.0 r.0 tokens d.1 (r.1, r.2, y), y), r.3)

-- One derivation.
pub one-derivation : (sort : Sort) (tokens : List Token) (tree other_tree : Tree) → Spells tokens tree sort
    → Spells tokens other_tree sort → tree ≡ other_tree
one-derivation sort tokens tree other_tree spells second_spells =
    let a = sentence-parse sort tokens tree spells in
    let b = sentence-parse sort tokens other_tree second_spells in
    sym a.2 ∙ (ap show (one-tree (start_symbol sort tokens) (opens sort (first tokens)) a.0 b.0 tokens a.1 b.1) ∙ b.2)

-- Soundness: where the root's node ends, it is shown as a derivation of the tokens before.
pub sound : (sort : Sort) (tokens : List Token) (forest : Forest) (rest : List Token) → Ended sort tokens forest rest
    → (tokens ≡ yields forest ++ rest) × Spells (yields forest) (show (node (start_symbol sort tokens) forest)) sort
sound sort tokens forest rest ended =
    let d = done (start_symbol sort tokens) (opens sort (first tokens)) tokens ended.0 forest rest ended.1 ended.2 in
    (d.0, parse-sentence sort (first tokens) (yields forest) (node (start_symbol sort tokens) forest) d.1.0 d.1.1 d.1.2)

-- Over a sentence it ends after all tokens, with the sentence's tree.
pub sound-all : (sort : Sort) (tokens : List Token) (tree : Tree) (forest : Forest) (rest : List Token)
    → Spells tokens tree sort
    → Ended sort tokens forest rest
    → (rest ≡ []) × (show (node (start_symbol sort tokens) forest) ≡ tree)
sound-all sort tokens tree forest rest spells ended =
    let a = sentence-parse sort tokens tree spells in
    let d = done-all (start_symbol sort tokens) (opens sort (first tokens)) a.0 tokens ended.0 forest rest a.1
    ended.1 ended.2 in
    (d.0, ap show d.1 ∙ a.2)

-- Acceptance: the tokens of a sentence have no fault.
pub accepts : (sort : Sort) (tokens rest : List Token) (tree : Tree) → Spells tokens tree sort
    → FaultIn sort tokens rest → ⊥
accepts sort tokens rest tree spells fault_in = let a = sentence-parse sort tokens tree spells in
    no-fault (start_symbol sort tokens) (opens sort (first tokens)) a.0 tokens rest a.1 fault_in

-- No late fault: what the machine has read, wherever it comes, begins a sentence, which goes on with listed tokens.
pub begins-at : (sort : Sort) (tokens : List Token) (fs : List Frame) (rest : List Token)
    → Reach (start_symbol sort tokens) tokens fs rest
    → (more : List Token) × (tokens ≡ more ++ rest)
    × ((tree : Tree) × (others : List Token) × Spells (more ++ others) tree sort × AllSpelt others)
begins-at sort tokens fs rest reach =
    let s = start_symbol sort tokens in
    let o = opens sort (first tokens) in
    let h = viable (no-leaf s o) (can-end s o) reach in (
      spent fs,
      reach-spent reach,
      (show h.0, h.1, parse-sentence sort (first tokens) (spent fs ++ h.1) h.0 h.2 h.3 h.4, h.5),
    )

-- No early fault: no sentence begins with the tokens before it and the next two.
pub not-starts : (sort : Sort) (tokens rest : List Token) (fault_in : FaultIn sort tokens rest)
    → Starts sort (read fault_in.before ++ next_two rest) → ⊥
not-starts sort tokens rest fault_in starts =
    let a = after-two fault_in.before rest starts.0 starts.2 starts.4 in
    let b = sentence-parse sort starts.0 starts.1 starts.3 in
    let start : first starts.0 ≡ first tokens =
    ap first a.1 ∙ (sym (first-same fault_in.before rest a.0 a.2) ∙ sym (ap first fault_in.split)) in
    fault_in.not_early b.0 a.0 (b.1.0, b.1.1 ∙ ap (opening sort) start, b.1.2 ∙ a.1) a.2 a.3

-- A text has one derivation, since it has one cut without bad text.
pub one-sentence : (source : List ℕ) (tree other_tree : Tree) (sort : Sort) → Sentence source tree sort
    → Sentence source other_tree sort → tree ≡ other_tree
one-sentence source tree other_tree sort sentence second_sentence =
    let same = one-cut source sentence.items second_sentence.items sentence.cut second_sentence.cut sentence.tokens in
    one-derivation sort (map token_of (Significant second_sentence.items)) tree other_tree
    (sentence.derivation, sentence.yield ∙ ap (λ (items : List Item). map token_of (Significant items)) same) (
      second_sentence.derivation,
      second_sentence.yield,
    )

-- What the machine has read begins tokens that a derivation spells; and where it is stuck, none goes on as the tokens
-- do.

pub read-map : (tokens : List Token) → map word tokens ≡ read tokens
read-map [] = refl
read-map (token ∷ tokens) = ap (λ (l : List Terminal). word token ∷ l) (read-map tokens)

pub two-terminals : (rest : List Token) → take 2 (terminals rest) ≡ next_two rest
two-terminals [] = refl
two-terminals (token ∷ []) = refl
two-terminals (token ∷ next_token ∷ rest) = refl

fault-of : (sort : Sort) (before rest : List Token) → IsStuck sort before rest → FaultIn sort (before ++ rest) rest
fault-of sort before rest is_stuck =
    fault (start_symbol sort (before ++ rest)) (opens sort (first (before ++ rest)))
    (before ++ rest) is_stuck.symbol is_stuck.state is_stuck.children is_stuck.above rest
    is_stuck.reached is_stuck.no_move

-- What has been read begins tokens that a derivation spells, and that go on as the leaves are listed.
pub reached-begins : (sort : Sort) (before rest : List Token) (fs : List Frame) → Reached sort before rest fs
    → (tree : Tree) × (tokens : List Token) × Spells (before ++ tokens) tree sort × AllSpelt tokens
reached-begins sort before rest fs reached =
    let h = begins-at sort (before ++ rest) fs rest reached in
    let e : h.0 ≡ before = append_cancel_right h.0 before rest (sym h.1) in
    (h.2.0, h.2.1, subst (λ (b : List Token). Spells (b ++ h.2.1) h.2.0 sort) e h.2.2, h.2.3)

pub reached-starts : (sort : Sort) (before rest : List Token) (fs : List Frame) → Reached sort before rest fs
    → (tree : Tree) × (tokens : List Token) × Spells (before ++ tokens) tree sort
reached-starts sort before rest fs reached = let h = reached-begins sort before rest fs reached in (h.0, h.1, h.2)

pub no-early-fault : (sort : Sort) (before rest : List Token) → IsStuck sort before rest
    → Starts sort (map word before ++ take 2 (terminals rest)) → ⊥
no-early-fault sort before rest is_stuck starts =
    let k = fault-of sort before rest is_stuck in
    let e : map word before ++ take 2 (terminals rest) ≡ read k.before ++ next_two rest =
    ap₂ (λ (l m : List Terminal). l ++ m) (read-map before ∙ ap read (append_cancel_right before k.before rest k.split))
    (two-terminals rest) in
    not-starts sort (before ++ rest) rest k (subst (λ (l : List Terminal). Starts sort l) e starts)
