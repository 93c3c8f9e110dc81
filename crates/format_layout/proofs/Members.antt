-- The sign before the first of some members comes or goes, and every other token of them stays.
use Rattle.std.proofs.Common.{◌≡◌, ℕ, ◌⊎◌, inl, inr, Bool, true, false, cond, eqb, List, [], ◌∷◌, ◌++◌, refl, sym, ap}
use Rattle.std.proofs.Common.{◌∙◌, subst, append_assoc, true≢false, arith, eq-eqb}
use Rattle.std.proofs.lemmas.Bool.{cases_Bool}
use Rattle.std.specs.Prelude.{◌||◌, bytes_eq}
use Rattle.document_grammar.specs.Derivation.{kinds, Yield, Yields, Fits, AllFit}
use Rattle.document_grammar.specs.Kinds.{AMP, PIPE, IDENT}
use Rattle.document_grammar.specs.Pattern.{Pattern, any_of, ◌then◌, many, one, optional, member, Repeats, stop, again}
use Rattle.document_grammar.specs.Pattern.{Matches}
use Rattle.document_grammar.specs.Rows.{Row}
use Rattle.document_grammar.specs.Tree.{Text, Token, Tree, leaf, node, Forest, none, ◌▸◌, root}
use Rattle.format_layout.proofs.Chose.{Chose, chose-none}
use Rattle.format_layout.proofs.Guards.{leaf-of, one-is, head-of}
use Rattle.format_layout.proofs.Plain.{steps, is_members, chosen-stay, stay-at, all-marks-long}
use Rattle.format_layout.proofs.Stays.{Stays, no-tokens, more-tokens, one-stays, name-ready}
use Rattle.format_layout.proofs.Steps.{step, goes_at, comes_at, Fit, Along, AtMarks, pipe_token}
use Rattle.format_layout.specs.Chosen.{Choice, stays, goes, signed, chosen}
use Rattle.format_layout.specs.Leads.{after_interface, after_member, after_name, implements_text, on_text}
use Rattle.format_layout.specs.Signs.{is_sign, marks, all_marks, all_unsigned, without_first_sign}
use Rattle.format_layout.specs.declared.lead.Lead.{Lead}
use Rattle.format_layout.specs.declared.lead.Lead.TheVariants.{Members, Pipe, Amp, Implements, On}

abbrev pub members_row : ℕ → ℕ → Pattern
members_row sign member = optional sign then one member then many (one sign then one member)

-- what is to be known of a sign: the lead after it, and after a member that follows
pub record Sign (sign : ℕ) (lead : Lead) : Type 0 where
  pub is_leaf : Row sign ≡ any_of []
  pub spells : (x : Text) → Yield (leaf sign x) ≡ (sign, x) ∷ []
  pub marked : (x : Text) → marks true (leaf sign x) ≡ true ∷ []
  pub is_sign : is_sign sign ≡ true
  pub no_name : eqb sign IDENT ≡ false
  pub leads : (s : Lead) (x : Text) → step s sign x ≡ lead
  pub comes_not : comes_at lead IDENT ≡ false
  pub ready : is_members lead ≡ false
  pub after : (x : Text) → goes_at (after_name lead x) sign ≡ false

pub member-quiet : (x : Text) → (goes_at (after_member x) PIPE ≡ false) × (goes_at (after_member x) AMP ≡ false)
member-quiet x = elim (cases_Bool (bytes_eq x implements_text))
    [ inl e ↦ rw e (refl, refl) | inr e ↦ rw e (refl, refl) ]

pub interface-quiet : (x : Text) → goes_at (after_interface x) AMP ≡ false
interface-quiet x = elim (cases_Bool (bytes_eq x on_text)) [ inl e ↦ rw e refl | inr e ↦ rw e (member-quiet x).1 ]

pub pipe-sign : Sign PIPE Pipe
unfolding Row
pipe-sign = record {
  is_leaf = refl;
  spells = λ x. refl;
  marked = λ x. refl;
  is_sign = refl;
  no_name = refl;
  leads = λ s x. refl;
  comes_not = refl;
  ready = refl;
  after = λ x. (member-quiet x).0;
}

pub amp-sign : Sign AMP Amp
unfolding Row
amp-sign = record {
  is_leaf = refl;
  spells = λ x. refl;
  marked = λ x. refl;
  is_sign = refl;
  no_name = refl;
  leads = λ s x. refl;
  comes_not = refl;
  ready = refl;
  after = interface-quiet;
}

-- a member is one name, for which something may be known
pub record Member (Good : Text → Type 0) (t : Tree) : Type 0 where
  pub word : Text
  pub good : Good word
  pub kind : ℕ
  pub below : Forest
  pub same : t ≡ node kind below
  pub spells : Yield (node kind below) ≡ (IDENT, word) ∷ []
  pub marked : (before : Bool) → marks before (node kind below) ≡ false ∷ []

abbrev pub AreMembers : (Text → Type 0) → ℕ → Type 0
AreMembers Good member = (t : Tree) → Fits t → root t ≡ member → Member Good t

-- a sign and a member, any number of times
abbrev pub Pairs : ℕ → ℕ → List ℕ → Type 0
Pairs sign member [] = Unit {0}
Pairs sign member (a ∷ []) = ⊥
Pairs sign member (a ∷ b ∷ w) = (a ≡ sign) × (b ≡ member) × Pairs sign member w

pub pairs : (sign member : ℕ) (w : List ℕ) → Repeats (Matches (one sign then one member)) w → Pairs sign member w
pairs sign member w stop = tt
pairs sign member w (again {u = u} {v = v} m r e) =
    let both : w ≡ sign ∷ member ∷ v =
    e ∙ ap (λ l. l ++ v) (m.2 ∙ ap (λ l. l ++ m.1) (one-is sign m.0 m.3)
    ∙ ap (λ l. sign ∷ l) (one-is member m.1 m.4)) in
    subst (Pairs sign member) (sym both) (refl, refl, pairs sign member v r)

pub comes-not : (s : Lead) (k : ℕ) → eqb k IDENT ≡ false → comes_at s k ≡ false
comes-not Members k e = e
comes-not _ k e = refl

pub name-goes-not : (s : Lead) → goes_at s IDENT ≡ false
name-goes-not Members = refl
name-goes-not On = refl
name-goes-not Implements = refl
name-goes-not _ = refl

-- a member stays where it may not be signed
member-stays : {Good : Text → Type 0} (t : Tree) (m : Member Good t) (s : Lead) (cs : List Choice) (rest : List Token)
    → comes_at s IDENT ≡ false
    → Fit s cs (Yield t ++ rest) → Stays s cs (Yield t) rest
member-stays t m s cs rest c fit =
    let e : Yield t ≡ (IDENT, m.word) ∷ [] = ap Yield m.same ∙ m.spells in
    subst (λ ts. Stays s cs ts rest) (sym e)
    (one-stays s cs (IDENT, m.word) rest (name-goes-not s) c (name-ready s m.word)
    (subst (λ ts. Fit s cs (ts ++ rest)) e fit))

-- no sign between members goes, and none comes
separated : {Good : Text → Type 0} {lead : Lead} (sign member : ℕ) → Sign sign lead → AreMembers Good member
    → (f : Forest) (rest : List Token) (s : Lead) (cs : List Choice)
    → Pairs sign member (kinds f) → AllFit f → goes_at s sign ≡ false → is_members s ≡ false
    → Fit s cs (Yields f ++ rest) → Stays s cs (Yields f) rest
separated sign member g are none rest s cs p fits q m fit = no-tokens s cs rest m fit
separated sign member g are (t ▸ none) rest s cs p fits q m fit = absurd p
separated {lead = lead} sign member g are (t ▸ u ▸ f) rest s cs p fits q m fit =
    let l = leaf-of sign t g.is_leaf fits.0 p.0 in
    let spelled : Yield t ≡ (sign, l.0) ∷ [] = ap Yield l.1 ∙ g.spells l.0 in
    let after : steps s (Yield t) ≡ lead = ap (steps s) spelled ∙ g.leads s l.0 in
    let first : Stays s cs (Yield t) (Yields (u ▸ f) ++ rest) =
    subst (λ ts. Stays s cs ts (Yields (u ▸ f) ++ rest)) (sym spelled)
    (one-stays s cs (sign, l.0) (Yields (u ▸ f) ++ rest) q (comes-not s sign g.no_name)
    (ap is_members (g.leads s l.0) ∙ g.ready)
    (subst (λ ts. Fit s cs (ts ++ (Yields (u ▸ f) ++ rest))) spelled
    (subst (Fit s cs) (append_assoc (Yield t) (Yields (u ▸ f)) rest) fit))) in
    let one = are u fits.1.0 p.1 in
    let word : Yield u ≡ (IDENT, one.word) ∷ [] = ap Yield one.same ∙ one.spells in
    let second = member-stays u one (steps s (Yield t)) first.after (Yields f ++ rest)
    (ap (λ r. comes_at r IDENT) after ∙ g.comes_not)
    (subst (Fit (steps s (Yield t)) first.after) (append_assoc (Yield u) (Yields f) rest) first.left) in
    let here : steps (steps s (Yield t)) (Yield u) ≡ after_name lead one.word =
    ap (λ r. steps r (Yield u)) after ∙ ap (steps lead) word in
    let third = separated sign member g are f rest (steps (steps s (Yield t)) (Yield u)) second.after p.2 fits.1.1
    (ap (λ r. goes_at r sign) here ∙ g.after one.word) second.ready second.left in
    more-tokens s cs (Yield t) (Yield u ++ Yields f) rest first
    (more-tokens (steps s (Yield t)) first.after (Yield u) (Yields f) rest second third)

-- ---- the rows of members

pub record Rest (sign member : ℕ) (w v : List ℕ) : Type 0 where
  pub same : w ≡ member ∷ v
  pub more : Repeats (Matches (one sign then one member)) v

rest-of : (sign member : ℕ) (w : List ℕ) → Matches (one member then many (one sign then one member)) w
    → (v : List ℕ) × Rest sign member w v
rest-of sign member w m = (m.1, record { same = m.2 ∙ ap (λ l. l ++ m.1) (one-is member m.0 m.3); more = m.4 })

-- with the sign, or without
either-row : (sign member : ℕ) (w : List ℕ) → Matches (members_row sign member) w
    → ((v : List ℕ) × (w ≡ sign ∷ member ∷ v) × Repeats (Matches (one sign then one member)) v)
    ⊎ ((v : List ℕ) × (w ≡ member ∷ v) × Repeats (Matches (one sign then one member)) v)
either-row sign member w m =
    let r = rest-of sign member m.1 m.4 in
    elim m.3 [
      | inl a ↦ inl (r.0, m.2 ∙ ap (λ l. l ++ m.1) (one-is sign m.0 a) ∙ ap (λ l. sign ∷ l) r.1.same, r.1.more)
      | inr b ↦ inr (r.0, m.2 ∙ ap (λ l. l ++ m.1) b ∙ r.1.same, r.1.more)
    ]

pub one-there : (k : ℕ) → Matches (one k) (k ∷ [])
unfolding member
one-there k = (k, or-first k, refl)
  where
    or-first : (k : ℕ) → (eqb k k || false) ≡ true
    or-first k = let e : eqb k k ≡ true = eq-eqb k k refl in rw e refl

row-bare : (sign member : ℕ) (v : List ℕ) → Repeats (Matches (one sign then one member)) v
    → Matches (members_row sign member) (member ∷ v)
row-bare sign member v r = ([], member ∷ v, refl, inr refl, (member ∷ [], v, refl, one-there member, r))

row-signed : (sign member : ℕ) (v : List ℕ) → Repeats (Matches (one sign then one member)) v
    → Matches (members_row sign member) (sign ∷ member ∷ v)
row-signed sign member v r =
    (sign ∷ [], member ∷ v, refl, inl (one-there sign), (member ∷ [], v, refl, one-there member, r))

-- ---- the first of them

-- The trees with the sign that the choices leave or put in before the first member.
pub record Listed (sign member : ℕ) (s : Lead) (cs : List Choice) (f : Forest) (rest : List Token) : Type 0 where
  pub forest : Forest
  pub chose : Chose s cs (Yields f) (Yields forest) (all_marks true f) (all_marks true forest) rest
  pub fits : AllFit forest
  pub row : Matches (members_row sign member) (kinds forest)
  pub bare : without_first_sign (all_unsigned forest) ≡ without_first_sign (all_unsigned f)

-- all of them stay
all-stay : (sign member : ℕ) (s : Lead) (cs : List Choice) (f : Forest) (rest : List Token) → AllFit f
    → Matches (members_row sign member) (kinds f)
    → Stays s cs (Yields f) rest → Listed sign member s cs f rest
all-stay sign member s cs f rest fits row r = record {
  forest = f;
  chose = chose-none s cs (Yields f) rest (all_marks true f) r (all-marks-long true f r.own r.long);
  fits = fits;
  row = row;
  bare = refl;
}

-- the first member, and signs and members after it
first-stays : {Good : Text → Type 0} {lead : Lead} (sign member : ℕ) → Sign sign lead → AreMembers Good member
    → (u : Tree) (f : Forest) (rest : List Token)
    (s : Lead) (cs : List Choice) → root u ≡ member → Pairs sign member (kinds f) → AllFit (u ▸ f)
    → comes_at s IDENT ≡ false
    → ((x : Text) → Good x → goes_at (after_name s x) sign ≡ false) → Fit s cs (Yields (u ▸ f) ++ rest)
    → Stays s cs (Yields (u ▸ f)) rest
first-stays sign member g are u f rest s cs e p fits c quiet fit =
    let one = are u fits.0 e in
    let word : Yield u ≡ (IDENT, one.word) ∷ [] = ap Yield one.same ∙ one.spells in
    let first = member-stays u one s cs (Yields f ++ rest) c
    (subst (Fit s cs) (append_assoc (Yield u) (Yields f) rest) fit) in
    let here : steps s (Yield u) ≡ after_name s one.word = ap (steps s) word in
    more-tokens s cs (Yield u) (Yields f) rest first
    (separated sign member g are f rest (steps s (Yield u)) first.after p fits.1
    (ap (λ r. goes_at r sign) here ∙ quiet one.word one.good) first.ready
    first.left)

leaf-first : {lead : Lead} (sign : ℕ) → Sign sign lead → (x : Text) (f : Forest)
    → Yields (leaf sign x ▸ f) ≡ (sign, x) ∷ Yields f
leaf-first sign g x f = ap (λ l. l ++ Yields f) (g.spells x)

leaf-marks : {lead : Lead} (sign : ℕ) → Sign sign lead → (x : Text) (f : Forest)
    → all_marks true (leaf sign x ▸ f) ≡ true ∷ all_marks true f
leaf-marks sign g x f = ap (λ l. l ++ all_marks true f) (g.marked x)

leaf-bare : {lead : Lead} (sign : ℕ) → Sign sign lead → (x : Text) (f : Forest)
    → without_first_sign (all_unsigned (leaf sign x ▸ f)) ≡ all_unsigned f
leaf-bare sign g x f = ap (λ b. cond b (all_unsigned f) (leaf sign x ▸ without_first_sign (all_unsigned f))) g.is_sign

member-bare : {Good : Text → Type 0} (u : Tree) (f : Forest) → Member Good u
    → without_first_sign (all_unsigned (u ▸ f)) ≡ all_unsigned (u ▸ f)
member-bare u f m =
    ap (λ t. without_first_sign (all_unsigned (t ▸ f))) m.same ∙ ap (λ t. all_unsigned (t ▸ f)) (sym m.same)

-- with a sign in the source
sign-first : {Good : Text → Type 0} {lead : Lead} (sign member : ℕ) → Sign sign lead → AreMembers Good member
    → (x : Text) (u : Tree) (f : Forest) (rest : List Token)
    (s : Lead) (cs : List Choice) → root u ≡ member → Repeats (Matches (one sign then one member)) (kinds f)
    → AllFit (leaf sign x ▸ u ▸ f)
    → Fit s cs ((sign, x) ∷ (Yields (u ▸ f) ++ rest)) → Listed sign member s cs (leaf sign x ▸ u ▸ f) rest
sign-first sign member g are x u f rest s [] e p fits fit = absurd fit
sign-first sign member g are x u f rest s (signed ∷ cs) e p fits fit =
    absurd (true≢false (sym fit.0 ∙ comes-not s sign g.no_name))
sign-first {lead = lead} sign member g are x u f rest s (stays ∷ cs) e p fits fit =
    let r = first-stays sign member g are u f rest lead cs e (pairs sign member (kinds f) p) fits.1
    g.comes_not (λ y _. g.after y)
    (subst (λ l. Fit l cs (Yields (u ▸ f) ++ rest)) (g.leads s x) fit.1) in
    let at : steps s ((sign, x) ∷ Yields (u ▸ f)) ≡ steps lead (Yields (u ▸ f)) =
    ap (λ l. steps l (Yields (u ▸ f))) (g.leads s x) in
    let all : Stays s (stays ∷ cs) ((sign, x) ∷ Yields (u ▸ f)) rest = record {
      own = stays ∷ r.own;
      after = r.after;
      split = ap (λ l. stays ∷ l) r.split;
      stay = (refl, r.stay);
      long = r.long;
      left = subst (λ l. Fit l r.after rest) (sym at) r.left;
      ready = ap is_members at ∙ r.ready;
    } in
    all-stay sign member s (stays ∷ cs) (leaf sign x ▸ u ▸ f) rest fits
    (subst (λ k. Matches (members_row sign member) (sign ∷ k ∷ kinds f)) (sym e) (row-signed sign member (kinds f) p))
    (subst (λ ts. Stays s (stays ∷ cs) ts rest) (sym (leaf-first sign g x (u ▸ f))) all)
sign-first {lead = lead} sign member g are x u f rest s (goes ∷ cs) e p fits fit =
    let r = first-stays sign member g are u f rest lead cs e (pairs sign member (kinds f) p) fits.1
    g.comes_not (λ y _. g.after y)
    (subst (λ l. Fit l cs (Yields (u ▸ f) ++ rest)) (g.leads s x) fit.1) in
    let spelled = leaf-first sign g x (u ▸ f) in
    let at : steps s (Yields (leaf sign x ▸ u ▸ f)) ≡ steps lead (Yields (u ▸ f)) =
    ap (steps s) spelled ∙ ap (λ l. steps l (Yields (u ▸ f))) (g.leads s x) in
    let marked = leaf-marks sign g x (u ▸ f) in
    let long = all-marks-long true (u ▸ f) r.own r.long in
    record {
      forest = u ▸ f;
      chose = record {
        own = goes ∷ r.own;
        after = r.after;
        split = ap (λ l. goes ∷ l) r.split;
        long = subst (Along (goes ∷ r.own)) (sym spelled) r.long;
        written = ap (chosen pipe_token (goes ∷ r.own)) spelled
            ∙ chosen-stay pipe_token r.own (Yields (u ▸ f)) r.stay r.long;
        marked = ap (chosen true (goes ∷ r.own)) marked ∙ chosen-stay true r.own (all_marks true (u ▸ f)) r.stay long;
        at = subst (AtMarks (goes ∷ r.own)) (sym marked) (refl, stay-at r.own (all_marks true (u ▸ f)) r.stay long);
        left = subst (λ l. Fit l r.after rest) (sym at) r.left;
        ready = ap is_members at ∙ r.ready;
      };
      fits = fits.1;
      row = subst (λ k. Matches (members_row sign member) (k ∷ kinds f)) (sym e) (row-bare sign member (kinds f) p);
      bare = member-bare u f (are u fits.1.0 e) ∙ sym (leaf-bare sign g x (u ▸ f));
    }

pipe-fits : (x : Text) → Fits (leaf PIPE x)
pipe-fits x = λ above. absurd (omega arith)

-- without one in the source
name-first : {Good : Text → Type 0} {lead : Lead} (sign member : ℕ) → Sign sign lead → AreMembers Good member
    → (u : Tree) (m : Member Good u) (f : Forest)
    (rest : List Token) (s : Lead) (cs : List Choice) → root u ≡ member
    → Repeats (Matches (one sign then one member)) (kinds f) → AllFit (u ▸ f)
    → goes_at (after_name s m.word) sign ≡ false → (comes_at s IDENT ≡ true → sign ≡ PIPE)
    → Fit s cs ((IDENT, m.word) ∷ (Yields f ++ rest)) → Listed sign member s cs (u ▸ f) rest
name-first sign member g are u m f rest s [] e p fits quiet pipe fit = absurd fit
name-first sign member g are u m f rest s (goes ∷ cs) e p fits quiet pipe fit =
    absurd (true≢false (sym fit.0 ∙ name-goes-not s))
name-first sign member g are u m f rest s (stays ∷ cs) e p fits quiet pipe fit =
    let r = separated sign member g are f rest (after_name s m.word) cs (pairs sign member (kinds f) p) fits.1 quiet
    (name-ready s m.word) fit.1 in
    let word : Yields (u ▸ f) ≡ (IDENT, m.word) ∷ Yields f = ap (λ l. l ++ Yields f) (ap Yield m.same ∙ m.spells) in
    let all : Stays s (stays ∷ cs) ((IDENT, m.word) ∷ Yields f) rest = record {
      own = stays ∷ r.own;
      after = r.after;
      split = ap (λ l. stays ∷ l) r.split;
      stay = (refl, r.stay);
      long = r.long;
      left = r.left;
      ready = r.ready;
    } in
    all-stay sign member s (stays ∷ cs) (u ▸ f) rest fits
    (subst (λ k. Matches (members_row sign member) (k ∷ kinds f)) (sym e) (row-bare sign member (kinds f) p))
    (subst (λ ts. Stays s (stays ∷ cs) ts rest) (sym word) all)
name-first sign member g are u m f rest s (signed ∷ cs) e p fits quiet pipe fit =
    let r = separated sign member g are f rest (after_name s m.word) cs (pairs sign member (kinds f) p) fits.1 quiet
    (name-ready s m.word) fit.1 in
    let yield : Yield u ≡ (IDENT, m.word) ∷ [] = ap Yield m.same ∙ m.spells in
    let word : Yields (u ▸ f) ≡ (IDENT, m.word) ∷ Yields f = ap (λ l. l ++ Yields f) yield in
    let at : steps s (Yields (u ▸ f)) ≡ steps (after_name s m.word) (Yields f) = ap (steps s) word in
    let marked : all_marks true (u ▸ f) ≡ false ∷ all_marks false f =
    ap (λ t. all_marks true (t ▸ f)) m.same ∙ ap (λ l. l ++ all_marks false f) (m.marked true) in
    let long = all-marks-long false f r.own r.long in
    record {
      forest = leaf PIPE (124 ∷ []) ▸ u ▸ f;
      chose = record {
        own = signed ∷ r.own;
        after = r.after;
        split = ap (λ l. signed ∷ l) r.split;
        long = subst (Along (signed ∷ r.own)) (sym word) r.long;
        written = ap (chosen pipe_token (signed ∷ r.own)) word
            ∙ ap (λ l. pipe_token ∷ (IDENT, m.word) ∷ l) (chosen-stay pipe_token r.own (Yields f) r.stay r.long)
            ∙ ap (λ l. pipe_token ∷ l) (sym word);
        marked = ap (chosen true (signed ∷ r.own)) marked
            ∙ ap (λ l. true ∷ false ∷ l) (chosen-stay true r.own (all_marks false f) r.stay long)
            ∙ ap (λ l. true ∷ l) (sym marked);
        at = subst (AtMarks (signed ∷ r.own)) (sym marked) (stay-at r.own (all_marks false f) r.stay long);
        left = subst (λ l. Fit l r.after rest) (sym at) r.left;
        ready = ap is_members at ∙ r.ready;
      };
      fits = (pipe-fits (124 ∷ []), fits);
      row = subst (λ k. Matches (members_row sign member) (k ∷ root u ∷ kinds f)) (pipe fit.0)
          (subst (λ k. Matches (members_row sign member) (sign ∷ k ∷ kinds f)) (sym e)
          (row-signed sign member (kinds f) p));
      bare = sym (member-bare u f m);
    }

-- whether the sign is there or not
pub members-listed : {Good : Text → Type 0} {lead : Lead} (sign member : ℕ) → Sign sign lead → AreMembers Good member
    → (f : Forest) (rest : List Token)
    (s : Lead) (cs : List Choice) → Matches (members_row sign member) (kinds f) → AllFit f
    → ((x : Text) → Good x → goes_at (after_name s x) sign ≡ false)
    → (comes_at s IDENT ≡ true → sign ≡ PIPE) → Fit s cs (Yields f ++ rest) → Listed sign member s cs f rest
members-listed sign member g are f rest s cs row fits quiet pipe fit = elim (either-row sign member (kinds f) row) [
  | inl a ↦
      let t = head-of f sign (member ∷ a.0) a.1 in
      let u = head-of t.more member a.0 t.kinds_are in
      let same : f ≡ t.tree ▸ u.tree ▸ u.more = t.same ∙ ap (λ h. t.tree ▸ h) u.same in
      let all : AllFit (t.tree ▸ u.tree ▸ u.more) = subst AllFit same fits in
      let l = leaf-of sign t.tree g.is_leaf all.0 t.root_is in
      let whole : f ≡ leaf sign l.0 ▸ u.tree ▸ u.more = same ∙ ap (λ h. h ▸ u.tree ▸ u.more) l.1 in
      subst (λ h. Listed sign member s cs h rest) (sym whole)
      (sign-first sign member g are l.0 u.tree u.more rest s cs u.root_is
      (subst (Repeats (Matches (one sign then one member))) (sym u.kinds_are) a.2)
      (subst AllFit whole fits)
      (subst (λ h. Fit s cs (h ++ rest)) (ap Yields whole ∙ leaf-first sign g l.0 (u.tree ▸ u.more)) fit))
  | inr a ↦
      let u = head-of f member a.0 a.1 in
      let all : AllFit (u.tree ▸ u.more) = subst AllFit u.same fits in
      let m = are u.tree all.0 u.root_is in
      subst (λ h. Listed sign member s cs h rest) (sym u.same)
      (name-first sign member g are u.tree m u.more rest s cs u.root_is
      (subst (Repeats (Matches (one sign then one member))) (sym u.kinds_are) a.2)
      all (quiet m.word m.good) pipe
      (subst (λ h. Fit s cs (h ++ rest)) (ap Yields u.same ∙ ap (λ y. y ++ Yields u.more) (ap Yield m.same ∙ m.spells))
      fit))
]
