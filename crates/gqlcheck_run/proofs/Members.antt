-- Members of objects of JSON.
use Rattle.std.proofs.Common.{◌≡◌, ◌∙◌, ℕ, Bool, List, [], ◌∷◌, ◌++◌, refl, sym, ap, subst, append_assoc, append-nil}
use Rattle.std.specs.Prelude.{decimal}
use Rattle.json.specs.Json.{Json, Members, array, boolean, item, member, no_items, no_members, number, object, string}
use Rattle.json.specs.Token.{Token, begin_array, begin_object, end_array, end_object, key}
use Rattle.json.specs.Tree.{json_tokens, members_tokens}
use Rattle.json.specs.Written.{Written}
use Rattle.gqlcheck_run.specs.JsonLines.{Adds, AddsMember, AddsMembers, flag_tokens, number_tokens, text_tokens}

-- some tokens, and then others
pub adds_both : (first second : List Token) (old middle new : Written) → Adds first old middle → Adds second middle new
    → Adds (first ++ second) old new
adds_both first second old middle new a b = record {
  before = b.before ∙ a.before;
  tokens = b.tokens ∙ ap (λ (ts : List Token). ts ++ second) a.tokens ∙ append_assoc old.tokens first second;
}

-- two tokens, one after the other
pub two_added : (t u : Token) (old middle new : Written) → middle.before ≡ old.before
    → middle.tokens ≡ old.tokens ++ t ∷ []
    → new.before ≡ middle.before → new.tokens ≡ middle.tokens ++ u ∷ [] → Adds (t ∷ u ∷ []) old new
two_added t u old middle new before first before' second =
    adds_both (t ∷ []) (u ∷ []) old middle new (record { before = before; tokens = first })
    (record { before = before'; tokens = second })

-- ---- some members

pub of_member : (name : List ℕ) (value : Json) (old new : Written) → AddsMember name value old new → AddsMembers old new
of_member name value old new adds = record {
  added = key name ∷ json_tokens value;
  adds = adds;
  are = record { before = λ others. member name value others; is = λ others. refl };
}

pub of_text : (name text : List ℕ) (old new : Written) → Adds (text_tokens name text) old new → AddsMembers old new
of_text name text old new adds = of_member name (string text) old new adds

pub of_number : (name : List ℕ) (n : ℕ) (old new : Written) → Adds (number_tokens name n) old new → AddsMembers old new
of_number name n old new adds = of_member name (number (decimal n)) old new adds

pub of_flag : (name : List ℕ) (flag : Bool) (old new : Written)
    → Adds (flag_tokens name flag) old new → AddsMembers old new
of_flag name flag old new adds = of_member name (boolean flag) old new adds

pub none : (w : Written) → AddsMembers w w
none w = record {
  added = [];
  adds = record { before = refl; tokens = sym (append-nil w.tokens) };
  are = record { before = λ others. others; is = λ others. refl };
}

-- some members, and then others
pub both : (old middle new : Written) → AddsMembers old middle → AddsMembers middle new → AddsMembers old new
both old middle new a b = record {
  added = a.added ++ b.added;
  adds = adds_both a.added b.added old middle new a.adds b.adds;
  are = record {
    before = λ others. a.are.before (b.are.before others);
    is = λ others.
        append_assoc a.added b.added (members_tokens others) ∙ ap (λ (ts : List Token). a.added ++ ts) (b.are.is others)
        ∙ a.are.is (b.are.before others);
  };
}

-- ---- a member that is an object

-- its first members are known, and others follow
pub object_after : (name : List ℕ) (front : List Token) (first : Members → Members) (a b c d : Written)
    → ((others : Members) → front ++ members_tokens others ≡ members_tokens (first others))
    → Adds (key name ∷ begin_object ∷ front) a b
    → AddsMembers b c → Adds (end_object ∷ []) c d → (others : Members) × AddsMember name (object (first others)) a d
object_after name front first a b c d law opened inside closed =
    let others : Members = inside.are.before no_members in
    let same : front ++ (inside.added ++ end_object ∷ []) ≡ members_tokens (first others) =
    ap (λ (ts : List Token). front ++ ts) (inside.are.is no_members) ∙ law others in (
      others,
      subst (λ (ts : List Token). Adds (key name ∷ begin_object ∷ ts) a d) same
          (adds_both (key name ∷ begin_object ∷ front) (inside.added ++ end_object ∷ []) a b d opened
          (adds_both inside.added (end_object ∷ []) b c d inside.adds closed)),
    )

pub in_object : (name : List ℕ) (a b c d : Written) → Adds (key name ∷ begin_object ∷ []) a b → AddsMembers b c
    → Adds (end_object ∷ []) c d
    → AddsMembers a d
in_object name a b c d opened inside closed =
    let it : (others : Members) × AddsMember name (object others) a d =
    object_after name [] (λ others. others) a b c d (λ others. refl) opened inside closed in
    of_member name (object it.0) a d it.1

-- ---- one that is a list of an object

pub in_list : (name : List ℕ) (a b c d : Written) → Adds (key name ∷ begin_array ∷ begin_object ∷ []) a b
    → AddsMembers b c
    → Adds (end_object ∷ end_array ∷ []) c d → AddsMembers a d
in_list name a b c d opened inside closed =
    let others : Members = inside.are.before no_members in
    let same : inside.added ++ (end_object ∷ end_array ∷ []) ≡ members_tokens others ++ end_array ∷ [] =
    sym (append_assoc inside.added (end_object ∷ []) (end_array ∷ []))
    ∙ ap (λ (ts : List Token). ts ++ end_array ∷ []) (inside.are.is no_members) in
    of_member name (array (item (object others) no_items)) a d
    (subst (λ (ts : List Token). Adds (key name ∷ begin_array ∷ begin_object ∷ ts) a d) same
    (adds_both (key name ∷ begin_array ∷ begin_object ∷ []) (inside.added ++ (end_object ∷ end_array ∷ [])) a b d opened
    (adds_both inside.added (end_object ∷ end_array ∷ []) b c d inside.adds closed)))
