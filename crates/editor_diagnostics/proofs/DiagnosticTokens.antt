-- The tokens of lists of pieces that grow.
use Rattle.std.proofs.Common.{◌≡◌, ℕ, ℤ, suc, ◌+◌, ◌-◌, ◌^◌, ◌<◌, List, [], ◌∷◌, ◌++◌, Option, Some, None, append_assoc}
use Rattle.std.proofs.Common.{subst, ap, sym, refl, ◌∙◌, length, map, take, get_or, min, arith}
use Rattle.std.proofs.Math.Seq.{take-suc}
use Rattle.std.proofs.lemmas.Grind.{flat_map-append}
use Rattle.std.proofs.lemmas.List.{append-nil}
use Rattle.std.proofs.lemmas.List.Concat.{flat_map-cons}
use Rattle.std.proofs.lemmas.List.Folds.{flat_map-map}
use Rattle.std.specs.List.{flat_map}
use Rattle.json.specs.Json.{Json, object}
use Rattle.json.specs.Token.{Token, end_array, end_object}
use Rattle.json.specs.Tree.{items_tokens, json_tokens, members_tokens}
use Rattle.json.specs.Value.{items_of}
use Rattle.line_index.specs.declared.PositionEncoding.{PositionEncoding}
use Rattle.editor_diagnostics.specs.Diagnostics.{Diagnosis, as_diagnosis}
use Rattle.editor_diagnostics.specs.Positions.{position_of, range_value}
use Rattle.editor_diagnostics.specs.Publication.{publish_params, related_members, diagnostic_value}
use Rattle.editor_diagnostics.specs.Tokens.{brace_end, brace_front, front_tokens, tokens_of_diagnostics}
use Rattle.editor_diagnostics.specs.declared.diagnostic.Diagnostic.{Diagnostic}

-- three additions, one after the other
told_thrice : {X Y : Type 0} (f : X → List Y) (old a b c one two three : List X) → one ≡ old ++ a
    → two ≡ one ++ b → three ≡ two ++ c
    → flat_map f three ≡ flat_map f old ++ (flat_map f a ++ (flat_map f b ++ flat_map f c))
told_thrice f old a b c one two three p q r =
    rw (r, q, p, flat_map-append, flat_map-append, flat_map-append, append_assoc, append_assoc)

-- the same, where the tokens of the last two are known
pub added_thrice : {X Y : Type 0} (f : X → List Y) (old a b c one two three : List X) (bs cs : List Y) → one ≡ old ++ a
    → two ≡ one ++ b → three ≡ two ++ c
    → flat_map f b ≡ bs → flat_map f c ≡ cs → flat_map f three ≡ flat_map f old ++ (flat_map f a ++ (bs ++ cs))
added_thrice {Y = Y} f old a b c one two three bs cs p q r m n =
    subst (λ (x : List Y). flat_map f three ≡ flat_map f old ++ (flat_map f a ++ (x ++ cs))) m
    (subst (λ (x : List Y). flat_map f three ≡ flat_map f old ++ (flat_map f a ++ (flat_map f b ++ x))) n
    (told_thrice f old a b c one two three p q r))

-- and a fourth, which with the third makes some tokens
pub added_four_times : {X Y : Type 0} (f : X → List Y) (old a b c one two three four : List X) (bs rest made : List Y)
    → one ≡ old ++ a → two ≡ one ++ b
    → three ≡ two ++ c → flat_map f b ≡ bs → flat_map f four ≡ flat_map f three ++ rest → flat_map f c ++ rest ≡ made
    → flat_map f four ≡ flat_map f old ++ (flat_map f a ++ (bs ++ made))
added_four_times f old a b c one two three four bs rest made p q r m last is =
    rw (last, told_thrice f old a b c one two three p q r, append_assoc, append_assoc, append_assoc, m, is)

-- one more addition, after those of the first k of some things
pub one_more : {E Y : Type 0} (g : E → List Y) (things : List E) (k : ℕ) (thing : E) (first old new : List Y)
    → thing ≡ get_or things k thing
    → k < length things
    → old ≡ first ++ flat_map g (take k things) → new ≡ old ++ g thing → new ≡ first ++ flat_map g (take (k + 1) things)
one_more {E = E} {Y = Y} g things k thing first old new is within so_far added =
    let next : k + 1 ≡ suc k = omega arith in
    let step : take (k + 1) things ≡ take k things ++ (thing ∷ []) =
    ap (λ (n : ℕ). take n things) next ∙ take-suc things k thing within
    ∙ ap (λ (x : E). take k things ++ (x ∷ [])) (sym is) in
    let last : flat_map g (thing ∷ []) ≡ g thing = flat_map-cons g thing [] ∙ append-nil (g thing) in
    let taken : flat_map g (take (k + 1) things) ≡ flat_map g (take k things) ++ g thing =
    ap (flat_map g) step ∙ flat_map-append g (take k things) (thing ∷ [])
    ∙ ap (λ (x : List Y). flat_map g (take k things) ++ x) last in
    added ∙ ap (λ (x : List Y). x ++ g thing) so_far ∙ append_assoc first (flat_map g (take k things)) (g thing)
    ∙ ap (λ (x : List Y). first ++ x) (sym taken)

-- ---- the tokens of a diagnostic

-- a brace that is named, and the end of the diagnostic
pub brace_tokens : (uri : List ℕ) (encoding : PositionEncoding) (text : List ℕ) (brace last : ℕ) (front : List Token)
    → front ≡ brace_front uri
    → last ≡ min (brace + 1) (2 ^ 64 - 1)
    → front ++ (json_tokens (range_value (position_of encoding text brace) (position_of encoding text last))
    ++ brace_end)
    ≡ members_tokens (related_members uri encoding text (Some brace))
brace_tokens uri encoding text brace last front begins is = rw (begins, is)

-- ---- the tokens of the parameters

items_then : (values : List Json) (rest : List Token)
    → items_tokens (items_of values) ++ rest ≡ flat_map json_tokens values ++ end_array ∷ rest
items_then [] rest = refl
items_then (value ∷ values) rest =
    append_assoc (json_tokens value) (items_tokens (items_of values)) rest
    ∙ ap (λ (x : List Token). json_tokens value ++ x) (items_then values rest)
    ∙ sym (append_assoc (json_tokens value) (flat_map json_tokens values) (end_array ∷ rest))
    ∙ ap (λ (x : List Token). x ++ end_array ∷ rest) (sym (flat_map-cons json_tokens value values))

pub params_tokens : (uri : List ℕ) (version : Option ℤ) (values : List Json)
    → json_tokens (object (publish_params uri version values)) ≡ front_tokens uri version
    ++ (flat_map json_tokens values ++ end_array ∷ end_object ∷ [])
params_tokens uri None values =
    ap (λ (x : List Token). front_tokens uri None ++ x) (items_then values (end_object ∷ []))
params_tokens uri (Some version) values =
    ap (λ (x : List Token). front_tokens uri (Some version) ++ x) (items_then values (end_object ∷ []))

-- the tokens of diagnostics are those of their values
diagnostics_tokens : (uri : List ℕ) (encoding : PositionEncoding) (text : List ℕ) (diagnostics : List Diagnostic)
    → tokens_of_diagnostics uri encoding text diagnostics
    ≡ flat_map json_tokens (map (diagnostic_value uri encoding text) (map as_diagnosis diagnostics))
diagnostics_tokens uri encoding text diagnostics =
    sym (flat_map-map (λ (r : Diagnosis). json_tokens (diagnostic_value uri encoding text r)) as_diagnosis diagnostics)
    ∙ sym (flat_map-map json_tokens (diagnostic_value uri encoding text) (map as_diagnosis diagnostics))

-- the front, the diagnostics and the end make the parameters
pub whole_params : (uri : List ℕ) (version : Option ℤ) (encoding : PositionEncoding) (text : List ℕ)
    (diagnostics : List Diagnostic) (p q : List Token)
    → p ≡ front_tokens uri version → q ≡ p ++ tokens_of_diagnostics uri encoding text diagnostics
    → q ++ end_array ∷ end_object
    ∷ [] ≡ json_tokens (object
    (publish_params uri version (map (diagnostic_value uri encoding text) (map as_diagnosis diagnostics))))
whole_params uri version encoding text diagnostics p q front added =
    let values : List Json = map (diagnostic_value uri encoding text) (map as_diagnosis diagnostics) in
    let f : List Token = front_tokens uri version in
    let is : q ≡ f ++ flat_map json_tokens values =
    rw (added, front, diagnostics_tokens uri encoding text diagnostics) in
    ap (λ (x : List Token). x ++ end_array ∷ end_object ∷ []) is
    ∙ append_assoc f (flat_map json_tokens values) (end_array ∷ end_object ∷ [])
    ∙ sym (params_tokens uri version values)
