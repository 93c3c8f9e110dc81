-- Sets of the rules with some names.
use Rattle.std.proofs.Common.{◌≡◌, ◌∙◌, ◌<◌, ◌+◌, ℕ, Bool, true, false, List, [], ◌∷◌, ◌++◌, length, take, get_or}
use Rattle.std.proofs.Common.{arith, refl, sym, ap, subst, not}
use Rattle.std.proofs.lemmas.Bool.{eq-eqb, eqb-true}
use Rattle.std.proofs.lemmas.List.{get_or-map, length-map, map-append, take_more}
use Rattle.std.proofs.lemmas.List.Elements.{All-append, All-cons, All-nil, Contains-append_left}
use Rattle.std.proofs.lemmas.List.Elements.{Contains-append_right, Contains-get_or}
use Rattle.std.proofs.lemmas.List.Folds.{list_any-append}
use Rattle.std.proofs.lemmas.Option.{none-some}
use Rattle.std.proofs.lemmas.Slice.Eq.{bytes_eq-Decides}
use Rattle.std.specs.List.{Contains, find}
use Rattle.std.specs.Prelude.{◌==◌, ◌&&◌, ◌||◌, if◌then◌else◌, All, bytes_eq, Option, None, Some, cond, unwrap_or}
use denote.Ref.{Bor}
use Rattle.validation_rules.proofs.RuleList.{has_each}
use Rattle.validation_rules.specs.RuleNames.{rule_name}
use Rattle.validation_rules.specs.RuleNumbers.{rule_number}
use Rattle.validation_rules.specs.Selection.{has_rule}
use Rattle.validation_rules.specs.declared.selection.RuleSet.{RuleSet}
use Rattle.validation_rules.specs.declared.violations.Rule.{Rule}
use Rattle.validation_rules.specs.declared.violations.Rule.TheVariants as each
use Rattle.validation_rules.specs.declared.violations.TheConstants.Rule.{ALL}
use Rattle.command_lines.specs.Words.{texts}
use Rattle.command_lines.specs.declared.misuse.WordsError.{WordsError}
use Rattle.command_lines.specs.declared.misuse.WordsError.TheVariants.{Memory, Usage}
use Rattle.gqlcheck_run.specs.Rules.{AreRules, IsNotRead, IsRuleName, IsUnknownRule, is_among}

-- ---- names

both : (a b : Bool) → (a ≡ true → b ≡ true) → (b ≡ true → a ≡ true) → a ≡ b
both true true f g = refl
both true false f g = sym (f refl)
both false true f g = g refl
both false false f g = refl

some_same : (x y : Rule) → Some x ≡ Some y → x ≡ y
some_same x y e = ap (λ (o : Option Rule). unwrap_or o x) e

same_name : (rule other : Rule) → rule_name rule ≡ rule_name other → rule ≡ other
same_name rule other e =
    some_same rule other
    (sym (has_each rule).1 ∙ ap (λ (n : List ℕ). find (λ r. bytes_eq (rule_name r) n) ALL) e
    ∙ (has_each other).1)

same_number : (rule other : Rule) → rule_number rule ≡ rule_number other → rule ≡ other
same_number rule other e =
    sym (has_each rule).0 ∙ ap (λ (n : ℕ). get_or ALL n each.ExecutableDefinitions) e ∙ (has_each other).0

one_of_its_name : (rule other : Rule)
    → bytes_eq (rule_name rule) (rule_name other) ≡ (rule_number rule == rule_number other)
one_of_its_name rule other =
    both (bytes_eq (rule_name rule) (rule_name other)) (rule_number rule == rule_number other)
    (λ named. ap (λ (r : Rule). rule_number r == rule_number other)
    (same_name rule other ((bytes_eq-Decides (rule_name rule) (rule_name other)).0 named))
    ∙ eq-eqb (rule_number other) (rule_number other) refl)
    (λ numbered. ap (λ (r : Rule). bytes_eq (rule_name r) (rule_name other))
    (same_number rule other (eqb-true (rule_number rule) (rule_number other) numbered))
    ∙ (bytes_eq-Decides (rule_name other) (rule_name other)).1 refl)

-- what a search for a name finds
found_if : (name : List ℕ) (rule x : Rule) (rest : Option Rule) (b : Bool) → bytes_eq (rule_name x) name ≡ b
    → (rest ≡ Some rule → rule_name rule ≡ name) → cond b (Some x) rest ≡ Some rule → rule_name rule ≡ name
found_if name rule x rest true test later e =
    ap rule_name (sym (some_same x rule e)) ∙ (bytes_eq-Decides (rule_name x) name).0 test
found_if name rule x rest false test later e = later e

found_in : (name : List ℕ) (rule : Rule) (xs : List Rule) → find (λ r. bytes_eq (rule_name r) name) xs ≡ Some rule
    → rule_name rule ≡ name
found_in name rule [] e = absurd (none-some rule e)
found_in name rule (x ∷ xs) e =
    found_if name rule x (find (λ r. bytes_eq (rule_name r) name) xs) (bytes_eq (rule_name x) name) refl
    (found_in name rule xs) e

pub found_rule : (name : List ℕ) (rule : Rule) → find (λ r. bytes_eq (rule_name r) name) ALL ≡ Some rule
    → rule_name rule ≡ name
found_rule name rule = found_in name rule ALL

pub no_rule : (name : List ℕ) → find (λ r. bytes_eq (rule_name r) name) ALL ≡ None → ¬ IsRuleName name
no_rule name none is =
    none-some is.0
    (sym none ∙ ap (λ (n : List ℕ). find (λ r. bytes_eq (rule_name r) n) ALL) (sym is.1) ∙ (has_each is.0).1)

or_false : (b : Bool) → (b || false) ≡ b
or_false true = refl
or_false false = refl

among_more : (names : List (List ℕ)) (name : List ℕ) (rule : Rule)
    → is_among (names ++ name ∷ []) rule ≡ (is_among names rule || bytes_eq (rule_name rule) name)
among_more names name rule =
    list_any-append (λ n. bytes_eq (rule_name rule) n) names (name ∷ [])
    ∙ ap (λ (b : Bool). is_among names rule || b) (or_false (bytes_eq (rule_name rule) name))

-- ---- sets

pub put_in : (old here is_in : Bool) → is_in ≡ true → (old || here) ≡ (if here then is_in else old)
put_in true true is_in e = sym e
put_in false true is_in e = sym e
put_in true false is_in e = refl
put_in false false is_in e = refl

pub put_out : (old here is_in : Bool) → is_in ≡ false → (old && not here) ≡ (if here then is_in else old)
put_out true true is_in e = sym e
put_out false true is_in e = sym e
put_out true false is_in e = refl
put_out false false is_in e = refl

either : (a s has old : Bool) → (if s then has else (if a then has else old)) ≡ (if a || s then has else old)
either true true has old = refl
either true false has old = refl
either false true has old = refl
either false false has old = refl

module _ (old middle new : RuleSet) (rule it : Rule) (names : List (List ℕ)) (name : List ℕ) (its : rule_name it ≡ name)
  where
    same : bytes_eq (rule_name rule) name ≡ (rule_number rule == rule_number it)
    same = ap (λ (n : List ℕ). bytes_eq (rule_name rule) n) (sym its) ∙ one_of_its_name rule it

    -- one name more
    pub put_next : (has : Bool) → has_rule middle rule ≡ (if is_among names rule then has else has_rule old rule)
        → has_rule new rule ≡ (if rule_number rule == rule_number it then has else has_rule middle rule)
        → has_rule new rule ≡ (if is_among (names ++ name ∷ []) rule then has else has_rule old rule)
    put_next has so_far puts =
        puts ∙ ap (λ (b : Bool). if rule_number rule == rule_number it then has else b) so_far
        ∙ either (is_among names rule) (rule_number rule == rule_number it) has (has_rule old rule)
        ∙ ap (λ (b : Bool). if is_among names rule || b then has else has_rule old rule) (sym same)
        ∙ ap (λ (b : Bool). if b then has else has_rule old rule) (sym (among_more names name rule))

-- ---- the names as the code has them

pub next_names : (words : List (Bor (List ℕ))) (i : ℕ) (d : Bor (List ℕ)) → i < length words
    → texts (take (i + 1) words) ≡ texts (take i words) ++ (get_or words i d).now ∷ []
next_names words i d within =
    ap texts (take_more words i d within)
    ∙ map-append (λ (w : Bor (List ℕ)). w.now) (take i words) (get_or words i d ∷ [])

pub known_next : (names : List (List ℕ)) (name : List ℕ) (it : Rule) → rule_name it ≡ name → All IsRuleName names
    → All IsRuleName (names ++ name ∷ [])
known_next names name it its known =
    All-append IsRuleName names (name ∷ []) known (All-cons IsRuleName name [] (it, its) (All-nil IsRuleName))

pub is_there : (words : List (Bor (List ℕ))) (i : ℕ) (d : Bor (List ℕ)) → i < length words
    → Contains (texts words) (get_or words i d).now
is_there words i d within =
    subst (λ (n : List ℕ). Contains (texts words) n) (get_or-map (λ (w : Bor (List ℕ)). w.now) words i d [] within)
    (Contains-get_or (texts words) i [] (omega (arith, within, length-map words (λ (w : Bor (List ℕ)). w.now))))

-- ---- the names of both options

in_neither : (a w : Bool) → (if w then false else (if a then false else true)) ≡ not (a || w)
in_neither true true = refl
in_neither true false = refl
in_neither false true = refl
in_neither false false = refl

in_second : (a w : Bool) → (if a then false else (if w then true else false)) ≡ (w && not a)
in_second true true = refl
in_second true false = refl
in_second false true = refl
in_second false false = refl

module _ (allowed warned : List (List ℕ)) (every first judged none second told : RuleSet)
    (has_all : (rule : Rule) → has_rule every rule ≡ true)
    (drops : (rule : Rule) → has_rule first rule ≡ (if is_among allowed rule then false else has_rule every rule))
    (drops_too : (rule : Rule) → has_rule judged rule ≡ (if is_among warned rule then false else has_rule first rule))
    (has_none : (rule : Rule) → has_rule none rule ≡ false)
    (adds : (rule : Rule) → has_rule second rule ≡ (if is_among warned rule then true else has_rule none rule))
    (takes : (rule : Rule) → has_rule told rule ≡ (if is_among allowed rule then false else has_rule second rule)) where
  pub are_rules : All IsRuleName allowed → All IsRuleName warned → AreRules allowed warned judged told
  are_rules known known_too = record {
    known = All-append IsRuleName allowed warned known known_too;
    judged = λ rule.
        drops_too rule
        ∙ ap (λ (b : Bool). if is_among warned rule then false else b)
        (drops rule ∙ ap (λ (b : Bool). if is_among allowed rule then false else b) (has_all rule))
        ∙ in_neither (is_among allowed rule) (is_among warned rule)
        ∙ ap not (sym (list_any-append (λ name. bytes_eq (rule_name rule) name) allowed warned));
    told = λ rule.
        takes rule
        ∙ ap (λ (b : Bool). if is_among allowed rule then false else b)
        (adds rule ∙ ap (λ (b : Bool). if is_among warned rule then true else b) (has_none rule))
        ∙ in_second (is_among allowed rule) (is_among warned rule);
  }

pub unknown_allowed : (allowed warned : List (List ℕ)) (error : WordsError) → IsNotRead (IsUnknownRule allowed) error
    → IsNotRead (IsUnknownRule (allowed ++ warned)) error
unknown_allowed allowed warned (Usage misuse) unknown =
    (Contains-append_left allowed warned misuse.word.now unknown.0, unknown.1)
unknown_allowed allowed warned Memory unknown = tt

pub unknown_warned : (allowed warned : List (List ℕ)) (error : WordsError) → IsNotRead (IsUnknownRule warned) error
    → IsNotRead (IsUnknownRule (allowed ++ warned)) error
unknown_warned allowed warned (Usage misuse) unknown =
    (Contains-append_right allowed warned misuse.word.now unknown.0, unknown.1)
unknown_warned allowed warned Memory unknown = tt
