-- Which texts pass, while they are judged.
use Rattle.std.proofs.Common.{◌≡◌, ◌≢◌, ◌<◌, ℕ, Bool, true, false, eqb, eqb-true, List, [], ◌∷◌}
use Rattle.std.proofs.Common.{◌++◌, length, map, take, get_or, refl, sym, ap, ◌∙◌, subst, arith, inl, inr, Option, Some}
use Rattle.std.proofs.Common.{None}
use Rattle.std.proofs.Math.ListN.{length-set, set}
use Rattle.std.proofs.lemmas.Bool.{eqb-false}
use Rattle.std.proofs.lemmas.Grind.{get_or-set_at}
use Rattle.std.proofs.lemmas.List.{get_or-set_other, get_or_default}
use Rattle.std.proofs.lemmas.List.Elements.{All-append, All-cons, All-get_or, All-head, All-nil, All-set, All-tail}
use Rattle.std.proofs.lemmas.List.Elements.{All-weaker}
use Rattle.std.specs.List.{filter}
use Rattle.std.specs.Prelude.{◌↔◌, ◌⊎◌, All, Err, Ok, OnOk, Result, option_map, slice_index_or}
use Rattle.apollo_tree.specs.Order.{Place}
use Rattle.apollo_parser.proofs.OneParse.{one-parse}
use Rattle.apollo_parser.specs.Parsed.{Parsed}
use Rattle.validation_names.specs.Definitions.{defined}
use Rattle.validation_names.specs.Names.{Name}
use Rattle.validation_names.specs.Sites.{Located, as_located}
use Rattle.validation_names.specs.declared.sites.Site.{Site}
use Rattle.validation_rules.specs.declared.violations.Violation.{Violation}
use Rattle.document_validation.specs.Validation.{AreDecided, AreValidIn, IsValidation}
use Rattle.document_validation.specs.declared.validation.Validation.{Validation}
use Rattle.document_validation.specs.declared.validation.ValidationOptions.{ValidationOptions}
use Rattle.cost_figures.specs.declared.figures.Figures.{Figures}
use Rattle.cost_limits.specs.Limits.{IsWithin}
use Rattle.cost_limits.specs.Measures.{Measure}
use Rattle.query_validation.specs.Breaches.{QueryBreach, breaches}
use Rattle.document_checks.proofs.Verdicts.{one_measures}
use Rattle.document_checks.proofs.Warnings.{founded_of, not_both}
use Rattle.document_checks.specs.Checking.{Asked, HaveMeasures, has_limits, is_chosen, judged_documents, measuring}
use Rattle.document_checks.specs.Documents.{AllPass, AreChecked, AreClean, AreJudged, AreJudgedTogether, AreMeasured}
use Rattle.document_checks.specs.Documents.{AreTold, AreWarned, IsFounded, IsUnwarned}
use Rattle.document_checks.specs.Passing.{AreKept, HasWithin, IsThere, IsWithout, PassIf, found_sites, text_number}
use Rattle.document_checks.specs.Passing.{undecided_sites, validation_options, violation_sites}
use Rattle.document_checks.specs.Schemas.{AreSchemaSites, AreValidBySchema, IsStandard, judged_of, types_by}
use Rattle.document_checks.specs.Warnings.{AreQuietIf, has_warnings, warning_options}
use Rattle.document_checks.specs.declared.report.Report.{Report}

-- ---- lists

pub all_front : {X : Type 0} (P : X → Type 0) (xs ys : List X) → All P (xs ++ ys) → All P xs
all_front P [] ys all = All-nil P
all_front P (x ∷ xs) ys all =
    All-cons P x xs (All-head P x (xs ++ ys) all) (all_front P xs ys (All-tail P x (xs ++ ys) all))

pub all_last : {X : Type 0} (P : X → Type 0) (xs : List X) (y : X) → All P (xs ++ y ∷ []) → P y
all_last P [] y all = All-head P y [] all
all_last P (x ∷ xs) y all = all_last P xs y (All-tail P x (xs ++ y ∷ []) all)

-- ---- one judgement after the other: Q says of a text and of something whether that lets the text pass

pub none_yet : {X : Type 0} (Q : ℕ → X → Type 0) (rs : List Report) → AllPass rs → PassIf (λ text. All (Q text) []) rs
none_yet Q rs all = λ text r inside. (λ is. All-nil (Q text), λ none. all text r inside)

one_text : {X : Type 0} (Q : ℕ → X → Type 0) (rs : List Report) (k : ℕ) (old new : Report) (front : List X) (x : X)
    → k < length rs → old ≡ get_or rs k old → PassIf (λ text. All (Q text) front) rs
    → (new.passes ≡ true) ↔ ((old.passes ≡ true) × Q k x) → ((text : ℕ) → text ≢ k → Q text x)
    → (text : ℕ) (r : Report) → text < length rs → (b : Bool) → eqb text k ≡ b
    → ((get_or (set rs k new) text r).passes ≡ true) ↔ All (Q text) (front ++ x ∷ [])
one_text Q rs k old new front x inside was each here others text r within true e =
    let same : text ≡ k = eqb-true text k e in
    let is : get_or (set rs k new) text r ≡ new = get_or-set_at rs k text new r same inside in
    let old_is : (get_or rs text old).passes ≡ old.passes =
    ap (λ n. (get_or rs n old).passes) same ∙ sym (ap (λ (q : Report). q.passes) was) in (
      λ passes.
          let both = here.0 (sym (ap (λ (q : Report). q.passes) is) ∙ passes) in
          All-append (Q text) front (x ∷ []) ((each text old within).0 (old_is ∙ both.0))
          (All-cons (Q text) x [] (subst (λ n. Q n x) (sym same) both.1) (All-nil (Q text))),
      λ all. ap (λ (q : Report). q.passes) is ∙ here.1 (
        sym old_is ∙ (each text old within).1 (all_front (Q text) front (x ∷ []) all),
        subst (λ n. Q n x) same (all_last (Q text) front x all),
      ),
    )
one_text Q rs k old new front x inside was each here others text r within false e =
    let apart : text ≢ k = eqb-false text k e in
    let is : get_or (set rs k new) text r ≡ get_or rs text r = get_or-set_other rs k text new r apart in (
      λ passes. All-append (Q text) front (x ∷ [])
          ((each text r within).0 (sym (ap (λ (q : Report). q.passes) is) ∙ passes))
          (All-cons (Q text) x [] (others text apart) (All-nil (Q text))),
      λ all. ap (λ (q : Report). q.passes) is ∙ (each text r within).1 (all_front (Q text) front (x ∷ []) all),
    )

pub one_more : {X : Type 0} (Q : ℕ → X → Type 0) (rs : List Report) (k : ℕ) (old new : Report) (front : List X) (x : X)
    → k < length rs → old ≡ get_or rs k old → PassIf (λ text. All (Q text) front) rs
    → (new.passes ≡ true) ↔ ((old.passes ≡ true) × Q k x) → ((text : ℕ) → text ≢ k → Q text x)
    → PassIf (λ text. All (Q text) (front ++ x ∷ [])) (set rs k new)
one_more Q rs k old new front x inside was each here others = λ text r within.
    one_text Q rs k old new front x inside was each here others text r (omega (arith, within, length-set {A = Report}))
    (eqb text k) refl

pub clean_pass : (rs : List Report) → AreClean rs → AllPass rs
clean_pass rs clean = λ k d inside. (clean k d inside).0

unwarned_of : (rs : List Report) → AreClean rs → All IsUnwarned rs
unwarned_of rs clean = λ k d inside.
    let c = clean k d inside in
    record { error = λ fails. absurd (not_both (get_or rs k d).passes c.0 fails); nothing = λ passes. c.1 }

pub begun : {X : Type 0} (Q : ℕ → X → Type 0) (rs : List Report) → AreClean rs
    → AreJudged (λ text. All (Q text) []) rs rs
begun Q rs clean =
    record { count = refl; founded = unwarned_of rs clean; each = none_yet Q rs (clean_pass rs clean) }

judged_more : {X : Type 0} (Q : ℕ → X → Type 0) (old rs rs' : List Report) (k : ℕ) (was new : Report)
    (front more : List X) (x : X) → k < length rs → was ≡ get_or rs k was → rs' ≡ set rs k new → more ≡ front ++ x ∷ []
    → (new.passes ≡ true) ↔ ((was.passes ≡ true) × Q k x) → ((text : ℕ) → text ≢ k → Q text x)
    → (IsUnwarned was → IsUnwarned new) → AreJudged (λ text. All (Q text) front) old rs
    → AreJudged (λ text. All (Q text) more) old rs'
judged_more Q old rs rs' k was new front more x inside is after longer here others founded judged =
    let was_founded : IsUnwarned was =
    subst IsUnwarned (sym is) (All-get_or IsUnwarned rs k was inside judged.founded) in
    let count : length (set rs k new) ≡ length old = omega (arith, judged.count, length-set {A = Report}) in
    let found : All IsUnwarned (set rs k new) = All-set IsUnwarned rs k new (founded was_founded) judged.founded in
    let each : PassIf (λ text. All (Q text) (front ++ x ∷ [])) (set rs k new) =
    one_more Q rs k was new front x inside is judged.each here others in
    subst (λ (qs : List Report). AreJudged (λ text. All (Q text) more) old qs) (sym after)
    (subst (λ ys. AreJudged (λ text. All (Q text) ys) old (set rs k new)) (sym longer)
    (record { count = count; founded = found; each = each }))

-- one more place
pub place_more : (numbers : List ℕ) (old rs rs' : List Report) (k : ℕ) (was new : Report)
    (front more : List Located) (s : Located) → k ≡ text_number numbers s → k < length rs → was ≡ get_or rs k was
    → rs' ≡ set rs k new → more ≡ front ++ s ∷ []
    → new.passes ≡ false → (IsUnwarned was → IsUnwarned new)
    → AreJudged (IsWithout numbers front) old rs → AreJudged (IsWithout numbers more) old rs'
place_more numbers old rs rs' k was new front more s at inside is after longer fails founded judged =
    judged_more (λ text (x : Located). text_number numbers x ≢ text) old rs rs' k was new front more s inside is
    after longer (λ passes. absurd (not_both new.passes passes fails), λ both. absurd (both.1 (sym at)))
    (λ text apart same. apart (sym same ∙ sym at)) founded judged

-- one more operation
pub operation_more : (numbers : List ℕ) (most : Figures) (old rs rs' : List Report) (k : ℕ) (was new : Report)
    (front more : List Measure) (m : Measure) → k ≡ text_number numbers m.operation.site → k < length rs
    → was ≡ get_or rs k was → rs' ≡ set rs k new → more ≡ front ++ m ∷ []
    → (new.passes ≡ true) ↔ ((was.passes ≡ true) × All (IsWithin most) (m ∷ [])) → (IsUnwarned was → IsUnwarned new)
    → AreJudged (HasWithin numbers most front) old rs → AreJudged (HasWithin numbers most more) old rs'
operation_more numbers most old rs rs' k was new front more m at inside is after longer here founded judged =
    judged_more (λ text (x : Measure). text_number numbers x.operation.site ≡ text → IsWithin most x) old rs rs' k was
    new front more m inside is after longer (
      λ passes. ((here.0 passes).0, λ same. All-head (IsWithin most) m [] (here.0 passes).1),
      λ both. here.1 (both.0, All-cons (IsWithin most) m [] (both.1 (sym at)) (All-nil (IsWithin most))),
    )
    (λ text apart same. absurd (apart (sym same ∙ sym at))) founded judged

-- one text alone does not pass
alone_at : (old : List Report) (k : ℕ) (new : Report) → k < length old → AllPass old → new.passes ≡ false
    → (text : ℕ) (r : Report) → text < length old → (b : Bool) → eqb text k ≡ b
    → ((get_or (set old k new) text r).passes ≡ true) ↔ (text ≢ k)
alone_at old k new inside all fails text r within true e =
    let same : text ≡ k = eqb-true text k e in
    let is : get_or (set old k new) text r ≡ new = get_or-set_at old k text new r same inside in (
      λ passes. absurd (not_both new.passes (sym (ap (λ (q : Report). q.passes) is) ∙ passes) fails),
      λ apart. absurd (apart same),
    )
alone_at old k new inside all fails text r within false e =
    let apart : text ≢ k = eqb-false text k e in
    let is : get_or (set old k new) text r ≡ get_or old text r = get_or-set_other old k text new r apart in
    (λ passes. apart, λ other. ap (λ (q : Report). q.passes) is ∙ all text r within)

pub alone : (old rs : List Report) (k : ℕ) (was new : Report) → k < length old → AreClean old → was ≡ get_or old k was
    → rs ≡ set old k new → new.passes ≡ false → (IsUnwarned was → IsUnwarned new) → AreJudged (λ text. text ≢ k) old rs
alone old rs k was new inside clean is after fails founded =
    let unwarned = unwarned_of old clean in
    let was_unwarned : IsUnwarned was = subst IsUnwarned (sym is) (All-get_or IsUnwarned old k was inside unwarned) in
    let count : length (set old k new) ≡ length old = omega (arith, length-set {A = Report}) in
    subst (λ (qs : List Report). AreJudged (λ text. text ≢ k) old qs) (sym after) (record {
      count = count;
      founded = All-set IsUnwarned old k new (founded was_unwarned) unwarned;
      each = λ text r within. alone_at old k new inside (clean_pass old clean) fails text r
          (omega (arith, within, count)) (eqb text k) refl;
    })

-- ---- all texts

pub all_pass : (P : ℕ → Type 0) (rs : List Report) → PassIf P rs → ((text : ℕ) → P text) → AllPass rs
all_pass P rs each holds = λ k d inside. (each k d inside).1 (holds k)

-- a text alone does not pass
pub one_fails : (k : ℕ) (rs : List Report) → k < length rs → PassIf (λ text. text ≢ k) rs → AllPass rs → ⊥
one_fails k [] inside each all = absurd (omega (arith, inside))
one_fails k (r ∷ rs) inside each all = (each k r inside).0 (all k r inside) refl

-- ---- rules

some_fail : (numbers : List ℕ) (sites : List Located) (rs : List Report) → sites ≢ []
    → ((number : ℕ) → slice_index_or numbers number 0 < length rs) → PassIf (IsWithout numbers sites) rs → AllPass rs
    → ⊥
some_fail numbers [] rs some inside each all = some refl
some_fail numbers (s ∷ ss) [] some inside each all = absurd (omega (arith, inside 0))
some_fail numbers (s ∷ ss) (r ∷ rs) some inside each all =
    let k = text_number numbers s in
    let within : k < length (r ∷ rs) = inside s.document in
    All-head (λ (x : Located). text_number numbers x ≢ k) s ss ((each k r within).0 (all k r within)) refl

-- a validation that finds nothing
abbrev pub FindsNothing : Validation → Type 0
FindsNothing v = (v.violations.items ≡ []) × (v.undecided ≡ None)

none_found : (vs : List Violation) (u : Option Site) (sites : List Located)
    → (violation_sites vs ++ undecided_sites (option_map as_located u)) ++ sites ≡ []
    → ((vs ≡ []) × (u ≡ None)) × (sites ≡ [])
none_found [] None sites e = ((refl, refl), e)
none_found [] (Some s) sites e = absurd (let r : ⊥ = cc in r)
none_found (v ∷ vs) u sites e = absurd (let r : ⊥ = cc in r)

-- neither does a judgement by the rules that need a schema, which found something at these places
abbrev pub FindNothing : Validation → List Located → Type 0
FindNothing v sites = FindsNothing v × (sites ≡ [])

-- rules are broken, or that is not decided
pub by_rules : (asked : Asked) (documents : List Place) (numbers : List ℕ) (v : Validation) (sites : List Located)
    (old new : List Report) → IsValidation (validation_options asked numbers) documents v
    → AreSchemaSites asked.schema (judged_documents asked.judged numbers) documents numbers sites
    → ¬ FindNothing v sites → (AreKept asked documents numbers → FindNothing v sites)
    → ((number : ℕ) → slice_index_or numbers number 0 < length old)
    → AreJudged (IsWithout numbers (found_sites v ++ sites)) old new
    → AreJudgedTogether asked documents numbers old new
by_rules asked documents numbers v sites old new is are some clean inside judged = record {
  count = judged.count;
  founded = judged.founded;
  sound = (
    λ all. absurd (some_fail numbers (found_sites v ++ sites) new
        (λ none. some (none_found v.violations.items v.undecided sites none))
        (λ number. omega (arith, inside number, judged.count)) judged.each all),
    λ s. absurd (some (clean s.0)),
  );
  each = record {
    rules = λ broken. record { validation = v; is = is; sites = sites; are = are; each = judged.each };
    limits = λ ms keeps figures there. absurd (some (clean keeps));
    missing = λ ms keeps figures there. absurd (some (clean keeps));
    unmeasured = λ keeps none free. absurd (some (clean keeps));
  };
}

-- Nothing is found.
pub no_sites_found : (vs : List Violation) (u : Option Site) (sites : List Located) → vs ≡ [] → u ≡ None → sites ≡ []
    → (violation_sites vs ++ undecided_sites (option_map as_located u)) ++ sites ≡ []
no_sites_found vs u sites none decided empty =
    ap (λ (xs : List Violation). (violation_sites xs ++ undecided_sites (option_map as_located u)) ++ sites) none
    ∙ ap (λ (x : Option Site). undecided_sites (option_map as_located x) ++ sites) decided ∙ empty

pub none_counted : (count : ℕ) (sites : List Located) → count ≡ length sites → count ≡ 0 → sites ≡ []
none_counted count [] is none = refl
none_counted count (s ∷ ss) is none = absurd (omega (arith, is, none))

pub counted_none : (count : ℕ) (sites : List Located) → count ≡ length sites → sites ≡ [] → count ≡ 0
counted_none count sites is none = is ∙ ap length none

-- where nothing was found, nothing is in the reports
pub clean_after : (numbers : List ℕ) (sites : List Located) (old new : List Report) → sites ≡ []
    → AreJudged (IsWithout numbers sites) old new → AreClean new
clean_after numbers sites old new none judged = λ text r inside.
    let passes = (judged.each text r inside).1
    (subst (λ (ss : List Located). IsWithout numbers ss text) (sym none)
    (All-nil (λ (x : Located). text_number numbers x ≢ text))) in
    (passes, (judged.founded text r inside).nothing passes)

-- no rule is broken
pub by_limits : (asked : Asked) (documents : List Place) (numbers : List ℕ) (old middle new : List Report)
    → AreKept asked documents numbers → length middle ≡ length old
    → AreMeasured asked documents numbers middle new → AreJudgedTogether asked documents numbers old new
by_limits asked documents numbers old middle new kept as_many measured = record {
  count = measured.count ∙ as_many;
  founded = measured.founded;
  sound = (λ all. (kept, measured.within.0 all), λ s. measured.within.1 s.1);
  each = record {
    rules = λ broken. absurd (broken kept);
    limits = λ ms keeps figures there. measured.limits ms figures there;
    missing = λ ms keeps figures there. measured.missing ms figures there;
    unmeasured = λ keeps none free. measured.unmeasured none free;
  };
}

-- ---- limits

is_there : (operation : Option Name) (chosen : List Measure)
    → (operation ≢ None → chosen ≢ []) ⊎ ((operation ≢ None) × (chosen ≡ []))
is_there None chosen = inl (λ some. absurd (some refl))
is_there (Some name) [] = inr (λ e. let r : ⊥ = cc in r, refl)
is_there (Some name) (m ∷ ms) = inl (λ some e. let r : ⊥ = cc in r)

-- where all texts pass, each operation is within the limits
all_within : (numbers : List ℕ) (most : Figures) (ms : List Measure) (rs : List Report)
    → ((number : ℕ) → slice_index_or numbers number 0 < length rs) → PassIf (HasWithin numbers most ms) rs → AllPass rs
    → All (IsWithin most) ms
all_within numbers most ms [] inside each all = absurd (omega (arith, inside 0))
all_within numbers most ms (r ∷ rs) inside each all = λ k d below.
    let site = (get_or ms k d).operation.site in
    let within : text_number numbers site < length (r ∷ rs) = inside site.document in
    (each (text_number numbers site) r within).0 (all (text_number numbers site) r within) k d below refl

-- there are figures
pub measured : (asked : Asked) (documents : List Place) (numbers : List ℕ) (ms : List Measure) (old new : List Report)
    → HaveMeasures asked documents numbers ms → ((number : ℕ) → slice_index_or numbers number 0 < length old)
    → (IsThere asked ms
    → AreJudged (HasWithin numbers asked.most (filter (is_chosen asked.operation) ms)) old new)
    → (¬ IsThere asked ms → AreJudged (λ text. text ≢ 0) old new)
    → AreMeasured asked documents numbers old new
measured asked documents numbers ms old new figures inside if_there if_not =
    elim (is_there asked.operation (filter (is_chosen asked.operation) ms))
    [ inl there ↦ of_there there | inr missing ↦ of_missing missing.0 missing.1 ]
  where
    same : (others : List Measure) → HaveMeasures asked documents numbers others → ms ≡ others
    same others those = one_measures (measuring asked numbers) (defined documents) ms others figures those

    of_there : IsThere asked ms → AreMeasured asked documents numbers old new
    of_there there =
        let judged = if_there there in record {
          count = judged.count;
          founded = judged.founded;
          within = (
            λ all. record {
              figures = λ limited. (ms, figures);
              chosen = λ others those. record {
                within = subst
                    (λ (xs : List Measure). All (IsWithin asked.most) (filter (is_chosen asked.operation) xs))
                    (same others those)
                    (all_within numbers asked.most (filter (is_chosen asked.operation) ms) new
                    (λ number. omega (arith, inside number, judged.count)) judged.each all);
                there = subst (λ (xs : List Measure). IsThere asked xs) (same others those) there;
              };
            },
            λ w. all_pass (HasWithin numbers asked.most (filter (is_chosen asked.operation) ms)) new judged.each
                (λ text. All-weaker (IsWithin asked.most)
                (λ (m : Measure). text_number numbers m.operation.site ≡ text → IsWithin asked.most m)
                (λ m within is. within) (filter (is_chosen asked.operation) ms) (w.chosen ms figures).within),
          );
          limits = λ others those there'.
              subst (λ (xs : List Measure).
              PassIf (HasWithin numbers asked.most (filter (is_chosen asked.operation) xs)) new)
              (same others those) judged.each;
          missing = λ others those not. absurd (not
              (subst (λ (xs : List Measure). IsThere asked xs) (same others those) there));
          unmeasured = λ none free. absurd (none ms figures);
        }

    of_missing : asked.operation ≢ None → filter (is_chosen asked.operation) ms ≡ []
        → AreMeasured asked documents numbers old new
    of_missing named empty =
        let judged = if_not (λ there. there named empty) in record {
          count = judged.count;
          founded = judged.founded;
          within = (
            λ all. absurd (one_fails 0 new (omega (arith, inside 0, judged.count)) judged.each all),
            λ w. absurd ((w.chosen ms figures).there named empty),
          );
          limits = λ others those there. absurd (there named
              (subst (λ (xs : List Measure). filter (is_chosen asked.operation) xs ≡ []) (same others those) empty));
          missing = λ others those not. judged.each;
          unmeasured = λ none free. absurd (none ms figures);
        }

-- there are none: a text fails where something is asked of the operations, and else none does
pub unmeasured : (asked : Asked) (documents : List Place) (numbers : List ℕ) (old new : List Report)
    → ((ms : List Measure) → ¬ HaveMeasures asked documents numbers ms) → AreClean old
    → (has_limits asked ≡ true → (k : ℕ) × (k < length new) × AreJudged (λ text. text ≢ k) old new)
    → (has_limits asked ≡ false → new ≡ old) → AreMeasured asked documents numbers old new
unmeasured asked documents numbers old new none clean failed free = by (has_limits asked) refl
  where
    by : (b : Bool) → has_limits asked ≡ b → AreMeasured asked documents numbers old new
    by true e =
        let f = failed e in record {
          count = f.2.count;
          founded = f.2.founded;
          within = (
            λ all. absurd (one_fails f.0 new f.1 f.2.each all),
            λ w. absurd (none (w.figures e).0 (w.figures e).1),
          );
          limits = λ ms figures there. absurd (none ms figures);
          missing = λ ms figures not. absurd (none ms figures);
          unmeasured = λ no_figures not. absurd (not_both (has_limits asked) e not);
        }
    by false e =
        let all : AllPass new = subst AllPass (sym (free e)) (clean_pass old clean) in record {
          count = ap length (free e);
          founded = subst (All IsUnwarned) (sym (free e)) (unwarned_of old clean);
          within = (
            λ passes. record {
              figures = λ limited. absurd (not_both (has_limits asked) limited e);
              chosen = λ ms figures. absurd (none ms figures);
            },
            λ w. all,
          );
          limits = λ ms figures there. absurd (none ms figures);
          missing = λ ms figures not. absurd (none ms figures);
          unmeasured = λ no_figures not. λ text r inside. (λ is. tt, λ holds. all text r inside);
        }

-- ---- validation

-- what is asked of validation
pub options_are : (asked : Asked) (numbers : List ℕ) (judged : Option ℕ) (o : ValidationOptions)
    → o ≡ record { selection = record { rules = asked.rules; judged = judged }; most = 1001; steps = asked.steps }
    → judged ≡ judged_documents asked.judged numbers → o ≡ validation_options asked numbers
options_are asked numbers judged o is same =
    is ∙ ap (λ (j : Option ℕ). record {
      selection = record { rules = asked.rules; judged = j };
      most = 1001;
      steps = asked.steps;
    }) same

-- where the first 1001 of some breaches are no breach, there is none
none_of_first : (bs : List QueryBreach) → map (λ (b : QueryBreach). b.site) (take 1001 bs) ≡ [] → bs ≡ []
none_of_first [] e = refl
none_of_first (b ∷ bs) e = absurd (let r : ⊥ = cc in r)

-- there is one document of the standard's definitions
one_standard : (d d' : Place) → IsStandard d → IsStandard d' → d ≡ d'
one_standard d d' is is' =
    let same = one-parse is.parsed is'.parsed is.promise.by_rules is'.promise.by_rules in
    is.root ∙ ap (λ (u : Parsed). record { whole = u.tree; index = 0 }) same ∙ sym is'.root

pub valid_by_schema : (schema judged : Option ℕ) (documents : List Place) (numbers : List ℕ) (sites : List Located)
    → AreSchemaSites schema judged documents numbers sites
    → (sites ≡ []) ↔ AreValidBySchema schema judged documents numbers
valid_by_schema None judged documents numbers sites are = (λ none. tt, λ valid. are)
valid_by_schema (Some texts) judged documents numbers sites (standard, is, are) = (
  λ none. (standard, is, none_of_first _ (sym are ∙ none)),
  λ valid.
      let same = one_standard standard valid.0 is valid.1 in
      are
      ∙ ap (λ (d : Place). map (λ (b : QueryBreach). b.site)
      (take 1001 (breaches (types_by texts documents numbers d) (judged_of judged documents)))) same
      ∙ ap (λ (bs : List QueryBreach). map (λ (b : QueryBreach). b.site) (take 1001 bs)) valid.2,
)

-- The rules are kept exactly if nothing is found.
pub kept_if_clean : (asked : Asked) (documents : List Place) (numbers : List ℕ) (o : ValidationOptions) (v : Validation)
    (sites : List Located) → o ≡ validation_options asked numbers
    → (0 < o.most → FindsNothing v ↔ (AreValidIn o.selection documents × AreDecided o.steps documents))
    → AreSchemaSites asked.schema (judged_documents asked.judged numbers) documents numbers sites
    → FindNothing v sites ↔ AreKept asked documents numbers
kept_if_clean asked documents numbers o v sites is iff are =
    let typed = valid_by_schema asked.schema (judged_documents asked.judged numbers) documents numbers sites are in
    let kept = subst (λ (x : ValidationOptions). 0 < x.most
    → FindsNothing v ↔ (AreValidIn x.selection documents × AreDecided x.steps documents)) is iff (omega arith) in (
      λ none. ((kept.0 none.0).0, (kept.0 none.0).1, typed.0 none.1),
      λ keeps. (kept.1 (keeps.0, keeps.1), typed.1 keeps.2),
    )

-- what is measured
pub measuring_is : (asked : Asked) (numbers : List ℕ) (judged : Option ℕ)
    → judged ≡ judged_documents asked.judged numbers
    → record { introspection = asked.introspection; measured = judged } ≡ measuring asked numbers
measuring_is asked numbers judged same =
    ap (λ (j : Option ℕ). record { introspection = asked.introspection; measured = j }) same

-- ---- warnings

pub told_nothing : (numbers : List ℕ) (rs : List Report) → AreTold numbers [] rs rs
told_nothing numbers rs = record {
  count = refl;
  founded = λ founded. founded;
  passes = λ text r. refl;
  quiet = λ text r inside.
      (λ none. (none, All-nil (λ (x : Located). text_number numbers x ≢ text)), λ both. both.0);
}

passes_at : (rs : List Report) (k : ℕ) (was new : Report) → k < length rs → was ≡ get_or rs k was
    → new.passes ≡ was.passes
    → (text : ℕ) (r : Report) (b : Bool) → eqb text k ≡ b
    → (get_or (set rs k new) text r).passes ≡ (get_or rs text r).passes
passes_at rs k was new inside is passes text r true e =
    let same : text ≡ k = eqb-true text k e in
    let at : get_or (set rs k new) text r ≡ new = get_or-set_at rs k text new r same inside in
    ap (λ (q : Report). q.passes) at ∙ passes ∙ ap (λ (q : Report). q.passes) is
    ∙ ap (λ (q : Report). q.passes) (get_or_default rs k was r inside)
    ∙ ap (λ n. (get_or rs n r).passes) (sym same)
passes_at rs k was new inside is passes text r false e =
    ap (λ (q : Report). q.passes) (get_or-set_other rs k text new r (eqb-false text k e))

-- one more place
quiet_at : (numbers : List ℕ) (rs : List Report) (k : ℕ) (new : Report) (front : List Located) (s : Located)
    (HadNone : Type 0) → k ≡ text_number numbers s → k < length rs → new.findings.items ≢ []
    → (text : ℕ) (r : Report)
    → ((get_or rs text r).findings.items ≡ []) ↔ (HadNone × IsWithout numbers front text)
    → (b : Bool) → eqb text k ≡ b
    → ((get_or (set rs k new) text r).findings.items ≡ []) ↔ (HadNone × IsWithout numbers (front ++ s ∷ []) text)
quiet_at numbers rs k new front s HadNone at inside some text r so_far true e =
    let same : text ≡ k = eqb-true text k e in
    let is : get_or (set rs k new) text r ≡ new = get_or-set_at rs k text new r same inside in (
      λ none. absurd (some (sym (ap (λ (q : Report). q.findings.items) is) ∙ none)),
      λ both. absurd (all_last (λ (x : Located). text_number numbers x ≢ text) front s both.1 (sym at ∙ sym same)),
    )
quiet_at numbers rs k new front s HadNone at inside some text r so_far false e =
    let apart : text ≢ k = eqb-false text k e in
    let is : get_or (set rs k new) text r ≡ get_or rs text r = get_or-set_other rs k text new r apart in
    let outside = λ (x : Located). text_number numbers x ≢ text in (
      λ none.
          let both = so_far.0 (sym (ap (λ (q : Report). q.findings.items) is) ∙ none) in (
            both.0,
            All-append outside front (s ∷ []) both.1
                (All-cons outside s [] (λ here. apart (sym here ∙ sym at)) (All-nil outside)),
          ),
      λ both. ap (λ (q : Report). q.findings.items) is
          ∙ so_far.1 (both.0, all_front outside front (s ∷ []) both.1),
    )

-- one more warning
pub told_more : (numbers : List ℕ) (old rs rs' : List Report) (k : ℕ) (was new : Report) (front more : List Located)
    (s : Located) → k ≡ text_number numbers s → k < length rs → was ≡ get_or rs k was → rs' ≡ set rs k new
    → more ≡ front ++ s ∷ [] → new.passes ≡ was.passes → (IsFounded was → IsFounded new)
    → new.findings.items ≢ [] → AreTold numbers front old rs → AreTold numbers more old rs'
told_more numbers old rs rs' k was new front more s at inside is after longer passes founded some told =
    subst (λ (qs : List Report). AreTold numbers more old qs) (sym after)
    (subst (λ (ys : List Located). AreTold numbers ys old (set rs k new)) (sym longer) (record {
      count = omega (arith, told.count, length-set {A = Report});
      founded = λ all.
          let before = told.founded all in
          All-set IsFounded rs k new (founded (subst IsFounded (sym is) (All-get_or IsFounded rs k was inside before)))
          before;
      passes = λ text r. passes_at rs k was new inside is passes text r (eqb text k) refl ∙ told.passes text r;
      quiet = λ text r within.
          quiet_at numbers rs k new front s ((get_or old text r).findings.items ≡ []) at inside some text r
          (told.quiet text r within) (eqb text k) refl;
    }))

-- The texts pass as before.
still : (P : ℕ → Type 0) (numbers : List ℕ) (sites : List Located) (old new : List Report)
    → AreTold numbers sites old new → PassIf P old → PassIf P new
still P numbers sites old new told each = λ text r inside.
    let within : text < length old = omega (arith, inside, told.count) in (
      λ passes. (each text r within).0 (sym (told.passes text r) ∙ passes),
      λ p. told.passes text r ∙ (each text r within).1 p,
    )

quiet_after : (numbers : List ℕ) (sites : List Located) (old new : List Report) → All IsUnwarned old
    → AreTold numbers sites old new → AreQuietIf (IsWithout numbers sites) new
quiet_after numbers sites old new unwarned told = λ text r inside passes.
    let within : text < length old = omega (arith, inside, told.count) in
    let none = (unwarned text r within).nothing (sym (told.passes text r) ∙ passes) in (
      λ quiet. ((told.quiet text r within).0 quiet).1,
      λ outside. (told.quiet text r within).1 (none, outside),
    )

no_sites : (numbers : List ℕ) (sites : List Located) (rs : List Report) → sites ≡ []
    → AreQuietIf (IsWithout numbers sites) rs → AreQuietIf (λ text. Unit {0}) rs
no_sites numbers sites rs empty quiet = λ text r inside passes. (
  λ none. tt,
  λ unit. (quiet text r inside passes).1
      (subst (λ (ss : List Located). IsWithout numbers ss text) (sym empty)
      (All-nil (λ (x : Located). text_number numbers x ≢ text))),
)

-- the warnings are added
pub told_after : (asked : Asked) (documents : List Place) (numbers : List ℕ) (old middle new : List Report)
    → AreJudgedTogether asked documents numbers old middle → AreWarned asked documents numbers middle new
    → AreChecked asked documents numbers old new
told_after asked documents numbers old middle new judged warned =
    let told = warned.told in
    let to : AllPass new → AllPass middle =
    λ all k d inside. sym (told.passes k d) ∙ all k d (omega (arith, inside, told.count)) in
    let from : AllPass middle → AllPass new =
    λ all k d inside. told.passes k d ∙ all k d (omega (arith, inside, told.count)) in
    let quiet = quiet_after numbers warned.sites middle new judged.founded told in
    record {
      count = told.count ∙ judged.count;
      founded = told.founded (All-weaker IsUnwarned IsFounded founded_of middle judged.founded);
      sound = (λ all. judged.sound.0 (to all), λ s. from (judged.sound.1 s));
      each = record {
        rules = λ broken.
            let found = judged.each.rules broken in
            record {
              validation = found.validation;
              is = found.is;
              sites = found.sites;
              are = found.are;
              each = still (IsWithout numbers (found_sites found.validation ++ found.sites)) numbers warned.sites
                  middle new told found.each;
            };
        limits = λ ms kept figures there.
            still (HasWithin numbers asked.most (filter (is_chosen asked.operation) ms)) numbers warned.sites middle
            new told (judged.each.limits ms kept figures there);
        missing = λ ms kept figures not.
            still (λ text. text ≢ 0) numbers warned.sites middle new told (judged.each.missing ms kept figures not);
        unmeasured = λ kept none free.
            still (λ text. Unit {0}) numbers warned.sites middle new told (judged.each.unmeasured kept none free);
      };
      warned = record {
        rules = λ some.
            let found = warned.rules some in
            record {
              validation = found.0;
              is = found.1;
              each = subst (λ (ss : List Located). AreQuietIf (IsWithout numbers ss) new) found.2 quiet;
            };
        none = λ without. no_sites numbers warned.sites new (warned.none without) quiet;
      };
    }

-- no rule is only told
pub warned_of_none : (asked : Asked) (documents : List Place) (numbers : List ℕ) (rs : List Report)
    → has_warnings asked ≡ false → AreWarned asked documents numbers rs rs
warned_of_none asked documents numbers rs without = record {
  sites = [];
  told = told_nothing numbers rs;
  rules = λ some. absurd (not_both (has_warnings asked) some without);
  none = λ again. refl;
}

-- some are
pub warned_of_some : (asked : Asked) (documents : List Place) (numbers : List ℕ) (v : Validation)
    (old new : List Report) → has_warnings asked ≡ true → IsValidation (warning_options asked numbers) documents v
    → AreTold numbers (violation_sites v.violations.items) old new → AreWarned asked documents numbers old new
warned_of_some asked documents numbers v old new some is told = record {
  sites = violation_sites v.violations.items;
  told = told;
  rules = λ again. (v, is, refl);
  none = λ without. absurd (not_both (has_warnings asked) some without);
}

-- what is asked of validation for the warnings
pub warning_options_are : (asked : Asked) (numbers : List ℕ) (judged : Option ℕ) (o : ValidationOptions)
    → o ≡ record { selection = record { rules = asked.warnings; judged = judged }; most = 1001; steps = asked.steps }
    → judged ≡ judged_documents asked.judged numbers → o ≡ warning_options asked numbers
warning_options_are asked numbers judged o is same =
    is ∙ ap (λ (j : Option ℕ). record {
      selection = record { rules = asked.warnings; judged = j };
      most = 1001;
      steps = asked.steps;
    }) same

-- ---- clauses

-- what clauses of one call say together
pub both_clauses : {T E P Q R : Type 0} (r : Result T E) → (P → Q → R) → OnOk r P → OnOk r Q → OnOk r R
both_clauses (Ok v) to p q = to p q
both_clauses (Err e) to p q = tt

pub three_clauses : {T E P Q R S : Type 0} (r : Result T E) → (P → Q → R → S) → OnOk r P → OnOk r Q → OnOk r R
    → OnOk r S
three_clauses (Ok v) to p q s = to p q s
three_clauses (Err e) to p q s = tt
