-- Texts that are parsed, and the documents among them.
use Rattle.std.proofs.Common.{◌≡◌, ◌≢◌, ◌<◌, ◌≤◌, ℕ, zero, suc, ◌+◌, Bool, true, false, List, [], ◌∷◌, ◌++◌, length}
use Rattle.std.proofs.Common.{map, take, refl, sym, ap, ap₂, ◌∙◌, subst, arith, inl, inr}
use Rattle.std.proofs.lemmas.List.Elements.{All-cons, All-head, All-nil, All-same, All-tail}
use Rattle.std.specs.List.{Any}
use Rattle.std.specs.Prelude.{◌↔◌, All, slice_index_or}
use Rattle.apollo_lexer.specs.declared.limits.Limits.{Limits}
use Rattle.apollo_tree.specs.Order.{Place}
use Rattle.apollo_parser.proofs.OneParse.{one-parse}
use Rattle.apollo_parser.specs.Diagnostics.{Diagnostic}
use Rattle.apollo_parser.specs.Parsed.{Parsed}
use Rattle.apollo_parser.specs.Promise.{Promise}
use Rattle.first_errors.specs.Places.{shown_at}
use Rattle.formatter.specs.Within.{HasCommentsAlone}
use Rattle.document_checks.proofs.Found.{of_errors}
use Rattle.document_checks.proofs.NoTokens.{not_both}
use Rattle.document_checks.proofs.Warnings.{no_warnings}
use Rattle.document_checks.specs.Checking.{HaveDocuments, HaveNumbers, IsDocument}
use Rattle.document_checks.specs.Documents.{AllPass, AreClean, AreDocuments, AreErrorReports, AreErrors, AreInside}
use Rattle.document_checks.specs.Documents.{AreParsed, IsClean, IsErrorReport, IsFounded, numbers_of, root_of}
use Rattle.document_checks.specs.Findings.{AreFindings, AreReports, BeginWithError, HasErrors}
use Rattle.document_checks.specs.Passing.{PassIf}
use Rattle.document_checks.specs.Warnings.{AreQuietIf}
use Rattle.document_checks.specs.declared.documents.Document.{Document}
use Rattle.document_checks.specs.declared.report.Finding.{Finding}
use Rattle.document_checks.specs.declared.report.Report.{Report}

-- ---- a parse has errors or none

true_not_false : (b : Bool) → b ≡ true → b ≡ false → ⊥
true_not_false b t f = let r : true ≡ false = sym t ∙ f in let x : ⊥ = cc in x

either : (b : Bool) (P : Type 0) → (b ≡ false → P → ⊥) → P → b ≡ true
either true P not p = refl
either false P not p = absurd (not refl p)

-- A document has no errors.
pub no_errors_in : (limits : Limits) (source : List ℕ) (d : Place) → IsDocument limits source d
    → HasErrors limits source → ⊥
no_errors_in limits source d is has =
    let refused = has.1.first in
    let same = one-parse refused.parsed is.parsed refused.promise.by_rules is.promise.by_rules in
    let list : has.0 ∷ refused.others ≡ [] = sym refused.first ∙ ap (λ (u : Parsed). u.errors) same ∙ is.no_errors in
    let r : ⊥ = cc in r

-- the first of the errors of a parse
first_error : (limits : Limits) (source : List ℕ) (t : Parsed) (errors : List Diagnostic)
    → ¬ HasCommentsAlone limits source
    → Promise source limits.recursion limits.tokens t → t.errors ≡ errors → errors ≢ [] → HasErrors limits source
first_error limits source t [] some promise are not = absurd (not refl)
first_error limits source t (error ∷ others) some promise are not = (
  error,
  record { some = some; first = record { parsed = t; promise = promise; others = others; first = are } },
)

errors_of : (limits : Limits) (source : List ℕ) (t : Parsed) → Promise source limits.recursion limits.tokens t
    → HasErrors limits source → t.errors ≢ []
errors_of limits source t promise has none =
    no_errors_in limits source (record { whole = t.tree; index = 0 })
    (record { parsed = t; promise = promise; no_errors = none; root = refl }) has

-- ---- reports on errors

pub of_comments : (limits : Limits) (source : List ℕ) (r : Report) → HasCommentsAlone limits source → r.passes ≡ true
    → r.findings.items ≡ [] → IsErrorReport limits source r
of_comments limits source r comments passes none = record {
  is_report = record {
    refused = λ has. absurd (has.1.some comments);
    found = λ fails. absurd (true_not_false r.passes passes fails);
    error = λ fails. absurd (true_not_false r.passes passes fails);
    warnings = λ again. no_warnings r.findings.items none;
  };
  errors = λ fails. absurd (true_not_false r.passes passes fails);
  nothing = λ again. none;
}

fails_with : (b : Bool) (P : Type 0) → (b ≡ true → P) → ¬ P → b ≡ false
fails_with true P to not = absurd (not (to refl))
fails_with false P to not = refl

found_of : (limits : Limits) (source : List ℕ) (t : Parsed) (r : Report) (errors : List Diagnostic)
    → Promise source limits.recursion limits.tokens t → errors ≡ t.errors → errors ≢ []
    → take 1 (map (λ (f : Finding). f.start) r.findings.items) ≡ map (shown_at source) (take 1 errors)
    → AreFindings limits source r.findings.items
found_of limits source t r [] promise are some first = absurd (some refl)
found_of limits source t r (e ∷ es) promise are some first =
    of_errors limits source t (e ∷ es) r.findings.items promise are (omega arith) first

begin_of : (limits : Limits) (source : List ℕ) (findings : List Finding) → AreFindings limits source findings
    → AreErrors findings → BeginWithError findings
begin_of limits source [] are errors = absurd are
begin_of limits source (f ∷ fs) are errors = All-head (λ (g : Finding). g.is_warning ≡ false) f fs errors

pub of_parse : (limits : Limits) (source : List ℕ) (t : Parsed) (r : Report) → ¬ HasCommentsAlone limits source
    → Promise source limits.recursion limits.tokens t → (r.passes ≡ true) ↔ (t.errors ≡ [])
    → take 1 (map (λ (f : Finding). f.start) r.findings.items) ≡ map (shown_at source) (take 1 t.errors)
    → AreErrors r.findings.items → (r.passes ≡ true → r.findings.items ≡ []) → IsErrorReport limits source r
of_parse limits source t r some promise iff first are nothing =
    let not_none = λ (fails : r.passes ≡ false) (none : t.errors ≡ []).
    true_not_false r.passes (iff.1 none) fails in
    record {
      is_report = record {
        refused = λ has. fails_with r.passes (t.errors ≡ []) iff.0 (errors_of limits source t promise has);
        found = λ fails. found_of limits source t r t.errors promise refl (not_none fails) first;
        error = λ fails. begin_of limits source r.findings.items
            (found_of limits source t r t.errors promise refl (not_none fails) first) are;
        warnings = λ passes. no_warnings r.findings.items (nothing passes);
      };
      errors = λ fails. first_error limits source t t.errors some promise refl (not_none fails);
      nothing = nothing;
    }

pub same_count : (limits : Limits) (sources : List (List ℕ)) (rs : List Report) → AreErrorReports limits sources rs
    → length rs ≡ length sources
same_count limits [] [] are = refl
same_count limits [] (r ∷ rs) are = absurd are
same_count limits (s ∷ ss) [] are = absurd are
same_count limits (s ∷ ss) (r ∷ rs) are = ap suc (same_count limits ss rs are.1)

-- one more text
add_report : (limits : Limits) (sources : List (List ℕ)) (source : List ℕ) (rs : List Report) (r : Report)
    → AreErrorReports limits sources rs
    → IsErrorReport limits source r → AreErrorReports limits (sources ++ source ∷ []) (rs ++ r ∷ [])
add_report limits [] source [] r are new = (new, tt)
add_report limits [] source (x ∷ rs) r are new = absurd are
add_report limits (s ∷ ss) source [] r are new = absurd are
add_report limits (s ∷ ss) source (x ∷ rs) r are new = (are.0, add_report limits ss source rs r are.1 new)

-- ---- documents

add_none : (limits : Limits) (k : ℕ) (sources : List (List ℕ)) (source : List ℕ) (ds : List Document)
    → AreDocuments limits k sources ds
    → HasCommentsAlone limits source → AreDocuments limits k (sources ++ source ∷ []) ds
add_none limits k [] source ds are comments = inl (comments, are)
add_none limits k (s ∷ ss) source ds (inl (lacks, more)) comments =
    inl (lacks, add_none limits (suc k) ss source ds more comments)
add_none limits k (s ∷ ss) source ds (inr (some, d, others, is, number, promise, more)) comments =
    inr (some, d, others, is, number, promise, add_none limits (suc k) ss source others more comments)

add_one : (limits : Limits) (k : ℕ) (sources : List (List ℕ)) (source : List ℕ) (ds : List Document) (d : Document)
    → d.text ≡ k + length sources → ¬ HasCommentsAlone limits source
    → Promise source limits.recursion limits.tokens d.tree
    → AreDocuments limits k sources ds → AreDocuments limits k (sources ++ source ∷ []) (ds ++ d ∷ [])
add_one limits k [] source ds d at some promise are =
    inr (some, d, [], ap (λ xs. xs ++ d ∷ []) are, omega (arith, at), promise, refl)
add_one limits k (s ∷ ss) source ds d at some promise (inl (lacks, more)) =
    inl (lacks, add_one limits (suc k) ss source ds d (omega (arith, at)) some promise more)
add_one limits k (s ∷ ss) source ds d at some promise (inr (some_too, e, others, is, number, promise_too, more)) =
    inr (
      some_too,
      e,
      others ++ d ∷ [],
      ap (λ xs. xs ++ d ∷ []) is,
      number,
      promise_too,
      add_one limits (suc k) ss source others d (omega (arith, at)) some promise more,
    )

pub add_comments : (limits : Limits) (source : List ℕ) (r : Report) (sources : List (List ℕ)) (ds : List Document)
    (rs : List Report) → HasCommentsAlone limits source → r.passes ≡ true → r.findings.items ≡ []
    → AreParsed limits sources ds rs → AreParsed limits (sources ++ source ∷ []) ds (rs ++ r ∷ [])
add_comments limits source r sources ds rs comments passes none parsed = record {
  are_documents = add_none limits 0 sources source ds parsed.are_documents comments;
  are_reports = add_report limits sources source rs r parsed.are_reports
      (of_comments limits source r comments passes none);
}

pub add_document : (limits : Limits) (source : List ℕ) (d : Document) (r : Report) (sources : List (List ℕ))
    (ds : List Document) (rs : List Report) → ¬ HasCommentsAlone limits source → d.text ≡ length rs
    → Promise source limits.recursion limits.tokens d.tree → (r.passes ≡ true) ↔ (d.tree.errors ≡ [])
    → take 1 (map (λ (f : Finding). f.start) r.findings.items) ≡ map (shown_at source) (take 1 d.tree.errors)
    → AreErrors r.findings.items → (r.passes ≡ true → r.findings.items ≡ []) → AreParsed limits sources ds rs
    → AreParsed limits (sources ++ source ∷ []) (ds ++ d ∷ []) (rs ++ r ∷ [])
add_document limits source d r sources ds rs some at promise iff first errors nothing parsed = record {
  are_documents = add_one limits 0 sources source ds d
      (omega (arith, at, same_count limits sources rs parsed.are_reports)) some promise
      parsed.are_documents;
  are_reports = add_report limits sources source rs r parsed.are_reports
      (of_parse limits source d.tree r some promise iff first errors nothing);
}

-- ---- there is one list of documents

pub same_documents : (limits : Limits) (sources : List (List ℕ)) (xs ys : List Place) → HaveDocuments limits sources xs
    → HaveDocuments limits sources ys → xs ≡ ys
same_documents limits [] xs ys h k = h ∙ sym k
same_documents limits (s ∷ ss) xs ys (inl (lacks, more)) (inl (lacks_too, more_too)) =
    same_documents limits ss xs ys more more_too
same_documents limits (s ∷ ss) xs ys (inl (lacks, more)) (inr (d, others, is, e, more_too)) =
    absurd (not_both limits s d lacks is)
same_documents limits (s ∷ ss) xs ys (inr (d, others, is, e, more)) (inl (lacks, more_too)) =
    absurd (not_both limits s d lacks is)
same_documents limits (s ∷ ss) xs ys (inr (d, others, is, e, more)) (inr (d', others', is', e', more')) =
    let same = one-parse is.parsed is'.parsed is.promise.by_rules is'.promise.by_rules in
    let root : d ≡ d' =
    is.root ∙ ap (λ (u : Parsed). record { whole = u.tree; index = 0 }) same ∙ sym is'.root in
    e ∙ ap₂ (λ (x : Place) (xs : List Place). x ∷ xs) root (same_documents limits ss others others' more more')
    ∙ sym e'

pub same_numbers : (limits : Limits) (k : ℕ) (sources : List (List ℕ)) (xs ys : List ℕ)
    → HaveNumbers limits k sources xs → HaveNumbers limits k sources ys → xs ≡ ys
same_numbers limits k [] xs ys h j = h ∙ sym j
same_numbers limits k (s ∷ ss) xs ys (inl (lacks, more)) (inl (lacks_too, more_too)) =
    same_numbers limits (suc k) ss xs ys more more_too
same_numbers limits k (s ∷ ss) xs ys (inl (lacks, more)) (inr (some, others, e, more_too)) = absurd (some lacks)
same_numbers limits k (s ∷ ss) xs ys (inr (some, others, e, more)) (inl (lacks, more_too)) = absurd (some lacks)
same_numbers limits k (s ∷ ss) xs ys (inr (some, others, e, more)) (inr (some', others', e', more')) =
    e ∙ ap (λ ns. k ∷ ns) (same_numbers limits (suc k) ss others others' more more') ∙ sym e'

-- ---- where no text has errors

no_errors : (limits : Limits) (source : List ℕ) (t : Parsed) (r : Report) (errors : List Diagnostic)
    → ¬ HasCommentsAlone limits source → Promise source limits.recursion limits.tokens t
    → IsErrorReport limits source r → r.passes ≡ true → t.errors ≡ errors → t.errors ≡ []
no_errors limits source t r [] some promise is passes are = are
no_errors limits source t r (e ∷ es) some promise is passes are =
    absurd (true_not_false r.passes passes (is.is_report.refused
    (first_error limits source t (e ∷ es) some promise are (λ n. let x : ⊥ = cc in x))))

pub have_documents : (limits : Limits) (k : ℕ) (sources : List (List ℕ)) (ds : List Document) (rs : List Report)
    → AreDocuments limits k sources ds → AreErrorReports limits sources rs → AllPass rs
    → HaveDocuments limits sources (map root_of ds)
have_documents limits k [] ds rs are reports all = ap (map root_of) are
have_documents limits k (s ∷ ss) ds [] are reports all = absurd reports
have_documents limits k (s ∷ ss) ds (r ∷ rs) (inl (lacks, more)) reports all =
    inl (
      lacks,
      have_documents limits (suc k) ss ds rs more reports.1
          (All-tail (λ (q : Report). q.passes ≡ true) r rs all),
    )
have_documents limits k (s ∷ ss) ds (r ∷ rs) (inr (some, d, others, is, number, promise, more)) reports all =
    let passes = All-head (λ (q : Report). q.passes ≡ true) r rs all in
    let is_document : IsDocument limits s (root_of d) = record {
      parsed = d.tree;
      promise = promise;
      no_errors = no_errors limits s d.tree r d.tree.errors some promise reports.0 passes refl;
      root = refl;
    } in
    inr (
      root_of d,
      map root_of others,
      is_document,
      ap (map root_of) is,
      have_documents limits (suc k) ss others rs more reports.1
          (All-tail (λ (q : Report). q.passes ≡ true) r rs all),
    )

pub have_numbers : (limits : Limits) (k : ℕ) (sources : List (List ℕ)) (ds : List Document)
    → AreDocuments limits k sources ds → HaveNumbers limits k sources (numbers_of ds)
have_numbers limits k [] ds are = ap numbers_of are
have_numbers limits k (s ∷ ss) ds (inl (lacks, more)) = inl (lacks, have_numbers limits (suc k) ss ds more)
have_numbers limits k (s ∷ ss) ds (inr (some, d, others, is, number, promise, more)) =
    inr (
      some,
      numbers_of others,
      ap numbers_of is ∙ ap (λ n. n ∷ numbers_of others) number,
      have_numbers limits (suc k) ss others more,
    )

numbers_below : (limits : Limits) (k count : ℕ) (sources : List (List ℕ)) (ds : List Document)
    → AreDocuments limits k sources ds → k + length sources ≤ count → All (λ n. n < count) (numbers_of ds)
numbers_below limits k count [] ds are below = All-same (λ n. n < count) _ _ (ap numbers_of are) (All-nil _)
numbers_below limits k count (s ∷ ss) ds (inl (lacks, more)) below =
    numbers_below limits (suc k) count ss ds more (omega (arith, below))
numbers_below limits k count (s ∷ ss) ds (inr (some, d, others, is, number, promise, more)) below =
    All-same (λ n. n < count) _ _ (ap numbers_of is)
    (All-cons (λ n. n < count) d.text (numbers_of others) (omega (arith, below, number))
    (numbers_below limits (suc k) count ss others more (omega (arith, below))))

at_below : (ns : List ℕ) (i count : ℕ) → 0 < count → All (λ n. n < count) ns → slice_index_or ns i 0 < count
at_below [] i count some all = some
at_below (n ∷ ns) zero count some all = All-head (λ n. n < count) n ns all
at_below (n ∷ ns) (suc i) count some all = at_below ns i count some (All-tail (λ n. n < count) n ns all)

pub inside : (limits : Limits) (sources : List (List ℕ)) (ds : List Document) (rs : List Report)
    → AreParsed limits sources ds rs → 0 < length sources → AreInside ds (length rs)
inside limits sources ds rs parsed some = λ number.
    let count = same_count limits sources rs parsed.are_reports in
    at_below (numbers_of ds) number (length rs) (omega (arith, count, some))
    (numbers_below limits 0 (length rs) sources ds parsed.are_documents (omega (arith, count)))

-- Texts that are documents, or have no definition, have no errors.
pub documents_pass : (limits : Limits) (sources : List (List ℕ)) (xs : List Place) (rs : List Report)
    → HaveDocuments limits sources xs → AreErrorReports limits sources rs → AllPass rs
documents_pass limits [] xs [] have are = All-nil (λ (q : Report). q.passes ≡ true)
documents_pass limits [] xs (r ∷ rs) have are = absurd are
documents_pass limits (s ∷ ss) xs [] have are = absurd are
documents_pass limits (s ∷ ss) xs (r ∷ rs) (inl (lacks, more)) are =
    All-cons (λ (q : Report). q.passes ≡ true) r rs
    (either r.passes (HasCommentsAlone limits s) (λ fails comments. (are.0.errors fails).1.some comments) lacks)
    (documents_pass limits ss xs rs more are.1)
documents_pass limits (s ∷ ss) xs (r ∷ rs) (inr (d, others, is, e, more)) are =
    All-cons (λ (q : Report). q.passes ≡ true) r rs
    (either r.passes (IsDocument limits s d) (λ fails it. no_errors_in limits s d it (are.0.errors fails)) is)
    (documents_pass limits ss others rs more are.1)

-- ---- reports in the end

pub of_errors_alone : (limits : Limits) (sources : List (List ℕ)) (rs : List Report) → AreErrorReports limits sources rs
    → AreReports limits sources rs
of_errors_alone limits [] [] are = tt
of_errors_alone limits [] (r ∷ rs) are = absurd are
of_errors_alone limits (s ∷ ss) [] are = absurd are
of_errors_alone limits (s ∷ ss) (r ∷ rs) are = (are.0.is_report, of_errors_alone limits ss rs are.1)

-- Reports with which texts pass that have no errors find nothing.
pub are_clean : (limits : Limits) (sources : List (List ℕ)) (rs : List Report) → AreErrorReports limits sources rs
    → AllPass rs → AreClean rs
are_clean limits [] [] are all = All-nil IsClean
are_clean limits [] (r ∷ rs) are all = absurd are
are_clean limits (s ∷ ss) [] are all = absurd are
are_clean limits (s ∷ ss) (r ∷ rs) are all =
    let passes = All-head (λ (q : Report). q.passes ≡ true) r rs all in
    All-cons IsClean r rs (passes, are.0.nothing passes)
    (are_clean limits ss rs are.1 (All-tail (λ (q : Report). q.passes ≡ true) r rs all))

founded : (limits : Limits) (source : List ℕ) (findings : List Finding) → BeginWithError findings
    → ¬ HasErrors limits source → AreFindings limits source findings
founded limits source [] some none = absurd some
founded limits source (f ∷ fs) some none = λ error is. absurd (none (error, is))

pub none_has : (limits : Limits) (source : List ℕ) (r : Report) → IsErrorReport limits source r → r.passes ≡ true
    → ¬ HasErrors limits source
none_has limits source r is passes has = true_not_false r.passes passes (is.is_report.refused has)

-- No text had errors, and each that does not pass now has a finding.
pub of_findings : (limits : Limits) (sources : List (List ℕ)) (old new : List Report)
    → AreErrorReports limits sources old → AllPass old → length new ≡ length old → All IsFounded new
    → AreReports limits sources new
of_findings limits [] [] [] are all count some = tt
of_findings limits [] [] (n ∷ ns) are all count some = absurd (omega (arith, count))
of_findings limits [] (o ∷ os) new are all count some = absurd are
of_findings limits (s ∷ ss) [] new are all count some = absurd are
of_findings limits (s ∷ ss) (o ∷ os) [] are all count some = absurd (omega (arith, count))
of_findings limits (s ∷ ss) (o ∷ os) (n ∷ ns) are all count some =
    let none = none_has limits s o are.0 (All-head (λ (q : Report). q.passes ≡ true) o os all) in
    let is_founded = All-head IsFounded n ns some in (
      record {
        refused = λ has. absurd (none has);
        found = λ fails. founded limits s n.findings.items (is_founded.error fails) none;
        error = is_founded.error;
        warnings = is_founded.warnings;
      },
      of_findings limits ss os ns are.1 (All-tail (λ (q : Report). q.passes ≡ true) o os all) (omega (arith, count))
          (All-tail IsFounded n ns some),
    )

-- ---- where a text has errors

-- No text has warnings.
nothing_at : (limits : Limits) (sources : List (List ℕ)) (rs : List Report) → AreErrorReports limits sources rs
    → (text : ℕ) (r : Report) → text < length rs → (slice_index_or rs text r).passes ≡ true
    → (slice_index_or rs text r).findings.items ≡ []
nothing_at limits [] [] are text r inside passes = absurd (omega (arith, inside))
nothing_at limits [] (x ∷ rs) are text r inside passes = absurd are
nothing_at limits (s ∷ ss) [] are text r inside passes = absurd are
nothing_at limits (s ∷ ss) (x ∷ rs) are zero r inside passes = are.0.nothing passes
nothing_at limits (s ∷ ss) (x ∷ rs) are (suc text) r inside passes =
    nothing_at limits ss rs are.1 text r (omega (arith, inside)) passes

pub quiet_reports : (limits : Limits) (sources : List (List ℕ)) (rs : List Report) → AreErrorReports limits sources rs
    → AreQuietIf (λ text. Unit {0}) rs
quiet_reports limits sources rs are = λ text r inside passes.
    (λ none. tt, λ unit. nothing_at limits sources rs are text r inside passes)

pass_at : (limits : Limits) (sources : List (List ℕ)) (rs : List Report) → AreErrorReports limits sources rs
    → (text : ℕ) (r : Report) → text < length rs
    → ((slice_index_or rs text r).passes ≡ true) ↔ (¬ HasErrors limits (slice_index_or sources text []))
pass_at limits [] [] are text r inside = absurd (omega (arith, inside))
pass_at limits [] (x ∷ rs) are text r inside = absurd are
pass_at limits (s ∷ ss) [] are text r inside = absurd are
pass_at limits (s ∷ ss) (x ∷ rs) are zero r inside = (
  λ passes. none_has limits s x are.0 passes,
  λ clean. either x.passes (¬ HasErrors limits s) (λ fails not. not (are.0.errors fails)) clean,
)
pass_at limits (s ∷ ss) (x ∷ rs) are (suc text) r inside =
    pass_at limits ss rs are.1 text r (omega (arith, inside))

pub pass_without_errors : (limits : Limits) (sources : List (List ℕ)) (rs : List Report)
    → AreErrorReports limits sources rs
    → PassIf (λ text. ¬ HasErrors limits (slice_index_or sources text [])) rs
pass_without_errors limits sources rs are = λ text r inside. pass_at limits sources rs are text r inside

pub no_errors_at : (limits : Limits) (sources : List (List ℕ)) (rs : List Report) → AreErrorReports limits sources rs
    → AllPass rs → (k : ℕ) (source : List ℕ) → k < length sources
    → ¬ HasErrors limits (slice_index_or sources k source)
no_errors_at limits [] rs are all k source inside = absurd (omega (arith, inside))
no_errors_at limits (s ∷ ss) [] are all k source inside = absurd are
no_errors_at limits (s ∷ ss) (r ∷ rs) are all zero source inside =
    none_has limits s r are.0 (All-head (λ (q : Report). q.passes ≡ true) r rs all)
no_errors_at limits (s ∷ ss) (r ∷ rs) are all (suc k) source inside =
    no_errors_at limits ss rs are.1 (All-tail (λ (q : Report). q.passes ≡ true) r rs all) k source
    (omega (arith, inside))

pub none_of : (limits : Limits) (sources : List (List ℕ)) (rs : List Report) → AreErrorReports limits sources rs
    → AllPass rs → Any (HasErrors limits) sources → ⊥
none_of limits sources rs are all (k, source, inside, is, has) =
    no_errors_at limits sources rs are all k source inside (subst (HasErrors limits) (sym is) has)
