-- What the judgement of some texts says of them together, and of each.
use Rattle.std.proofs.Common.{◌≡◌, ◌<◌, ℕ, Bool, true, false, List, [], ◌∷◌, ◌++◌, length, map, take, drop, sym, subst}
use Rattle.std.proofs.Common.{ap, ◌∙◌, arith, append-nil, take_all}
use Rattle.std.proofs.lemmas.List.{drop_all}
use Rattle.std.specs.Prelude.{◌↔◌}
use Rattle.apollo_tree.specs.Order.{Place}
use Rattle.document_checks.proofs.ParsedTexts.{documents_pass, have_documents, have_numbers, none_of}
use Rattle.document_checks.proofs.ParsedTexts.{pass_without_errors, quiet_reports, same_documents, same_numbers}
use Rattle.document_checks.specs.Checking.{Asked, AreSound, AreWithin, HaveDocuments, HaveNumbers, PassTogether}
use Rattle.document_checks.specs.Documents.{AllPass, AreChecked, AreInside, AreParsed, numbers_of, root_of}
use Rattle.document_checks.specs.Passing.{AreKept, PassByDocuments, PassEach}
use Rattle.document_checks.specs.Warnings.{WarnByDocuments, WarnEach}
use Rattle.document_checks.specs.declared.documents.Document.{Document}
use Rattle.document_checks.specs.declared.report.Report.{Report}

-- There is a text.
pub together : (asked : Asked) (sources : List (List ℕ)) (P : Type 0) → 0 < length sources → P ↔ AreSound asked sources
    → P ↔ PassTogether asked sources
together asked [] P some iff = absurd (omega (arith, some))
together asked (s ∷ ss) P some iff = iff

-- ---- a text has errors

pub errors_sound : (asked : Asked) (sources : List (List ℕ)) (ds : List Document) (rs : List Report)
    → AreParsed asked.limits sources ds rs → ¬ AllPass rs → AllPass rs ↔ AreSound asked sources
errors_sound asked sources ds rs parsed some = (
  λ all. absurd (some all),
  λ s. documents_pass asked.limits sources s.documents rs s.are_documents parsed.are_reports,
)

pub errors_each : (asked : Asked) (sources : List (List ℕ)) (ds : List Document) (rs : List Report)
    → AreParsed asked.limits sources ds rs → ¬ AllPass rs → PassEach asked sources rs
errors_each asked sources ds rs parsed some = record {
  errors = λ any. pass_without_errors asked.limits sources rs parsed.are_reports;
  documents = λ documents numbers there have numbered.
      absurd (some (documents_pass asked.limits sources documents rs have parsed.are_reports));
}

pub errors_warned : (asked : Asked) (sources : List (List ℕ)) (ds : List Document) (rs : List Report)
    → AreParsed asked.limits sources ds rs → ¬ AllPass rs → WarnEach asked sources rs
errors_warned asked sources ds rs parsed some = record {
  errors = λ any. quiet_reports asked.limits sources rs parsed.are_reports;
  documents = λ documents numbers there have numbered.
      absurd (some (documents_pass asked.limits sources documents rs have parsed.are_reports));
}

-- ---- none has

module _ (asked : Asked) (sources : List (List ℕ)) (ds : List Document) (old new : List Report)
    (parsed : AreParsed asked.limits sources ds old) (all : AllPass old)
    (judged : AreChecked asked (map root_of ds) (numbers_of ds) old new) where
  are : HaveDocuments asked.limits sources (map root_of ds)
  are = have_documents asked.limits 0 sources ds old parsed.are_documents parsed.are_reports all

  numbered : HaveNumbers asked.limits 0 sources (numbers_of ds)
  numbered = have_numbers asked.limits 0 sources ds parsed.are_documents

  pub judged_sound : AllPass new ↔ AreSound asked sources
  judged_sound = (
    λ pass. record {
      documents = map root_of ds;
      numbers = numbers_of ds;
      are_documents = are;
      are_numbers = numbered;
      valid = (judged.sound.0 pass).0.0;
      decided = (judged.sound.0 pass).0.1;
      typed = (judged.sound.0 pass).0.2;
      within = (judged.sound.0 pass).1;
    },
    λ s.
        let same = same_documents asked.limits sources s.documents (map root_of ds) s.are_documents are in
        let same_too = same_numbers asked.limits 0 sources s.numbers (numbers_of ds) s.are_numbers numbered in
        judged.sound.1 (
          subst (λ (ns : List ℕ). AreKept asked (map root_of ds) ns) same_too
              (subst (λ (xs : List Place). AreKept asked xs s.numbers) same (s.valid, s.decided, s.typed)),
          subst (λ (ns : List ℕ). AreWithin asked (map root_of ds) ns) same_too
              (subst (λ (xs : List Place). AreWithin asked xs s.numbers) same s.within),
        ),
  )

  pub judged_each : PassEach asked sources new
  judged_each = record {
    errors = λ any. absurd (none_of asked.limits sources old parsed.are_reports all any);
    documents = λ documents numbers there have those.
        let same = same_documents asked.limits sources (map root_of ds) documents are have in
        let same_too = same_numbers asked.limits 0 sources (numbers_of ds) numbers numbered those in
        subst (λ (ns : List ℕ). PassByDocuments asked documents ns new) same_too
        (subst (λ (xs : List Place). PassByDocuments asked xs (numbers_of ds) new) same judged.each);
  }

  pub judged_warned : WarnEach asked sources new
  judged_warned = record {
    errors = λ any. absurd (none_of asked.limits sources old parsed.are_reports all any);
    documents = λ documents numbers there have those.
        let same = same_documents asked.limits sources (map root_of ds) documents are have in
        let same_too = same_numbers asked.limits 0 sources (numbers_of ds) numbers numbered those in
        subst (λ (ns : List ℕ). WarnByDocuments asked documents ns new) same_too
        (subst (λ (xs : List Place). WarnByDocuments asked xs (numbers_of ds) new) same judged.warned);
  }

-- ---- reports in place

pub not_all_of : (b : Bool) (xs rs : List Report) → b ≡ false → xs ≡ rs → (b ≡ true) ↔ AllPass xs → ¬ AllPass rs
not_all_of b xs rs fails same iff all =
    let r : true ≡ false = sym (iff.1 (subst AllPass (sym same) all)) ∙ fails in
    let x : ⊥ = cc in
    x

pub all_of : (b : Bool) (xs rs : List Report) → b ≡ true → xs ≡ rs → (b ≡ true) ↔ AllPass xs → AllPass rs
all_of b xs rs holds same iff = subst AllPass same (iff.0 holds)

pub inside_of : (ds ds' : List Document) (rs rs' : List Report) → ds' ≡ ds → rs' ≡ rs → AreInside ds (length rs)
    → AreInside ds' (length rs')
inside_of ds ds' rs rs' same same_too are =
    subst (λ (n : ℕ). AreInside ds' n) (sym (ap length same_too))
    (subst (λ (xs : List Document). AreInside xs (length rs)) (sym same) are)

written : (len : ℕ) (old new : List Report) → len ≡ length old → length new ≡ length old
    → new ≡ take len (new ++ drop (length new) old)
written len old new count same =
    let rest : drop (length new) old ≡ [] = drop_all (length new) old (omega (arith, same)) in
    sym (ap (λ (r : List Report). take len (new ++ r)) rest ∙ ap (take len) (append-nil new)
    ∙ take_all len new (omega (arith, count, same)))

pub judged_in_place : (asked : Asked) (ds ds' : List Document) (old old' new : List Report) (len : ℕ)
    → ds' ≡ ds → old' ≡ old → len ≡ length old
    → AreChecked asked (map root_of ds') (numbers_of ds') old' new
    → AreChecked asked (map root_of ds) (numbers_of ds) old (take len (new ++ drop (length new) old))
judged_in_place asked ds ds' old old' new len same same_too count judged =
    let here : AreChecked asked (map root_of ds) (numbers_of ds) old new =
    subst (λ (rs : List Report). AreChecked asked (map root_of ds) (numbers_of ds) rs new) same_too
    (subst (λ (xs : List Document). AreChecked asked (map root_of xs) (numbers_of xs) old' new) same judged) in
    subst (λ (rs : List Report). AreChecked asked (map root_of ds) (numbers_of ds) old rs)
    (written len old new count here.count) here
