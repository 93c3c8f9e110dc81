-- What is found of one document where all rules are selected.
use Rattle.std.proofs.Common.{◌≡◌, ◌∙◌, ◌<◌, ap, sym, refl, subst, true, ℕ, [], ◌∷◌, length, map, arith}
use Rattle.std.proofs.Common.{Option, None, Some, option_map}
use Rattle.std.proofs.lemmas.List.{length-map}
use Rattle.std.specs.Prelude.{◌↔◌}
use Rattle.apollo_tree.specs.Order.{Place}
use Rattle.apollo_tree.specs.References.{node_place}
use Rattle.validation_names.specs.Sites.{Located, as_located}
use Rattle.validation_names.specs.declared.sites.Site.{Site}
use Rattle.validation_rules.specs.Parts.{operations, parts_in}
use Rattle.validation_rules.specs.Selection.{is_selected_at}
use Rattle.validation_rules.specs.Violations.{as_breach}
use Rattle.validation_rules.specs.declared.violations.Rule.{Rule}
use Rattle.variable_rules.proofs.WalkLemmas.{ends_once, ends_somewhere}
use Rattle.document_validation.proofs.FoundLemmas.{all_selected}
use Rattle.document_validation.specs.Breaches as validation
use Rattle.document_validation.specs.Breaches.{AreValid, breaches, breaches_before}
use Rattle.document_validation.specs.Validation.{AreDecided, AreValidIn, IsValidation}
use Rattle.document_validation.specs.Validation.{operation_site}
use Rattle.document_validation.specs.declared.validation.Validation.{Validation}
use Rattle.document_validation.specs.declared.validation.ValidationOptions.{ValidationOptions}
use Rattle.c_validation.proofs.Reports.{no-violations}
use Rattle.c_validation.specs.Outcomes.{Found, IsFound, operation}

-- the node of the operation, and its place
abbrev pub node_of : Option Site → Option Place
node_of site = option_map (λ (s : Site). node_place s.node) site

places : (site : Option Site) (f : ℕ → Located) (number : Option ℕ) → option_map as_located site ≡ option_map f number
    → node_of site ≡ option_map (λ n. (f n).place) number
places None f None same = refl
places None f (Some n) same = absurd (cc)
places (Some s) f None same = absurd (cc)
places (Some s) f (Some n) same =
    ap (λ (x : Option Located). option_map (λ (l : Located). l.place) x) same

no-node : (site : Option Site) → node_of site ≡ None → site ≡ None
no-node None none = refl
no-node (Some s) none = absurd (cc)

abbrev pub found_of : Validation → Found
found_of v = record { breaches = map as_breach v.violations.items; undecided = node_of v.undecided }

module _ (options : ValidationOptions) (document : Place) (v : Validation) (limit : Option ℕ)
    (all : (rule : Rule) (site : Located) → is_selected_at options.selection rule site ≡ true)
    (limited : options.steps ≡ limit)
    (is : IsValidation options (document ∷ []) v)
    (decides : 0 < options.most → ((v.violations.items ≡ []) × (v.undecided ≡ None))
    ↔ (AreValidIn options.selection (document ∷ []) × AreDecided options.steps (document ∷ []))) where
  valid : 0 < options.most → (((found_of v).breaches ≡ []) × ((found_of v).undecided ≡ None))
      ↔ (AreValid (document ∷ []) × AreDecided options.steps (document ∷ []))
  valid some =
      let every = all_selected options.selection (breaches (document ∷ [])) all in (
        λ none.
            let both = (decides some).0
            (no-violations v.violations.items none.0, no-node v.undecided none.1) in
            (sym every ∙ both.0, both.1),
        λ kept.
            let both = (decides some).1 (every ∙ kept.0, kept.1) in
            (ap (map as_breach) both.0, ap node_of both.1),
      )

  pub is-found : IsFound options.most limit document (found_of v)
  is-found =
      let ds = parts_in (document ∷ []) in
      let somewhere = ends_somewhere options.steps ds (operations ds) in
      let end : Option ℕ = somewhere.0 in
      rw (sym limited) (record {
        end = end;
        ends = somewhere.1;
        exact = subst (λ bs. validation.AreFound options.most bs (map as_breach v.violations.items))
            (all_selected options.selection (breaches_before end (document ∷ [])) all) (is.found end somewhere.1);
        undecided = λ room.
            let less : length v.violations.items < options.most =
            omega (arith, length-map v.violations.items as_breach, room) in
            places v.undecided (operation_site (document ∷ [])) is.ended_at is.undecided
            ∙ ap (option_map (operation document))
            (ends_once options.steps ds (operations ds) is.ended_at end (is.ended less) somewhere.1);
        full = λ full.
            ap node_of (is.full (omega (arith, length-map v.violations.items as_breach, full)));
        valid = valid;
      })
