-- Breaches of the rules that need the types of a schema.
use Rattle.std.proofs.Common.{◌≡◌, ◌∙◌, ℕ, List, [], ◌∷◌, ◌++◌, Option, map, take, refl, sym, ap, ap₂}
use Rattle.std.proofs.lemmas.List.{map-append, take-map}
use Rattle.apollo_tree.specs.Order.{Place}
use Rattle.validation_names.specs.Sites.{Located, as_located}
use Rattle.type_system.specs.Types.{Types, types_of}
use Rattle.query_validation.specs.Breaches.{QueryBreach, as_breach, breaches}
use Rattle.query_validation.specs.declared.violations.QueryViolation.{QueryViolation}
use Rattle.document_checks.specs.Schemas.{documents_before, judged_of, query_sites, types_by}

site_of : QueryBreach → Located
site_of b = b.site

sites_of : (vs : List QueryViolation) → query_sites vs ≡ map (λ (b : QueryBreach). b.site) (map as_breach vs)
sites_of [] = refl
sites_of (v ∷ vs) = ap (λ (ss : List Located). as_located v.site ∷ ss) (sites_of vs)

-- What a validation found are the places of the first breaches.
pub first_sites : (texts : ℕ) (judged : Option ℕ) (documents queries : List Place) (numbers : List ℕ)
    (standard : Place) (T : Types) (vs : List QueryViolation)
    → map as_breach vs ≡ take 1001 (breaches T queries) → T ≡ types_by texts documents numbers standard
    → queries ≡ judged_of judged documents
    → query_sites vs
    ≡ map (λ (b : QueryBreach). b.site)
    (take 1001 (breaches (types_by texts documents numbers standard) (judged_of judged documents)))
first_sites texts judged documents queries numbers standard T vs exact types same =
    sites_of vs ∙ ap (map (λ (b : QueryBreach). b.site)) exact
    ∙ ap₂ (λ (t : Types) (qs : List Place). map (λ (b : QueryBreach). b.site) (take 1001 (breaches t qs))) types same

-- What is read as the schema are its documents, and then the standard's.
pub read_types : {X Y : Type 0} (at : X → Place) (of : Y → Place) (texts count : ℕ) (numbers : List ℕ) (T : Types)
    (documents : List Y) (roots : List Place) (read before : List X) (standard : X)
    → T ≡ types_of (map at read) → read ≡ before ++ standard ∷ [] → map at before ≡ map of (take count documents)
    → count ≡ documents_before texts numbers → roots ≡ map of documents
    → T ≡ types_by texts roots numbers (at standard)
read_types at of texts count numbers T documents roots read before standard types is front counted same =
    types ∙ ap types_of
    (ap (map at) is ∙ map-append at before (standard ∷ []) ∙ ap (λ (ps : List Place). ps ++ at standard ∷ [])
    (front ∙ sym (take-map of count documents)
    ∙ ap₂ (λ (n : ℕ) (ps : List Place). take n ps) counted (sym same)))
