-- Broken rules on fragments that other documents mend.
use Rattle.std.specs.List.{list_any}
use Rattle.std.specs.Prelude.{List, Bool, false, Option, Some, None, bytes_eq}
use Rattle.document_grammar.specs.declared.kind.SyntaxKind.TheVariants.{FRAGMENT_NAME}
use Rattle.validation_names.specs.Mentions.{name_in}
use Rattle.validation_names.specs.Names.{Name}
use Rattle.validation_rules.specs.Violations.{Breach}
use Rattle.validation_rules.specs.declared.violations.Rule.{Rule}
use Rattle.validation_rules.specs.declared.violations.Rule.TheVariants.{KnownFragmentNames, NoUnusedFragments}
use Rattle.editor_validation.specs.Fragments.{Fragments}

abbrev pub has_name : List Name → Name → Bool
has_name names name = list_any (λ n. bytes_eq n name) names

-- whether one of the documents defines a fragment of this name
abbrev pub define : List Fragments → Name → Bool
define documents name = list_any (λ (f : Fragments). has_name f.defined name) documents

-- whether one of the documents spreads a fragment of this name
abbrev pub spread : List Fragments → Name → Bool
spread documents name = list_any (λ (f : Fragments). has_name f.spread name) documents

abbrev pub mends_at : (Name → Bool) → (Name → Bool) → Rule → Option Name → Bool
mends_at is_defined is_spread rule None = false
mends_at is_defined is_spread KnownFragmentNames (Some name) = is_defined name
mends_at is_defined is_spread NoUnusedFragments (Some name) = is_spread name
mends_at is_defined is_spread _ (Some name) = false

-- The breach is a spread of a fragment that is defined elsewhere, or a fragment that is spread elsewhere.
abbrev pub mends : (Name → Bool) → (Name → Bool) → Breach → Bool
mends is_defined is_spread b = mends_at is_defined is_spread b.rule (name_in FRAGMENT_NAME b.site.place)

-- whether some other documents mend a breach
abbrev pub is_mended : List Fragments → Breach → Bool
is_mended others b = mends (define others) (spread others) b
