-- The fragments that documents define and spread.
use Rattle.std.specs.List.{flat_map}
use Rattle.std.specs.Prelude.{List, [], ◌∷◌, map, string_bytes}
use Rattle.apollo_tree.specs.Order.{Place}
use Rattle.validation_names.specs.Definitions.{Defined, defined, named_definitions}
use Rattle.validation_names.specs.Mentions.{Named, mentions}
use Rattle.validation_names.specs.Names.{Name}
use Rattle.validation_names.specs.declared.executables.DefinitionKind.TheVariants.{Fragment}
use Rattle.validation_names.specs.declared.name_mentions.MentionKind.TheVariants.{Spread}
use Rattle.editor_validation.specs.declared.fragments.FragmentNames.{FragmentNames}

-- the names of the fragments that a document defines, and of those that it spreads
pub record Fragments : Type 0 where
  pub defined : List Name
  pub spread : List Name

abbrev pub as_fragments : FragmentNames → Fragments
as_fragments names = record {
  defined = map string_bytes names.defined.items;
  spread = map string_bytes names.spread.items;
}

abbrev pub names_of : List Named → List Name
names_of mentions = map (λ (m : Named). m.name) mentions

abbrev pub spread_by : List Defined → List Name
spread_by definitions = flat_map (λ (d : Defined). names_of (mentions Spread d.site)) definitions

abbrev pub fragments_in : Place → Fragments
fragments_in document =
    record {
      defined = names_of (named_definitions Fragment (defined (document ∷ [])));
      spread = spread_by (defined (document ∷ []));
    }
