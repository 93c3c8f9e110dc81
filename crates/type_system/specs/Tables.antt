-- How tables of definitions are filled: under each name is the first definition with it.
use Rattle.std.specs.Option.{option_or}
use Rattle.std.specs.Prelude.{◌≡◌, List, Bool, Option, Some, None, option_map, if◌then◌else◌}
use Rattle.validation_names.specs.Names.{Entries, Name, entry_of}
use Rattle.validation_names.specs.Sites.{Located}
use Rattle.validation_names.specs.declared.sites.Site.{Site}
use Rattle.type_system.specs.Definitions.{is_named}
use Rattle.type_system.specs.Schemas.{as_typed, entered, entered_site}
use Rattle.type_system.specs.Types.{TypeNumbers, Typed, first_field, first_named, typed, with_arguments}
use Rattle.type_system.specs.declared.schema.DefinitionWithArguments.{DefinitionWithArguments}
use Rattle.type_system.specs.declared.schema.TypedDefinition.{TypedDefinition}

-- something, if a test holds
abbrev pub one_if : {A : Type 0} → Bool → A → Option A
one_if b x = if b then Some x else None

-- what is entered under a name
abbrev pub entered_typed : Entries TypedDefinition → Name → Option Typed
entered_typed entries name = option_map as_typed (entry_of entries name)

-- A definition is entered under its name, if there was none before. The other entries are as they were.
abbrev pub EntersTyped : TypeNumbers → Entries TypedDefinition → Entries TypedDefinition → Located → Type 0
EntersTyped numbers old new d =
    (q : Name) → entered_typed new q ≡ option_or (entered_typed old q) (one_if (is_named q d) (typed numbers d))

abbrev pub EntersField :
    TypeNumbers → Entries DefinitionWithArguments → Entries DefinitionWithArguments → Located → Type 0
EntersField numbers old new d =
    (q : Name) → entered new q ≡ option_or (entered old q) (one_if (is_named q d) (with_arguments numbers d))

-- The table has the first of some definitions with each name.
abbrev pub AreFirstTyped : TypeNumbers → Entries TypedDefinition → List Located → Type 0
AreFirstTyped numbers entries ds =
    (q : Name) → entered_typed entries q ≡ option_map (typed numbers) (first_named ds q)

abbrev pub AreFirstFields : TypeNumbers → Entries DefinitionWithArguments → List Located → Type 0
AreFirstFields numbers entries ds = (q : Name) → entered entries q ≡ first_field numbers ds q

-- the same of definitions as they are
abbrev pub EntersSite : Entries Site → Entries Site → Located → Type 0
EntersSite old new d = (q : Name) → entered_site new q ≡ option_or (entered_site old q) (one_if (is_named q d) d)

abbrev pub AreFirst : Entries Site → List Located → Type 0
AreFirst entries ds = (q : Name) → entered_site entries q ≡ first_named ds q
