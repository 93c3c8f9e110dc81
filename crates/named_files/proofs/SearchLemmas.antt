-- The paths that wait in a search, the next one last.
use Rattle.std.proofs.Common.{◌≡◌, ℕ, ◌++◌, [], ◌∷◌, ◌-◌, List, map, take, reverse}
use Rattle.std.proofs.Common.{refl, sym, ap, ◌∙◌, subst, append_assoc, append-nil, Option, Some, None, Result, OnOk}
use Rattle.std.specs.List.{filter_map, cons_option}
use Rattle.std.proofs.lemmas.Result.{on_ok_weaker}
use Rattle.std.proofs.lemmas.List.{map-append, reverse-append}
use Rattle.std.proofs.lemmas.List.Elements.{filter_map-append}
use Rattle.file_access.specs.Listing.{Listing, Entry, entries}
pub use Rattle.file_access.proofs.Stacks.{reverse_more, popped, drained}
use Rattle.named_files.specs.Finding.{FoundPath, folder, found_path_in, Finds, nothing, at_folder, Lists, none, more}
use Rattle.named_files.specs.Search.{Advances}

pub cons-append : {Y : Type 0} (y : Option Y) (rest : List Y) → cons_option y [] ++ rest ≡ cons_option y rest
cons-append None rest = refl
cons-append (Some y) rest = refl

-- the last entry before the rest
pub filter_map_last : {X Y Z : Type 0} (f : X → Y) (h : Y → Option Z) (items : List X) (x : X) (rest : List Z)
    → filter_map h (map f (items ++ x ∷ [])) ++ rest ≡ filter_map h (map f items) ++ cons_option (h (f x)) rest
filter_map_last f h items x rest =
    ap (λ ys. filter_map h ys ++ rest) (map-append f items (x ∷ []))
    ∙ ap (λ zs. zs ++ rest) (filter_map-append h (map f items) (f x ∷ []))
    ∙ append_assoc (filter_map h (map f items)) (cons_option (h (f x)) []) rest
    ∙ ap (λ zs. filter_map h (map f items) ++ zs) (cons-append (h (f x)) rest)

-- a search, from some paths that wait to others
module _ {S : Type 0} (lists : S → List ℕ → Listing → S → Type 0) where
  -- it finds what is at the first path, if that is not left out
  pub advances_by : {T E : Type 0} (r : Result T E) (found_path : FoundPath) (one : Option FoundPath)
      (waiting found waiting' found' : List FoundPath) (old new : S)
      → ((rest : List FoundPath) (final : S) → Finds lists waiting rest new final
      → Finds lists (found_path ∷ waiting) (cons_option one rest) old final)
      → waiting' ≡ waiting → OnOk r (found' ≡ found ++ cons_option one [])
      → OnOk r (Advances lists (found_path ∷ waiting) found old waiting' found' new)
  advances_by r found_path one waiting found waiting' found' old new step same adds =
      on_ok_weaker r (λ (is : found' ≡ found ++ cons_option one []). record {
        added = cons_option one [];
        is = is;
        onward = λ rest final h.
            subst (λ (fs : List FoundPath). Finds lists (found_path ∷ waiting) fs old final)
            (sym (cons-append one rest))
            (step rest final (subst (λ (ps : List FoundPath). Finds lists ps rest new final) same h));
      }) adds

  -- it goes into a folder
  pub advances_into : {T E : Type 0} (r : Result T E) (path : List ℕ) (has : List Entry)
      (waiting found waiting' found' : List FoundPath) (old new : S)
      → lists old path (entries has) new
      → OnOk r (waiting' ≡ filter_map (found_path_in path) has ++ waiting) → found' ≡ found
      → OnOk r (Advances lists (folder path ∷ waiting) found old waiting' found' new)
  advances_into r path has waiting found waiting' found' old new listed next same =
      on_ok_weaker r (λ (is : waiting' ≡ filter_map (found_path_in path) has ++ waiting). record {
        added = [];
        is = same ∙ sym (append-nil found);
        onward = λ rest final h. at_folder listed (subst (λ (ps : List FoundPath). Finds lists ps rest new final) is h);
      }) next

  -- it has come nowhere
  pub stays : (waiting found : List FoundPath) (old : S) → Advances lists waiting found old waiting found old
  stays waiting found old = record { added = []; is = sym (append-nil found); onward = λ rest final h. h }

  -- it goes on
  pub goes_on : (waiting found : List FoundPath) (old : S) (waiting' found' : List FoundPath) (middle : S)
      (waiting'' found'' : List FoundPath) (new : S)
      → Advances lists waiting found old waiting' found' middle
      → Advances lists waiting' found' middle waiting'' found'' new
      → Advances lists waiting found old waiting'' found'' new
  goes_on waiting found old waiting' found' middle waiting'' found'' new a b = record {
    added = a.added ++ b.added;
    is = b.is ∙ ap (λ fs. fs ++ b.added) a.is ∙ append_assoc found a.added b.added;
    onward = λ rest final h.
        subst (λ (fs : List FoundPath). Finds lists waiting fs old final) (sym (append_assoc a.added b.added rest))
        (a.onward (b.added ++ rest) final (b.onward rest final h));
  }

  -- it ends
  pub ends : (waiting : List FoundPath) (old : S) (found : List FoundPath) (new : S)
      → Advances lists waiting [] old [] found new
      → Finds lists waiting found old new
  ends waiting old found new a =
      subst (λ (fs : List FoundPath). Finds lists waiting fs old new) (append-nil a.added ∙ sym a.is)
      (a.onward [] new nothing)

module _ {S : Type 0} (lists : S → List ℕ → Listing → S → Type 0) where
  pub lists_on : (old middle new : S) → Lists lists old middle → Lists lists middle new → Lists lists old new
  lists_on old middle new a none = a
  lists_on old middle new a (more b l) = more (lists_on old _ _ a b) l
