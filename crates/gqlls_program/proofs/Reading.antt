-- Folders are listed and located and files are read, one after the other.
use Rattle.std.proofs.Common.{ℕ, List, Result, refl}
use Rattle.std.specs.declared.io.Error.{Error}
use Rattle.file_access.specs.Listing.{Listing}
use Rattle.named_files.proofs.SearchLemmas.{lists_on}
use Rattle.named_files.specs.Finding.{Lists, none, more}
use Rattle.gqlls_program.specs.FolderDialogues.{Reads, FolderDialogue, dropped, kept, listed, located, nothing}
use Rattle.gqlls_program.specs.FolderDialogues.{passed_over}
use Rattle.gqlls_program.specs.declared.bounds.Bounded.{Bounded}

module _ {F : Type 0} (lists : F → List ℕ → Listing → F → Type 0) where
  -- what is listed within bounds is listed
  pub within : (old new : Bounded F)
      → Lists (λ (old : Bounded F) path listing (new : Bounded F). Lists lists old.files new.files) old new
      → Lists lists old.files new.files
  within old new none = none
  within old new (more some last) = lists_on lists _ _ _ (within old _ some) last

module _
    {F : Type 0} (lists : F → List ℕ → Listing → F → Type 0)
    (reads locates : F → List ℕ → Result (List ℕ) Error → F → Type 0) where
  pub reads_on : {old middle new : FolderDialogue F} → Reads lists reads locates old middle
      → Reads lists reads locates middle new
      → Reads lists reads locates old new
  reads_on one nothing = one
  reads_on one (located two locates is) = located (reads_on one two) locates is
  reads_on one (listed two lists is) = listed (reads_on one two) lists is
  reads_on one (passed_over two reads is) = passed_over (reads_on one two) reads is
  reads_on one (kept two reads keeps) = kept (reads_on one two) reads keeps
  reads_on one (dropped two is sets) = dropped (reads_on one two) is sets

  -- folders are listed
  pub reads_lists : (state : FolderDialogue F) (files : F) → Lists lists state.files files
      → Reads lists reads locates state (record { dialogue = state.dialogue; files = files })
  reads_lists state files none = nothing
  reads_lists state files (more some last) = listed (reads_lists state _ some) last refl
