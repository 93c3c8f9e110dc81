-- Ignore files are read, one after the other.
use Rattle.std.proofs.Common.{◌≡◌, inl, inr, ℕ, ◌++◌, [], ◌∷◌, List, Result, Ok, Err, refl, ap, sym, ◌∙◌, subst}
use Rattle.std.proofs.Common.{append_assoc, append-nil}
use Rattle.std.specs.IoError.{error_kind}
use Rattle.std.specs.declared.io.Error.{Error}
use Rattle.file_access.specs.Reading.{IsAbsent}
use Rattle.ignore_rules.specs.Lines.{Rule, rules_in}
use Rattle.unignored_files.specs.Reading.{Adds, FailsToAdd, IgnoreFile, absent, nothing, path_of, there}

module _ {S : Type 0} (reads : S → List ℕ → Result (List ℕ) Error → S → Type 0) where
  -- one that is there
  pub adds_one : (file : IgnoreFile) (path text : List ℕ) (rules rules' : List Rule) (old new : S)
      → path ≡ path_of file → reads old path (Ok text) new → rules' ≡ rules ++ rules_in file.folder text
      → Adds reads (file ∷ []) rules rules' old new
  adds_one file path text rules rules' old new is read more =
      there (subst (λ (it : List ℕ). reads old it (Ok text) new) is read)
      (subst (λ (these : List Rule). Adds reads [] (rules ++ rules_in file.folder text) these new new)
      (sym more) nothing)

  -- one that isn't there
  pub adds_none : (file : IgnoreFile) (path : List ℕ) (error : Error) (rules : List Rule) (old new : S)
      → path ≡ path_of file → reads old path (Err error) new → IsAbsent error
      → Adds reads (file ∷ []) rules rules old new
  adds_none file path error rules old new is read is_absent =
      absent (subst (λ (it : List ℕ). reads old it (Err error) new) is read) is_absent nothing

  -- one that can't be read
  pub fails_one : (file : IgnoreFile) (path : List ℕ) (reason error : Error) (rules : List Rule) (old new : S)
      → path ≡ path_of file → reads old path (Err reason) new → ¬ IsAbsent reason → error_kind error ≡ error_kind reason
      → FailsToAdd reads (file ∷ []) rules old new error
  fails_one file path reason error rules old new is read is_there same_kind = inl (record {
    before = [];
    file = file;
    after = [];
    split = refl;
    rules' = rules;
    middle = old;
    adds = nothing;
    reason = reason;
    fails = subst (λ (it : List ℕ). reads old it (Err reason) new) is read;
    is_there = is_there;
    same_kind = same_kind;
  })

  -- one after the other
  pub adds_on : {files files' : List IgnoreFile} {rules rules' rules'' : List Rule} {old middle new : S}
      → Adds reads files rules rules' old middle → Adds reads files' rules' rules'' middle new
      → Adds reads (files ++ files') rules rules'' old new
  adds_on nothing b = b
  adds_on (there read a) b = there read (adds_on a b)
  adds_on (absent read is_absent a) b = absent read is_absent (adds_on a b)

  -- those after others
  pub fails_after : (files files' : List IgnoreFile) (rules rules' : List Rule) (old middle new : S) (error : Error)
      → Adds reads files rules rules' old middle → FailsToAdd reads files' rules' middle new error
      → FailsToAdd reads (files ++ files') rules old new error
  fails_after files files' rules rules' old middle new error a (inl b) = inl (record {
    before = files ++ b.before;
    file = b.file;
    after = b.after;
    split = ap (λ (these : List IgnoreFile). files ++ these) b.split
        ∙ sym (append_assoc files b.before (b.file ∷ b.after));
    rules' = b.rules';
    middle = b.middle;
    adds = adds_on a b.adds;
    reason = b.reason;
    fails = b.fails;
    is_there = b.is_there;
    same_kind = b.same_kind;
  })
  fails_after files files' rules rules' old middle new error a (inr is_memory) = inr is_memory

  -- those before others
  pub fails_before : (files files' : List IgnoreFile) (rules : List Rule) (old new : S) (error : Error)
      → FailsToAdd reads files rules old new error → FailsToAdd reads (files ++ files') rules old new error
  fails_before files files' rules old new error (inl a) = inl (record {
    before = a.before;
    file = a.file;
    after = a.after ++ files';
    split = ap (λ (these : List IgnoreFile). these ++ files') a.split ∙ append_assoc a.before (a.file ∷ a.after) files';
    rules' = a.rules';
    middle = a.middle;
    adds = a.adds;
    reason = a.reason;
    fails = a.fails;
    is_there = a.is_there;
    same_kind = a.same_kind;
  })
  fails_before files files' rules old new error (inr is_memory) = inr is_memory

  -- Of all these ignore files, those before the ones that are left were read.
  pub record HasAdded (all left : List IgnoreFile) (rules rules' : List Rule) (old new : S) : Type 0 where
    pub done : List IgnoreFile
    pub split : all ≡ done ++ left
    pub adds : Adds reads done rules rules' old new

  pub begins : (all : List IgnoreFile) (rules : List Rule) (state : S) → HasAdded all all rules rules state state
  begins all rules state = record { done = []; split = refl; adds = nothing }

  pub goes_on : (all files left : List IgnoreFile) (rules rules' rules'' : List Rule) (old middle new : S)
      → HasAdded all (files ++ left) rules rules' old middle → Adds reads files rules' rules'' middle new
      → HasAdded all left rules rules'' old new
  goes_on all files left rules rules' rules'' old middle new a b = record {
    done = a.done ++ files;
    split = a.split ∙ sym (append_assoc a.done files left);
    adds = adds_on a.adds b;
  }

  pub ends : (all : List IgnoreFile) (rules rules' : List Rule) (old new : S) → HasAdded all [] rules rules' old new
      → Adds reads all rules rules' old new
  ends all rules rules' old new a =
      subst (λ (files : List IgnoreFile). Adds reads files rules rules' old new)
      (sym (a.split ∙ append-nil a.done)) a.adds

  pub fails : (all files left : List IgnoreFile) (rules rules' : List Rule) (old middle new : S) (error : Error)
      → HasAdded all (files ++ left) rules rules' old middle → FailsToAdd reads files rules' middle new error
      → FailsToAdd reads all rules old new error
  fails all files left rules rules' old middle new error a b =
      subst (λ (these : List IgnoreFile). FailsToAdd reads these rules old new error) (sym a.split)
      (fails_after a.done (files ++ left) rules rules' old middle new error a.adds
      (fails_before files left rules' middle new error b))
