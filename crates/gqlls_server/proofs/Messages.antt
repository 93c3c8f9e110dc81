-- The outcomes of messages.
use Rattle.std.proofs.Common.{◌≡◌, ℕ, List, Option, Some, None, true, false, sym, ap, ◌∙◌, subst}
use Rattle.std.specs.Prelude.{MatchOption, is_none, option_map}
use Rattle.json.specs.Json.{Json}
use Rattle.rpc_messages.specs.declared.reply.Reply.{Reply}
use Rattle.gqlls_server.specs.Conversation.{Changes, Closes, IsIgnored, Opens, Publishes, PublishesChanges, Withdraws}
use Rattle.gqlls_server.specs.Dialogue.{Dialogue, opened}
use Rattle.gqlls_server.specs.Files.{OpenFile}
use Rattle.gqlls_server.specs.Parameters.{Edit, edits_in, host_in, text_in, uri_in}

pub found_in : {A B : Type 0} (f : A → B) (r : Option A) (x : A) (found : Option B) → option_map f r ≡ found
    → r ≡ Some x → found ≡ Some (f x)
found_in f r x found e is = sym e ∙ ap (option_map f) is

module _ (params : Json) (reply : Reply) (old new : Dialogue) where
  pub opens : (uri text : List ℕ) (file : OpenFile) → uri_in params ≡ Some uri → text_in params ≡ Some text
      → file ≡ opened old text (host_in params)
      → Publishes uri file params reply old new → Opens params reply old new
  opens uri text file named read is published =
      let there : (file : OpenFile) → Type 0 = λ file. Publishes uri file params reply old new in
      let with_text : (o : Option (List ℕ)) → Type 0 =
      λ o. MatchOption o (IsIgnored reply old new)
      (λ text. Publishes uri (opened old text (host_in params)) params reply old new) in
      let with_name : (o : Option (List ℕ)) → Type 0 =
      λ o. MatchOption o (IsIgnored reply old new)
      (λ uri. MatchOption (text_in params) (IsIgnored reply old new)
      (λ text. Publishes uri (opened old text (host_in params)) params reply old new)) in
      subst with_name (sym named) (subst with_text (sym read) (subst there is published))

  pub changes : (uri : List ℕ) (edits : List Edit) (before : OpenFile) → uri_in params ≡ Some uri
      → edits_in params ≡ Some edits
      → old.documents uri ≡ Some before → PublishesChanges uri edits before params reply old new
      → Changes params reply old new
  changes uri edits before named read there published =
      let with_before : (o : Option OpenFile) → Type 0 =
      λ o. MatchOption o (IsIgnored reply old new) (λ before. PublishesChanges uri edits before params reply old new) in
      let with_edits : (o : Option (List Edit)) → Type 0 =
      λ o. MatchOption o (IsIgnored reply old new)
      (λ edits. MatchOption (old.documents uri) (IsIgnored reply old new)
      (λ before. PublishesChanges uri edits before params reply old new)) in
      let with_name : (o : Option (List ℕ)) → Type 0 =
      λ o. MatchOption o (IsIgnored reply old new)
      (λ uri. MatchOption (edits_in params) (IsIgnored reply old new)
      (λ edits. MatchOption (old.documents uri) (IsIgnored reply old new)
      (λ before. PublishesChanges uri edits before params reply old new))) in
      subst with_name (sym named) (subst with_edits (sym read) (subst with_before (sym there) published))

  pub closes : {A : Type 0} (uri : List ℕ) (file : A → OpenFile) (removed : Option A) → uri_in params ≡ Some uri
      → option_map file removed ≡ old.documents uri → is_none removed ≡ false
      → Withdraws uri reply old new → Closes params reply old new
  closes uri file None named there some withdraws = absurd (let no : true ≡ false = some in cc no)
  closes uri file (Some document) named there some withdraws =
      let with_before : (o : Option OpenFile) → Type 0 =
      λ o. MatchOption o (IsIgnored reply old new) (λ before. Withdraws uri reply old new) in
      let with_name : (o : Option (List ℕ)) → Type 0 =
      λ o. MatchOption o (IsIgnored reply old new)
      (λ uri. MatchOption (old.documents uri) (IsIgnored reply old new) (λ before. Withdraws uri reply old new)) in
      subst with_name (sym named) (subst with_before there withdraws)
