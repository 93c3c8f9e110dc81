use Rattle.std.proofs.Common.{◌≡◌, Global, String, Bool, true, false, [], ◌∷◌, ap, filter, map, refl, string_bytes}
use Rattle.std.proofs.Common.{subst, sym, ◌++◌, ◌∙◌}
use Rattle.std.proofs.lemmas.List.{map-append}
use Rattle.std.proofs.lemmas.List.Elements.{All-push}
use Rattle.std.specs.BTreeMap.{get_by_text}
use Rattle.std.specs.BTreeSet.{contains_text}
use Rattle.std.specs.Prelude.{◌&&◌, is_some, not}
use Rattle.gqlls_server.proofs.Maps.{passed_more, passed_over}
use Rattle.gqlls_server.proofs.documents.push_stored.Goals as goal
use Rattle.gqlls_server.proofs.documents.push_stored.Goals.{else-not-contains-via-then-not-contains+else-not-contains_key}
use Rattle.gqlls_server.proofs.documents.push_stored.Goals.{else-not-contains-via-else-not-contains}
use Rattle.gqlls_server.specs.Parsing.{IsParsed}
use Rattle.gqlls_server.specs.Renaming.{AreParsed, KnownFile}
use Rattle.gqlls_server.specs.State.{entry_of, is_stored, known_of}
use Rattle.gqlls_server.specs.declared.documents.Document.{Document}

both : (own opens : Bool) → own ≡ false → opens ≡ false → (not own && not opens) ≡ true
both own opens one two = rw (one, two) refl

is_own : (own opens : Bool) → own ≡ true → (not own && not opens) ≡ false
is_own own opens one = rw one refl

is_open : (own opens : Bool) → opens ≡ true → (not own && not opens) ≡ false
is_open true opens one = refl
is_open false opens one = rw one refl

pub loop-name-preserved-then-not-contains_key : goal.loop-name-preserved-then-not-contains_key
loop-name-preserved-then-not-contains_key c =
    let entry : String Global × Document = (c.in-Some.name.now, c.in-Some.document.now) in
    let before = map known_of c.loop-name.found.items in
    let added =
    ap (map known_of) c.in_ok-push.ensures.items ∙ map-append known_of c.loop-name.found.items _
    ∙ ap (λ (one : KnownFile). before ++ one ∷ [])
    (c.known_as.ensures.known
    ∙ ap (λ name. (name, c.in-Some.document.now)) c.as_str-then-not-contains_key.ensures.value) in
    record {
      all =
          passed_more entry_of (λ (e : String Global × Document). is_stored c.args.own.now c.args.opened.now
          (string_bytes e.0)) entry c.next.new.self before
          (map known_of c.push.new.self.items) _
          (both _ _ (ap (contains_text c.args.own.now) (sym c.as_str.ensures.value) ∙ sym c.contains.ensures
          ∙ c.if-not-contains.true)
          (ap (λ name. is_some (get_by_text c.args.opened.now name)) (sym c.as_str-then-not-contains.ensures.value)
          ∙ sym c.contains_key.ensures
          ∙ c.if-not-contains_key.true)) added
          (ap (λ es. before ++ map entry_of
          (filter (λ (e : String Global × Document). is_stored c.args.own.now c.args.opened.now (string_bytes e.0)) es))
          (sym c.in-Some.ensures.steps) ∙ c.loop-name.invariant.all);
      parsed = λ parsed.
          subst AreParsed (sym added)
          (All-push (λ (one : KnownFile). IsParsed one.1) before (entry_of entry) (c.loop-name.invariant.parsed parsed)
          c.known_as.ensures.parsed);
    }

pub loop-name-preserved : goal.loop-name-preserved
loop-name-preserved c =
    let entry : String Global × Document = (c.in-Some.name.now, c.in-Some.document.now) in
    let before = map known_of c.loop-name.found.items in
    let over = λ (fails : is_stored c.args.own.now c.args.opened.now (string_bytes c.in-Some.name.now) ≡ false).
    passed_over entry_of (λ (e : String Global × Document). is_stored c.args.own.now c.args.opened.now
    (string_bytes e.0)) entry c.next.new.self before _ fails
    (ap (λ es. before ++ map entry_of
    (filter (λ (e : String Global × Document). is_stored c.args.own.now c.args.opened.now (string_bytes e.0)) es))
    (sym c.in-Some.ensures.steps) ∙ c.loop-name.invariant.all) in
    record {
      all = elim c.else-not-contains.branch [
        | else-not-contains-via-then-not-contains+else-not-contains_key w ↦
            over (is_open _ _ (ap (λ name. is_some (get_by_text c.args.opened.now name))
            (sym w.as_str-then-not-contains.ensures.value)
            ∙ sym w.contains_key.ensures ∙ w.if-not-contains_key.false))
        | else-not-contains-via-else-not-contains w ↦
            over (is_own _ _ (ap (contains_text c.args.own.now) (sym c.as_str.ensures.value) ∙ sym c.contains.ensures
            ∙ w.if-not-contains.false))
      ];
      parsed = c.loop-name.invariant.parsed;
    }
