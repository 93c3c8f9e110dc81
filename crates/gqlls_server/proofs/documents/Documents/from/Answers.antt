use Rattle.std.proofs.Common.{List, [], ◌∷◌, ap, map, subst, sym, ◌++◌, ◌∙◌}
use Rattle.std.proofs.lemmas.List.Elements.{All-push, All-nil}
use Rattle.gqlls_server.proofs.Found.{are_known}
use Rattle.gqlls_server.proofs.documents.Documents.from.Goals as goal
use Rattle.gqlls_server.specs.Parsing.{IsParsed}
use Rattle.gqlls_server.specs.Renaming.{AreParsed, KnownFile}
use Rattle.gqlls_server.specs.State.{entries_that, entry_of, is_other, is_stored, known_of}

pub returns : goal.returns
returns c = λ is_open.
    let opened = c.args.self.opened.now in
    let stored = c.args.self.files.now in
    let first = c.args.first.now in
    let beside = map entry_of (entries_that (is_other first.uri.now) opened) in
    let more = map entry_of (entries_that (is_stored c.in_ok-own.own opened) stored) in
    let one = ap (map known_of)
    (c.in_ok-push.ensures.items ∙ ap (λ items. items ++ c.known_as.result ∷ []) c.new-known.ensures.items)
    ∙ ap (λ (k : KnownFile). k ∷ []) c.known_as.ensures.known in
    let all = c.in_ok-push_stored.ensures.all
    ∙ ap (λ (ks : List KnownFile). ks ++ more)
    (c.in_ok-push_opened.ensures.all ∙ ap (λ (ks : List KnownFile). ks ++ beside) one) in
    let parsed = c.in_ok-push_stored.ensures.parsed (c.in_ok-push_opened.ensures.parsed
    (subst AreParsed (sym one)
    (All-push (λ (one : KnownFile). IsParsed one.1) [] (known_of first) (All-nil _)
    c.known_as.ensures.parsed))) in (
      beside ++ more,
      all,
      are_known first.uri.now first.document.now opened stored c.in_ok-own.own is_open c.in_ok-own.ensures
          c.in_ok-push_opened.ensures.ordered
          c.in_ok-push_stored.ensures.ordered _ all parsed,
    )
