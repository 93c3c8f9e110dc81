use Rattle.std.proofs.Common.{Global, String, [], ◌∷◌, ap, filter, map, string_bytes, subst, sym, ◌++◌, ◌∙◌}
use Rattle.std.proofs.lemmas.List.{map-append}
use Rattle.std.proofs.lemmas.List.Elements.{All-push}
use Rattle.std.specs.Prelude.{bytes_eq, not}
use Rattle.gqlls_server.proofs.Maps.{passed_more}
use Rattle.gqlls_server.proofs.documents.push_opened.Goals as goal
use Rattle.gqlls_server.specs.Parsing.{IsParsed}
use Rattle.gqlls_server.specs.Renaming.{AreParsed, KnownFile}
use Rattle.gqlls_server.specs.State.{entry_of, is_other, known_of}
use Rattle.gqlls_server.specs.declared.documents.Document.{Document}

pub loop-name-preserved-in-Continue-1 : goal.loop-name-preserved-in-Continue-1
loop-name-preserved-in-Continue-1 c =
    let entry : String Global × Document = (c.in-Some.name.now, c.in-Some.document.now) in
    let before = map known_of c.loop-name.found.items in
    let added =
    ap (map known_of) c.in_ok-push.ensures.items ∙ map-append known_of c.loop-name.found.items _
    ∙ ap (λ (one : KnownFile). before ++ one ∷ [])
    (c.known_as.ensures.known ∙ ap (λ name. (name, c.in-Some.document.now)) c.as_str-then-ne.ensures.value) in
    record {
      all =
          passed_more entry_of (λ (e : String Global × Document). is_other c.args.uri.now (string_bytes e.0)) entry
          c.next.new.self before
          (map known_of c.push.new.self.items) _
          (ap (λ name. not (bytes_eq name c.args.uri.now)) (sym c.as_str.ensures.value)
          ∙ sym c.ne.ensures ∙ c.if-ne.true) added
          (ap (λ es. before ++ map entry_of
          (filter (λ (e : String Global × Document). is_other c.args.uri.now (string_bytes e.0)) es))
          (sym c.in-Some.ensures.steps) ∙ c.loop-name.invariant.all);
      parsed = λ parsed.
          subst AreParsed (sym added)
          (All-push (λ (one : KnownFile). IsParsed one.1) before (entry_of entry) (c.loop-name.invariant.parsed parsed)
          c.known_as.ensures.parsed);
    }
