use Rattle.std.proofs.Common.{◌≡◌, Option, List, ℕ, ap, subst, sym, ◌∙◌, refl}
use Rattle.std.proofs.lemmas.Str.{IsUtf8-string_bytes}
use Rattle.std.specs.List.{replace_range}
use Rattle.std.specs.Prelude.{string_bytes}
use Rattle.line_index.specs.LineStarts.{AreFirstStarts}
use Rattle.line_index.specs.Positions.{units}
use Rattle.editor_text.proofs.EditLemmas.{replaced-units, same-front}
use Rattle.editor_text.proofs.replace.Goals as goal
use Rattle.editor_text.specs.Client.{AreOffsets, replaced}
use Rattle.editor_text.specs.declared.PositionRange.{PositionRange}

pub returns-in_ok-text-in-None-clause-known : goal.returns-in_ok-text-in-None-clause-known
returns-in_ok-text-in-None-clause-known c =
    c.forget_from.ensures (string_bytes c.args.text.now) (string_bytes c.in_ok-text-in-None.field-0) c.requires refl

pub returns-in_ok-replace_range-in-Some-clause-known : goal.returns-in_ok-replace_range-in-Some-clause-known
returns-in_ok-replace_range-in-Some-clause-known c =
    let old : List ℕ = string_bytes c.args.text.now in
    let known = subst (λ (t : List ℕ). AreFirstStarts t c.offsets.new.lines) c.as_str.ensures.value
    c.in_ok-start-in-Some.ensures.known in
    let at : AreOffsets c.args.encoding old c.in-Some.range c.in_ok-start-in-Some.start c.in_ok-start-in-Some.end =
    subst
    (λ (t : List ℕ). AreOffsets c.args.encoding t c.in-Some.range c.in_ok-start-in-Some.start c.in_ok-start-in-Some.end)
    c.as_str.ensures.value
    c.in_ok-start-in-Some.ensures.offsets in
    c.forget_from-in-Some.ensures old (string_bytes c.replace_range.new.self) known
    (same-front old _ _ c.in_ok-start-in-Some.start _ at.starts.0 c.in_ok-replace_range-in-Some.ensures.bytes)

pub returns-in_ok-replace_range-in-Some-clause-changed : goal.returns-in_ok-replace_range-in-Some-clause-changed
returns-in_ok-replace_range-in-Some-clause-changed c =
    let e = c.args.encoding in
    let old : List ℕ = string_bytes c.args.text.now in
    let new : List ℕ = c.args.new.now in
    let start : ℕ = c.in_ok-start-in-Some.start in
    let end : ℕ = c.in_ok-start-in-Some.end in
    let at : AreOffsets e old c.in-Some.range start end =
    subst (λ (t : List ℕ). AreOffsets e t c.in-Some.range start end) c.as_str.ensures.value
    c.in_ok-start-in-Some.ensures.offsets in
    let bytes : string_bytes c.replace_range.new.self ≡ replace_range old start end new =
    c.in_ok-replace_range-in-Some.ensures.bytes in
    ap (units e) bytes ∙ replaced-units e old new c.in-Some.range start end
    (IsUtf8-string_bytes c.args.text.now) c.utf8.new at
    ∙ ap (λ (r : Option PositionRange). replaced e (units e old) r (units e new)) (sym c.in-Some.is)
