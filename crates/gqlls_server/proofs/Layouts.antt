-- The answer that has a layout of a whole text, or of a part of one.
use Rattle.std.proofs.Common.{◌≡◌, ℕ, List, inl, inr, refl, subst}
use Rattle.std.specs.Prelude.{string_bytes}
use Rattle.json.specs.Json.{Json, null}
use Rattle.apollo_parser.specs.declared.Limits.{Limits}
use Rattle.line_index.specs.declared.PositionEncoding.{PositionEncoding}
use Rattle.editor_text.specs.Client.{Opened}
use Rattle.gqlls_server.specs.Layout.{IsFormattingOf, IsLaidOut, IsLayoutOf, IsPartLaidOut, IsRangeFormattingOf}
use Rattle.gqlls_server.specs.Layout.{IsTextIf}
use Rattle.gqlls_server.specs.declared.layout.Layout.{Layout}
use Rattle.gqlls_server.specs.declared.layout.Layout.TheVariants.{Text, Left, TooLong}

formatting_of : (limits : Limits) (id : Json) (encoding : PositionEncoding) (text : List ℕ)
    (layout : Layout) (body : List ℕ)
    → IsLayoutOf limits text layout → IsLaidOut id encoding text layout body
    → IsFormattingOf limits id (record { encoding = encoding; text = text }) body
formatting_of limits id encoding text (Text s) body made (value, edits, is) =
    inl (value, inr (record { text = string_bytes s; formatted = made.0; short = made.1; edits = edits }), is)
formatting_of limits id encoding text Left body made is = inl (null, inl (made, refl), is)
formatting_of limits id encoding text TooLong body made is = inr (record { long = made; refused = is })

-- what holds of an open text, by its encoding and its bytes
moved : (P : Opened → Type 0) (content : Opened) (encoding : PositionEncoding) (text : List ℕ)
    → encoding ≡ content.encoding → text ≡ content.text
    → P (record { encoding = encoding; text = text }) → P content
moved P content encoding text same_encoding same_text h =
    subst (λ (e : PositionEncoding). P (record { encoding = e; text = content.text })) same_encoding
    (subst (λ (t : List ℕ). P (record { encoding = encoding; text = t })) same_text h)

pub formatting : (limits : Limits) (id : Json) (content : Opened) (encoding : PositionEncoding)
    (text : List ℕ) (layout : Layout)
    (body : List ℕ) → encoding ≡ content.encoding → text ≡ content.text
    → IsLayoutOf limits text layout → IsLaidOut id encoding text layout body → IsFormattingOf limits id content body
formatting limits id content encoding text layout body same_encoding same_text made is =
    moved (λ content. IsFormattingOf limits id content body) content encoding text same_encoding same_text
    (formatting_of limits id encoding text layout body made is)

range_formatting_of : (limits : Limits) (id : Json) (encoding : PositionEncoding) (text : List ℕ)
    (layout : Layout) (body : List ℕ)
    → IsTextIf (IsPartLaidOut limits text) layout → IsLaidOut id encoding text layout body
    → IsRangeFormattingOf limits id (record { encoding = encoding; text = text }) body
range_formatting_of limits id encoding text (Text s) body made (value, edits, is) =
    inl (value, inr (record { text = string_bytes s; formatted = made; edits = edits }), is)
range_formatting_of limits id encoding text Left body made is = inl (null, inl refl, is)
range_formatting_of limits id encoding text TooLong body made is = inr (inr is)

pub range_formatting : (limits : Limits) (id : Json) (content : Opened) (encoding : PositionEncoding)
    (text : List ℕ) (layout : Layout)
    (body : List ℕ) → encoding ≡ content.encoding → text ≡ content.text
    → IsTextIf (IsPartLaidOut limits text) layout → IsLaidOut id encoding text layout body
    → IsRangeFormattingOf limits id content body
range_formatting limits id content encoding text layout body same_encoding same_text made is =
    moved (λ content. IsRangeFormattingOf limits id content body) content encoding text same_encoding same_text
    (range_formatting_of limits id encoding text layout body made is)
