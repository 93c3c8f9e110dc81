use Rattle.std.proofs.Common.{◌≡◌, true, string_bytes, sym, ap, ◌∙◌, subst}
use Rattle.lexical_grammar.specs.Strings.{begins, triple_quote}
use Rattle.lexical_grammar.specs.Tokens.{IsString}
use Rattle.apollo_cst_core.specs.StringValues.{IsStringValue}
use Rattle.format_layout.proofs.Blocks.{same-block}
use Rattle.format_layout.proofs.block_strings.spelled.Goals as goal

pub returns-clause-string : goal.returns-clause-string
returns-clause-string g c =
    let is : c.in_ok-is_block_of.field-0 ≡ true = cc in
    subst IsString c.as_str-words.ensures.value (c.in_ok-is_block_of.ensures.string is)

pub returns-clause-same : goal.returns-clause-same
returns-clause-same g c =
    let is : c.in_ok-is_block_of.field-0 ≡ true = cc in
    let words = c.as_str-words.ensures.value in
    let value = subst (IsStringValue c.as_str-words.result.now) c.as_str-else-eq.ensures.value
    (c.in_ok-is_block_of.ensures.value is) in
    same-block _ _ (string_bytes c.in_ok-value.value) (sym c.begins_block.ensures ∙ c.if-not-begins_block.false)
    (ap (begins triple_quote) (sym words) ∙ c.in_ok-is_block_of.ensures.block is) c.in_ok-value.ensures
    (subst (λ t. IsStringValue t (string_bytes c.in_ok-value.value)) words value)
