use Rattle.std.proofs.Common.{◌≡◌, ◌∙◌, ap, sym, subst, None}
use Rattle.std.specs.Prelude.{string_bytes}
use Rattle.memchr.specs.Find.{IsFirstByte, is_byte}
use Rattle.lexical_grammar.specs.Values.{block_string_value}
use Rattle.apollo_cst_core.proofs.BlockReads.{raw-plain}
use Rattle.apollo_cst_core.proofs.StringForms.{if-ok}
use Rattle.apollo_cst_core.proofs.strings.inside_value.Goals as goal
use Rattle.apollo_cst_core.specs.Blocks.{raw_of}

pub returns-in-None : goal.returns-in-None
returns-in-None g c =
    let plain = raw-plain c.args.inside.now
    (subst (λ b. IsFirstByte (is_byte 92) b None) c.as_bytes.ensures.value c.in-None.ensures) in
    if-ok c.block_value.result _ (λ s. string_bytes s ≡ block_string_value (raw_of 0 c.args.inside.now))
    (λ s e. e ∙ ap block_string_value (sym plain)) c.block_value.ensures

pub returns-in_ok-raw-in-Some : goal.returns-in_ok-raw-in-Some
returns-in_ok-raw-in-Some g c =
    if-ok c.block_value-in-Some.result _ (λ s. string_bytes s ≡ block_string_value (raw_of 0 c.args.inside.now))
    (λ s e. e ∙ ap block_string_value (c.as_str.ensures.value ∙ c.in_ok-raw-in-Some.ensures))
    c.block_value-in-Some.ensures
