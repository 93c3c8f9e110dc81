use Rattle.std.proofs.Common.{◌∙◌, ◌+◌, ◌==◌, if◌then◌else◌, Some, None, ap, sym}
use Rattle.std.specs.List.{prefix_len}
use Rattle.lexical_grammar.specs.Characters.{is_name_continue}
use Rattle.lexical_grammar.specs.Reads.{blank_len, blanks_len, number_at, string_at}
use Rattle.lexical_grammar.specs.declared.TokenKind.TheVariants as token
use Rattle.apollo_lexer.proofs.Starts.{token-by-start}
use Rattle.apollo_lexer.proofs.scan.token_at.Goals as goal
use Rattle.apollo_lexer.specs.declared.bytes.Start.TheVariants.{Name, Number, Quote, NumberSign, Dot, Blank, Punctuator}
use Rattle.apollo_lexer.specs.declared.bytes.Start.TheVariants.{Other}

pub returns-in-Name : goal.returns-in-Name
returns-in-Name c =
    let is = c.in_ok-first.ensures.cases.0 in
    ap (λ n. Some (token.Name, n)) (c.short_run_len.ensures.value ∙ ap (prefix_len is_name_continue) is)
    ∙ token-by-start Name c.in_ok-first.first.now c.in_ok-first.others.now c.args.bytes.now is
    (sym c.in-Name.is ∙ c.start_of.ensures)

pub returns-in-Number : goal.returns-in-Number
returns-in-Number c =
    let is = c.in_ok-first.ensures.cases.0 in
    (c.number_at.ensures ∙ ap number_at is)
    ∙ token-by-start Number c.in_ok-first.first.now c.in_ok-first.others.now c.args.bytes.now is
    (sym c.in-Number.is ∙ c.start_of.ensures)

pub returns-in-Quote : goal.returns-in-Quote
returns-in-Quote c =
    let is = c.in_ok-first.ensures.cases.0 in
    (c.string_at.ensures ∙ ap string_at is)
    ∙ token-by-start Quote c.in_ok-first.first.now c.in_ok-first.others.now c.args.bytes.now is
    (sym c.in-Quote.is ∙ c.start_of.ensures)

pub returns-in-NumberSign : goal.returns-in-NumberSign
returns-in-NumberSign c =
    let is = c.in_ok-first.ensures.cases.0 in
    ap (λ n. Some (token.Comment, 1 + n)) c.comment_len.ensures.value
    ∙ token-by-start NumberSign c.in_ok-first.first.now c.in_ok-first.others.now
    c.args.bytes.now is (sym c.in-NumberSign.is ∙ c.start_of.ensures)

pub returns-in-Dot : goal.returns-in-Dot
returns-in-Dot c =
    let is = c.in_ok-first.ensures.cases.0 in
    c.spread_at.ensures ∙ token-by-start Dot c.in_ok-first.first.now c.in_ok-first.others.now c.args.bytes.now is
    (sym c.in-Dot.is ∙ c.start_of.ensures)

pub returns-in-Blank : goal.returns-in-Blank
returns-in-Blank c =
    let is = c.in_ok-first.ensures.cases.0 in
    ap (λ n. Some (token.Whitespace, 1 + n)) c.blanks_len.ensures.value
    ∙ token-by-start Blank c.in_ok-first.first.now c.in_ok-first.others.now c.args.bytes.now
    is (sym c.in-Blank.is ∙ c.start_of.ensures)

pub returns-in-Punctuator : goal.returns-in-Punctuator
returns-in-Punctuator c =
    let is = c.in_ok-first.ensures.cases.0 in
    token-by-start (Punctuator c.in-Punctuator.kind) c.in_ok-first.first.now c.in_ok-first.others.now
    c.args.bytes.now is
    (sym c.in-Punctuator.is ∙ c.start_of.ensures)

pub returns-in-Other : goal.returns-in-Other
returns-in-Other c =
    let is = c.in_ok-first.ensures.cases.0 in
    (c.other_at.ensures ∙ ap (λ bytes. if blank_len bytes
    == 0 then None else Some (token.Whitespace, blanks_len 0 bytes)) is)
    ∙ token-by-start Other c.in_ok-first.first.now c.in_ok-first.others.now c.args.bytes.now is
    (sym c.in-Other.is ∙ c.start_of.ensures)
