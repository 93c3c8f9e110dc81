use Rattle.std.proofs.Common.{◌≡◌, length, rules, arith, sym, subst}
use Rattle.lexical_grammar.proofs.Cuts.{tok-some}
use Rattle.lexical_grammar.specs.declared.TokenKind.TheVariants.{StringValue}
use Rattle.format_layout.proofs.Adding.{adds-token, adds-block}
use Rattle.format_layout.proofs.Lengths.{own-room}
use Rattle.format_layout.proofs.writer.Writer.spell.Goals as goal
use Rattle.format_layout.specs.Respelled.{SameBlock}

pub returns-in-Some-clause-adds : goal.returns-in-Some-clause-adds
returns-in-Some-clause-adds g c =
    let kind : c.args.kind ≡ StringValue = search rules in
    let same = rw c.in-Some.is at c.in_ok-other.ensures.same in
    adds-block _ _ _ _ _ _ (record { kind = c.args.kind; text = c.args.text.now }) c.as_str.result.now kind
    (subst (SameBlock c.args.text.now) (sym c.as_str.ensures.value) same) c.in_ok-token.ensures.adds

pub returns-clause-adds : goal.returns-clause-adds
returns-clause-adds g c =
    adds-token _ _ _ _ _ _ (record { kind = c.args.kind; text = c.args.text.now }) c.requires.kept
    c.in_ok-token-2.ensures.adds

pub returns-clause-short : goal.returns-clause-short
returns-clause-short g c =
    let some = tok-some c.args.kind c.args.text.now c.requires.token in
    omega (arith, own-room c.args.self.now.bounds.deepest (length c.args.text.now) some, c.in_ok-token-2.ensures.short)
