-- The computed check that a rule enters a level only after a token that it took inside the level around it: so there
-- are no more levels than there are tokens.
use Rattle.std.proofs.Common.{ℕ, Bool, false, cond, eqb, leb, not}
use Rattle.document_grammar.specs.Booleans.{◌and◌, ◌or◌}
use Rattle.parser_rules.proofs.reports.LimitCheck.{tells_inner, begins_level}
use Rattle.parser_rules.proofs.runs.Walk.{Domain, steady}

-- How many levels were entered in the open node; 1 where a token was taken since the last of them was entered; and
-- whether the current token is known to be there.
pub record Taken : Type 0 where
  pub entered : ℕ
  pub spare : ℕ
  pub there : Bool

-- where nothing is entered or taken
abbrev pub untaken : Bool → Taken
untaken there = record { entered = 0; spare = 0; there = there }

-- a token is taken, if there is one; what the next one is, is not known
abbrev pub take : Taken → Taken
take taken = record taken { spare = cond taken.there 1 taken.spare; there = false }

abbrev pub forget : Taken → Taken
forget taken = record taken { there = false }

unfoldable pub token_check : Domain Taken
token_check = record (steady (untaken false)) {
  leaf = λ j a k. k (take a);
  limit = λ a k. eqb a.spare 1 and k a;
  test = λ q a f g. f (record a { there = a.there or tells_inner q }) and g a;
  turn = forget;
  keeps = λ a c. eqb a.entered c.entered and leb c.spare a.spare;
  opens = λ n a. not (begins_level n) or a.there;
  begins = λ n. untaken (begins_level n);
  ends = λ j a. eqb a.entered 0;
  after = λ j a k. k (forget a);
  enters = λ a k. (eqb a.entered 0 and eqb a.spare 1) and k (record a { entered = 1; spare = 0 });
  leaves = λ a k. eqb a.entered 1 and k (record a { entered = 0; spare = 1 });
  types = λ a. record a { entered = 0 };
  plain = λ a c k. eqb c.entered 0 and k (forget a);
}
