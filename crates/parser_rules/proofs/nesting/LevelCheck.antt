-- The levels of nesting that a rule enters, walked along the rule: the computed check of one rule.
use Rattle.std.proofs.Common.{ℕ, ◌+◌, ◌-◌, eqb, leb}
use Rattle.document_grammar.proofs.Nested.{uncounted, is_bare, weight}
use Rattle.document_grammar.specs.Booleans.{◌and◌}
use Rattle.document_grammar.specs.Kinds.{DOCUMENT, NON_NULL_TYPE}
use Rattle.document_grammar.specs.Numbers.{number}
use Rattle.parser_rules.proofs.runs.Walk.{Domain, steady}
use Rattle.parser_rules.proofs.soundness.TableCheck.{counts_itself}
use Rattle.parser_rules.specs.Nodes.{kind_of}

-- The kind of the open node; how many more counted nodes are open than levels were entered where it began; how many
-- levels were entered in it; and 1 where it still owes its own.
pub record Depth : Type 0 where
  pub kind : ℕ
  pub open_nodes : ℕ
  pub entered : ℕ
  pub owed : ℕ

abbrev pub at_first : ℕ → Depth
at_first k = record { kind = k; open_nodes = counts_itself k; entered = 0; owed = counts_itself k }

-- each counted node that a rule leaves open has its level, entered or refused
unfoldable pub level_check : Domain Depth
level_check = record (steady (at_first DOCUMENT)) {
  leaf = λ j a k. uncounted (number j) and k a;
  limit = λ a k. leb a.owed 1 and k (record a { owed = 0 });
  keeps = λ a c. (eqb a.kind c.kind and eqb a.open_nodes c.open_nodes)
      and (eqb a.entered c.entered and eqb a.owed c.owed);
  begins = λ n. at_first (number (kind_of n));
  ends = λ j a. (eqb a.kind (number j) and eqb a.open_nodes (counts_itself (number j)))
      and (eqb a.entered 0 and eqb a.owed 0);
  after = λ j a k. (eqb (a.entered + counts_itself (number j)) (a.open_nodes + weight a.kind (number j))
      and eqb a.owed 0) and k a;
  enters = λ a k. (eqb a.entered 0 and leb a.owed 1) and k (record a { entered = 1; owed = 0 });
  leaves = λ a k. (eqb a.entered 1 and eqb a.owed 0) and k (record a { entered = 0 });
  types = λ a. record a { open_nodes = a.open_nodes - a.entered; entered = 0 };
  plain = λ a c k. (eqb c.kind a.kind and eqb (c.open_nodes + a.entered) a.open_nodes)
      and ((eqb c.entered 0 and eqb c.owed 0) and k a);
  wraps = λ a k. is_bare a.kind and k (record a { kind = NON_NULL_TYPE });
}
