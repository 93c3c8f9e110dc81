use Rattle.std.proofs.Common.{◌≡◌, ◌≤◌, true, min, take}
use Rattle.std.specs.List.{list_all}
use Rattle.lexical_grammar.proofs.escapes.hex_value.Given as goal
use Rattle.lexical_grammar.specs.Characters.{is_hex_digit}
use Rattle.lexical_grammar.specs.Strings.{hex_value}

abbrev pub invariant-loop-b : goal.invariant-loop-b
invariant-loop-b l = record {
  small : l.value ≤ 1114112;
  so_far : list_all is_hex_digit l.digits ≡ true
      → l.value ≡ min (hex_value (take l.b-index l.digits)) 1114112;
}
