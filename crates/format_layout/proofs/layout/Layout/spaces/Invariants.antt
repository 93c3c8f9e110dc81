use Rattle.std.proofs.Common.{◌≡◌, ◌+◌, ◌*◌, ◌≤◌, string_bytes}
use Rattle.format_layout.proofs.layout.Layout.spaces.Given as goal
use Rattle.format_layout.specs.Laid.{Keeps, ended_length}

abbrev pub invariant-loop : goal.invariant-loop
invariant-loop g l = record {
  keeps : Keeps (string_bytes l.fn.self.text) l.fn.self.edge l.fn.self.tokens.value (string_bytes l.self.text)
      l.self.edge l.self.tokens.value;
  few : l.self.tokens.value ≡ l.fn.self.tokens.value;
  short : ended_length (string_bytes l.self.text) l.self.edge
      ≤ ended_length (string_bytes l.fn.self.text) l.fn.self.edge + 32 * l.counter;
}
