use Rattle.std.proofs.Common.{◌≡◌, ◌∙◌, ℕ, List, ◌++◌, ap, sym, append_assoc}
use Rattle.gqlcheck_run.proofs.github.push_command_at.Goals as goal
use Rattle.gqlcheck_run.specs.GithubCommands.{command_of, position, property}

thrice : (old front middle last first second third : List ℕ) → first ≡ old ++ front → second ≡ first ++ middle
    → third ≡ second ++ last
    → third ≡ old ++ (front ++ middle ++ last)
thrice old front middle last first second third a b c =
    c ∙ ap (λ (t : List ℕ). t ++ last) (b ∙ ap (λ (t : List ℕ). t ++ middle) a)
    ∙ append_assoc (old ++ front) middle last
    ∙ append_assoc old front (middle ++ last) ∙ ap (λ (t : List ℕ). old ++ t) (sym (append_assoc front middle last))

pub returns : goal.returns
returns g c =
    let last : c.extend_from_slice-2.new.self.items ≡ c.push_property.new.lines.items ++ c.as_bytes.result.now =
    c.in_ok-extend_from_slice-2.ensures.items in
    let bytes : c.as_bytes.result.now ≡ position c.args.line c.args.column =
    c.as_bytes.ensures.value ∙ c.in_ok-position.ensures in
    thrice c.args.lines.now.items (command_of c.args.is_warning) (property c.args.name.now)
    (position c.args.line c.args.column) _ _ _
    (rw c.command_of.ensures at c.in_ok-extend_from_slice.ensures.items) c.in_ok-push_property.ensures
    (last ∙ ap (λ (t : List ℕ). c.push_property.new.lines.items ++ t) bytes)
