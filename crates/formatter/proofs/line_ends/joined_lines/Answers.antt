use Rattle.std.proofs.Common.{◌≡◌, ℕ, List, [], ◌∷◌, ◌++◌, ◌∙◌, sym, ap, subst, append-nil, append_assoc}
use Rattle.std.specs.Iterator.{YieldsFirstBy}
use Rattle.lexical_grammar.specs.Values.{Lines}
use Rattle.apollo_cst_core.proofs.LineReads.{some-line, yields-some}
use Rattle.apollo_cst_core.specs.LinesLeft.{lines_left}
use Rattle.formatter.proofs.line_ends.joined_lines.Goals as goal
use Rattle.formatter.proofs.lines.Ends.{later_lines}
use Rattle.formatter.proofs.lines.Lengths.{as-long-at-most}
use Rattle.formatter.specs.LineEnds.{end_bytes, joined_by}
use Rattle.formatter.specs.declared.line_ends.LineEnd.{LineEnd}

pub unwrap-first-requires : goal.unwrap-first-requires
unwrap-first-requires g c =
    yields-some (λ line. line.now) lines_left c.new-lines.result c.next.new.self c.next.result c.next.ensures.steps
    (λ none. some-line c.args.text.now (sym c.new-lines.ensures ∙ none))

-- the first line is written
begun : (end : LineEnd) (nothing other first : List ℕ) (left lines : List (List ℕ)) → nothing ≡ []
    → other ≡ nothing ++ first → lines ≡ first ∷ left
    → other ++ later_lines end left ≡ joined_by end lines
begun end nothing other first left lines n o l =
    ap (λ (t : List ℕ). t ++ later_lines end left) (o ∙ ap (λ (t : List ℕ). t ++ first) n) ∙ sym (ap (joined_by end) l)

-- one more line is
more : (end : LineEnd) (so_far middle other ending line : List ℕ) (old left : List (List ℕ)) → ending ≡ end_bytes end
    → middle ≡ so_far ++ ending
    → other ≡ middle ++ line → old ≡ line ∷ left
    → other ++ later_lines end left ≡ so_far ++ later_lines end old
more end so_far middle other ending line old left e m o l =
    ap (λ (t : List ℕ). t ++ later_lines end left)
    (o ∙ ap (λ (t : List ℕ). t ++ line) (m ∙ ap (λ (t : List ℕ). so_far ++ t) e))
    ∙ append_assoc (so_far ++ end_bytes end) line (later_lines end left)
    ∙ append_assoc so_far (end_bytes end) (line ++ later_lines end left)
    ∙ ap (λ (t : List ℕ). so_far ++ t) (sym (append_assoc (end_bytes end) line (later_lines end left)))
    ∙ ap (λ (ls : List (List ℕ)). so_far ++ later_lines end ls) (sym l)

all-written : (end : LineEnd) (other : List ℕ) (left : List (List ℕ)) → left ≡ []
    → other ≡ other ++ later_lines end left
all-written end other left e = sym (append-nil other) ∙ ap (λ (ls : List (List ℕ)). other ++ later_lines end ls) (sym e)

pub loop-line-init : goal.loop-line-init
loop-line-init g c =
    let steps = subst (λ r. YieldsFirstBy (λ line. line.now) lines_left c.new-lines.result r c.next.new.self)
    c.unwrap-first.ensures c.next.ensures.steps in
    begun c.args.end _ _ c.unwrap-first.result.now (lines_left c.next.new.self) (Lines c.args.text.now)
    c.in_ok-other.ensures.bytes
    c.in_ok-push_str.ensures.bytes (sym c.new-lines.ensures ∙ steps)

pub loop-line-preserved : goal.loop-line-preserved
loop-line-preserved g c =
    more c.args.end _ _ _ _ c.in-Some.line.now _ _ c.text.ensures c.in_ok-push_str-2.ensures.bytes
    c.in_ok-push_str-3.ensures.bytes c.in-Some.ensures.steps
    ∙ c.loop-line.invariant

pub returns-clause-lines : goal.returns-clause-lines
returns-clause-lines g c = all-written c.args.end _ _ c.in_default.ensures.steps.0 ∙ c.loop-line.invariant

pub returns-clause-short : goal.returns-clause-short
returns-clause-short g c =
    as-long-at-most c.args.end c.args.text.now _
    (all-written c.args.end _ _ c.in_default.ensures.steps.0 ∙ c.loop-line.invariant)
