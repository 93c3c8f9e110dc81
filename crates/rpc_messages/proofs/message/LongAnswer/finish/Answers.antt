use Rattle.std.proofs.Common.{◌≡◌, ◌∙◌, Some, [], rules, sym}
use Rattle.std.proofs.lemmas.Result.{IfOk-weaker}
use Rattle.rpc_messages.proofs.Answered.{refused_is, whole_answers, whole_is}
use Rattle.rpc_messages.proofs.message.LongAnswer.finish.Goals as goal
use Rattle.rpc_messages.specs.Nesting.{expected_in}

pub returns-then-is_whole-clause-member : goal.returns-then-is_whole-clause-member
returns-then-is_whole-clause-member c =
    let whole : expected_in c.self.inside.nesting ≡ Some [] = search rules in
    IfOk-weaker c.end.result _ _
    (λ body h. λ ts e. whole_is _ c.self.inside.out.tokens ts _ (c.self.view_is ∙ e) (sym c.self.invariant.nests
    ∙ whole) h) c.end.ensures

pub returns-then-is_whole-clause-answers : goal.returns-then-is_whole-clause-answers
returns-then-is_whole-clause-answers c =
    let whole : expected_in c.self.inside.nesting ≡ Some [] = search rules in
    IfOk-weaker c.end.result _ _
    (λ body h. whole_answers _ c.self.inside.out.tokens c.requires.begun.result _ (c.self.view_is ∙ c.requires.begun.is)
    (sym c.self.invariant.nests
    ∙ whole) h) c.end.ensures

pub returns-else-is_whole-clause-member : goal.returns-else-is_whole-clause-member
returns-else-is_whole-clause-member c =
    let not_whole : expected_in c.self.inside.nesting ≡ Some [] → ⊥ = search rules in
    IfOk-weaker c.refusal.result _ _
    (λ body h. λ ts e. refused_is _ c.self.inside.out.tokens ts _ (c.self.view_is ∙ e) _
    (λ n. not_whole (c.self.invariant.nests
    ∙ n)) h) c.refusal.ensures.refuses
