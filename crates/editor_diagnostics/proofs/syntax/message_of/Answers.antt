use Rattle.std.proofs.Common.{◌++◌, List, ℕ, ap, ◌∙◌}
use Rattle.editor_diagnostics.proofs.syntax.message_of.Goals as goal
use Rattle.editor_diagnostics.specs.Syntax.{others_words, words_for}

pub returns : goal.returns
returns c =
    c.in_ok-push_others.ensures
    ∙ ap (λ (words : List ℕ). words ++ others_words c.args.group.now.others)
    (c.in_ok-text.ensures.ok ∙ c.words_for-words.ensures ∙ ap words_for c.message.ensures)
