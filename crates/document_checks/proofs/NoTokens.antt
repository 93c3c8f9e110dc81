-- A text without a definition is no document.
use Rattle.std.proofs.Common.{ℕ, List, [], map, refl, ap, ◌∙◌}
use Rattle.document_grammar.proofs.Texts.{one-cut}
use Rattle.document_grammar.specs.Booleans.{◌and◌, ◌or◌}
use Rattle.document_grammar.specs.Derivation.{Spells, document}
use Rattle.document_grammar.specs.Kinds.{DOCUMENT}
use Rattle.document_grammar.specs.Sentence.{token_of, tokens_of}
use Rattle.document_grammar.specs.Tree.{Tree, none}
use Rattle.grammar_machine.proofs.SentenceTheorems.{no-early-fault}
use Rattle.grammar_machine.specs.Machine.{IsStuck, arcs, at, ends, entries, fires, first, holds, is_leaf, move, second}
use Rattle.grammar_machine.specs.Machine.{start}
use Rattle.grammar_machine.specs.Table.{firsts, rows}
use Rattle.apollo_lexer.specs.declared.limits.Limits.{Limits}
use Rattle.apollo_tree.specs.Order.{Place}
use Rattle.formatter.specs.Within.{HasCommentsAlone}
use Rattle.document_checks.specs.Checking.{IsDocument}

-- The machine has no move at the beginning of a document, where the text ends there.
no_beginning : IsStuck document [] []
unfolding ◌and◌ ◌or◌ holds is_leaf at ends arcs entries rows firsts fires move first second
no_beginning = record { symbol = DOCUMENT; state = 0; children = none; above = []; reached = start; no_move = refl }

no_tokens : (t : Tree) → Spells [] t document → ⊥
no_tokens t spells = no-early-fault document [] [] no_beginning ([], t, [], spells, refl)

pub not_both : (limits : Limits) (source : List ℕ) (d : Place) → HasCommentsAlone limits source
    → IsDocument limits source d → ⊥
not_both limits source d comments is =
    let sentence = (is.promise.sound is.no_errors).0 in
    let same = one-cut source sentence.items comments.none.items sentence.cut comments.none.cut sentence.tokens in
    no_tokens _ (
      sentence.derivation,
      sentence.yield ∙ ap tokens_of same ∙ ap (map token_of) comments.none.none,
    )
