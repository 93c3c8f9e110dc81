use Rattle.std.proofs.Common.{◌∙◌, List, ℕ, ap, length, sym, None, arith}
use Rattle.document_grammar.specs.Forests.{count, text}
use Rattle.apollo_tree.proofs.Compacts.{all-fit, compacts-are}
use Rattle.apollo_tree.proofs.Places.{length-order}
use Rattle.apollo_tree.proofs.subtree.Subtree.into_compact.Goals as goal
use Rattle.apollo_tree.specs.Compact.{compact_elements}
use Rattle.apollo_tree.specs.Filled.{filled}
use Rattle.apollo_tree.specs.Open.{IsTree}
use Rattle.apollo_tree.specs.ReadBack.{length-records}
use Rattle.apollo_tree.specs.Records.{forest}
use Rattle.apollo_tree.specs.Table.{IsTable}
use Rattle.apollo_tree.specs.declared.record.Record.{Record}

table-of : (rs : List Record) (s : List ℕ) → IsTree (forest s rs) rs s → IsTable rs s
table-of rs s tree = record { table = tree.table; words = tree.words; root = tree.root; sound = tree.sound }

pub into_compact-requires : goal.into_compact-requires
into_compact-requires g c =
    let tree = c.self.invariant in
    let elements = ap length (sym tree.table) ∙ length-records 0 0 _ ∙ ap count c.self.view_is
    ∙ sym (length-order 0 0 None c.args.self) in
    let bytes = ap length (sym tree.words) ∙ ap (λ f. length (text f)) c.self.view_is in
    all-fit _ _ (table-of _ _ tree) (omega (arith, c.requires.few, elements)) (omega (arith, c.requires.short, bytes))

pub returns : goal.returns
returns g c =
    let same = compacts-are _ _ (table-of _ _ c.self.invariant) ∙ ap compact_elements c.self.view_is in
    c.into_compact.ensures ∙ ap (filled c.args.rows.now) same
