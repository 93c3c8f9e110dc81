use Rattle.std.proofs.Common.{refl}
use Rattle.std.proofs.lemmas.Result.{on_ok_weaker}
use Rattle.parser_rules.proofs.fragments.TypeRoots.{root-checkpoint, flushed-none, still-none, list-made, name-made}
use Rattle.parser_rules.proofs.fragments.TypeRoots.{none-made}
use Rattle.parser_rules.proofs.runs.Frame.{is-checkpoint, still-checkpoint}
use Rattle.apollo_grammar.proofs.grammar.ty.type_root.Goals as goal

pub close_type-requires : goal.close_type-requires
close_type-requires g c = record {
  first = c.requires.first;
  not_open = still-none c.in_ok-inside_list_type.ensures.runs
      (flushed-none c.args.p.now c.in_ok-checkpoint.ensures.flushed c.requires.not_open);
  checkpoint = still-checkpoint _ c.in_ok-inside_list_type.ensures.runs
      (is-checkpoint c.checkpoint.new.self _ c.in_ok-checkpoint.ensures.index);
  free = refl;
}

pub close_type-requires-then-at-2 : goal.close_type-requires-then-at-2
close_type-requires-then-at-2 g c = record {
  first = c.requires.first;
  not_open = still-none c.in_ok-name.ensures.runs
      (flushed-none c.args.p.now c.in_ok-checkpoint.ensures.flushed c.requires.not_open);
  checkpoint = still-checkpoint _ c.in_ok-name.ensures.runs
      (is-checkpoint c.checkpoint.new.self _ c.in_ok-checkpoint.ensures.index);
  free = refl;
}

pub wrap-requires : goal.wrap-requires
wrap-requires g c = root-checkpoint c.args.first.index c.err_and_pop.new.self c.requires.first
    (still-none c.in_ok-err_and_pop.ensures.runs
    (flushed-none c.args.p.now c.in_ok-checkpoint.ensures.flushed c.requires.not_open))

pub returns-then-at-clause-runs : goal.returns-then-at-clause-runs
returns-then-at-clause-runs g c =
    on_ok_weaker _ (λ e. list-made c.args.p.now _ c.in_ok-checkpoint.ensures.flushed
    c.in_ok-checkpoint.ensures.index c.if-at.ensures
    c.in_ok-inside_list_type.ensures.runs e) c.close_type.ensures.step

pub returns-then-at-2-clause-runs : goal.returns-then-at-2-clause-runs
returns-then-at-2-clause-runs g c =
    on_ok_weaker _ (λ e. name-made c.args.p.now _ c.in_ok-checkpoint.ensures.flushed c.in_ok-checkpoint.ensures.index
    c.if-at.ensures c.if-at-2.ensures
    c.in_ok-name.ensures.runs e) c.close_type-then-at-2.ensures.step

pub returns-clause-runs : goal.returns-clause-runs
returns-clause-runs g c =
    on_ok_weaker _ (λ e. none-made c.args.p.now c.args.first.index c.requires.first c.in_ok-checkpoint.ensures.flushed
    c.if-at.ensures c.if-at-2.ensures
    c.in_ok-err_and_pop.ensures.runs e) c.wrap.ensures.step
