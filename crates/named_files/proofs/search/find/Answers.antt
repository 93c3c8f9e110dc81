use Rattle.std.proofs.Common.{[], ◌∷◌, List, subst}
use Rattle.named_files.proofs.SearchLemmas.{popped, drained, stays, goes_on, ends, lists_on}
use Rattle.named_files.proofs.search.find.Goals as goal
use Rattle.named_files.specs.Finding.{FoundPath, none, folder}
use Rattle.named_files.specs.Search.{Advances, as_found_path, found_by}

pub returns-in_err-search-clause-lists : goal.returns-in_err-search-clause-lists
returns-in_err-search-clause-lists g c = none

pub loop-init : goal.loop-init
loop-init g c = record {
  advances =
      rw (c.in_ok-search.ensures.waiting, c.in_ok-search.ensures.found)
      (stays g.F.Files.lists (folder c.args.path.now ∷ []) [] c.args.files.now);
  lists = none;
}

pub returns-in_default-clause-ok : goal.returns-in_default-clause-ok
returns-in_default-clause-ok g c =
    let empty = drained as_found_path c.loop.search.waiting.items c.pop.new.self.items _ c.in_default.ensures.items
    c.in_default.ensures.rest
    c.in_default.ensures.cases.0 in
    ends g.F.Files.lists _ _ _ _
    (subst (λ (waiting : List FoundPath). Advances g.F.Files.lists (folder c.args.path.now ∷ []) []
    c.args.files.now waiting
    (found_by c.loop.search) c.loop.files)
    empty c.loop.invariant.advances)

pub returns-in_err-look-clause-lists : goal.returns-in_err-look-clause-lists
returns-in_err-look-clause-lists g c = lists_on g.F.Files.lists _ _ _ c.loop.invariant.lists c.look.ensures.lists

pub loop-preserved : goal.loop-preserved
loop-preserved g c = record {
  advances =
      let next = popped as_found_path c.loop.search.waiting.items c.pop.new.self.items c.in-Some.found_path
      c.in-Some.ensures.items in
      goes_on g.F.Files.lists _ _ _ _ _ _ _ _ _
      (subst (λ (waiting : List FoundPath). Advances g.F.Files.lists (folder c.args.path.now ∷ []) []
      c.args.files.now waiting
      (found_by c.loop.search) c.loop.files)
      next c.loop.invariant.advances) c.in_ok-look.ensures.ok;
  lists = lists_on g.F.Files.lists _ _ _ c.loop.invariant.lists c.look.ensures.lists;
}
