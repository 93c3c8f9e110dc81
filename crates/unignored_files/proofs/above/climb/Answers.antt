use Rattle.std.proofs.Common.{ℕ, Bool, List, [], ◌∷◌, map, reverse, false, true, ap, sym, ◌∙◌, subst, string_bytes}
use Rattle.std.specs.Path.{path_bytes}
use Rattle.file_access.proofs.Stacks.{reverse_more}
use Rattle.unignored_files.proofs.AboveLemmas.{begins, fewer_names, goes_up}
use Rattle.unignored_files.proofs.above.climb.Goals as goal
use Rattle.unignored_files.specs.Above.{Probes, at_root, at_top}

pub loop-folders-init : goal.loop-folders-init
loop-folders-init g c =
    rw (c.new-folders.ensures.items, c.new-folder.ensures) (begins g.F.Files.reads c.args.path.now c.args.files.now)

pub returns-then-branch-clause-ok : goal.returns-then-branch-clause-ok
returns-then-branch-clause-ok g c =
    c.loop-folders.invariant [] true _
    (at_top (subst (λ (it : Bool). Probes g.F.Files.reads (path_bytes c.loop-folders.folder) it
    c.loop-folders.files c.is_top.new.files)
    c.if-branch.true c.in_ok-is_top.ensures.ok))

pub returns-in_default-clause-ok : goal.returns-in_default-clause-ok
returns-in_default-clause-ok g c =
    c.loop-folders.invariant [] false _
    (at_root (subst (λ (it : Bool). Probes g.F.Files.reads (path_bytes c.loop-folders.folder) it
    c.loop-folders.files c.is_top.new.files)
    c.if-branch.false c.in_ok-is_top.ensures.ok) (sym c.in_default.ensures))

pub loop-folders-smaller : goal.loop-folders-smaller
loop-folders-smaller g c =
    fewer_names (path_bytes c.loop-folders.folder) (path_bytes c.in-Some.parent) (sym c.in-Some.ensures)

pub loop-folders-preserved : goal.loop-folders-preserved
loop-folders-preserved g c =
    goes_up g.F.Files.reads c.args.path.now (path_bytes c.loop-folders.folder) (path_bytes c.in-Some.parent) _ _ _ _ _
    c.loop-folders.invariant
    (subst (λ (it : Bool). Probes g.F.Files.reads (path_bytes c.loop-folders.folder) it
    c.loop-folders.files c.is_top.new.files)
    c.if-branch.false c.in_ok-is_top.ensures.ok)
    (sym c.in-Some.ensures)
    (ap (λ items. reverse (map string_bytes items)) c.in_ok-push.ensures.items
    ∙ reverse_more string_bytes c.loop-folders.folders.items c.in_ok-from_str.field-0
    ∙ ap (λ (path : List ℕ). path ∷ reverse (map string_bytes c.loop-folders.folders.items))
    (c.in_ok-from_str.ensures.ok ∙ c.as_str.ensures))
