use Rattle.std.proofs.Common.{◌≡◌, true, arith}
use Rattle.std.proofs.lemmas.Bool.Decides.{nat_tests}
use Rattle.formatter.proofs.Ignored.{laid-out, no-definitions}
use Rattle.formatter.proofs.Parses.{whatever-error}
use Rattle.formatter.proofs.comments.format_comments.Goals as goal

pub returns-clause-same : goal.returns-clause-same
returns-clause-same g c =
    let only : c.is_all_ignored.result ≡ true = grind (arith, nat_tests) in
    laid-out c.args.source.now _ c.utf8.source (c.is_all_ignored.ensures.tokens only)
    (c.is_all_ignored.ensures.none only) c.in_ok-text.ensures.same

pub returns-in_err-text-clause-long : goal.returns-in_err-text-clause-long
returns-in_err-text-clause-long g c =
    let only : c.is_all_ignored.result ≡ true = grind (arith, nat_tests) in
    whatever-error _ _ (no-definitions c.args.source.now c.utf8.source (c.is_all_ignored.ensures.tokens only)
    (c.is_all_ignored.ensures.none only))
